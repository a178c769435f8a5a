-- The whole campaign: for every sheet that passes and every list of calls, on bytes and in 32 bits.
-- Assumes nothing.
use mathlib.Core.Path.{◌≡◌, refl, sym, ap, ap₂, ◌∙◌}
use mathlib.Core.Bool.{true}
use mathlib.Core.List.{List, [], ◌∷◌, map}
use Prim.Native.Nat.{ℕ}
use lib.ListN.{length, drop}
use borrow.Author.Tests.{eq-eqb}
use Rattle.bounded.proofs.Bools.{◌&◌}
use Rattle.lines.specs.Form.{ways_place}
use Rattle.lines.specs.Head.{limit_in}
use Rattle.plan.specs.Limits.{ours}
use Rattle.sheet.specs.Sheet.{sheet_of}
use Rattle.sheet.proofs.Accepted.{sheet-valid, sheet-limit, sheet-letters, sheet-desks, sheet-counts, sheet-ways}
use Rattle.plan.proofs.Valid.{Valid}
use Rattle.network.specs.FromPlan.{network_of}
use Rattle.network.specs.Network.{way_of, in_way}
use Rattle.network.proofs.Letters.{firm-is, repeats-is}
use Rattle.network.proofs.Desks.{desk-is}
use Rattle.ways.specs.Ways.{counts_listed}
use Rattle.ways.specs.WayText.{size_at}
use Rattle.run.specs.State.{start}
use Rattle.run.specs.Bytes.{bytes_of}
use Rattle.run.specs.declared.Run.{Run}
use Rattle.run.proofs.Facts.{Sound}
use Rattle.guarantee.specs.Machine.{Asked, next_order, answer, machine_answers, final}
use Rattle.guarantee.specs.Calls.{call_bits, answers_to, order_after}
use Rattle.guarantee.specs.Counted.{ends, way_size, way_sizes}
use Rattle.guarantee.specs.Guarantee.{Guarantee}
use Rattle.guarantee.proofs.Bytes.{same-run, fine as sound-bytes, call-bits, call-bytes, calls-left}
use Rattle.guarantee.proofs.Start.{start-sound}
use Rattle.guarantee.proofs.Whole.{travel}
use Rattle.guarantee.proofs.Plans.{plan-campaign}
use Rattle.calls.specs.Calls.{network_within, network_in, sheet_passes, start_leaves, asked_call, asked_leaves, in_order}
use Rattle.calls.proofs.InOrder.{fine, checked, passing}
use Rattle.block_calls.specs.Block.{block_in, block_call, block_leaves}
use Rattle.whole_campaign.specs.Calls.{Call, single, block, singles, gives, leaves, gives_by, leaves_by}
use Rattle.whole_campaign.specs.Lists.{answers_on, states_on, left_on, answers_by, states_by}
use Rattle.whole_campaign.specs.Singly.{singly_on, told_on}
use Rattle.whole_campaign.specs.Whole.{WholeCampaign}
use Rattle.whole_campaign.proofs.Parts.{flat, final_by, flat-final, singles-final, singles-answers, sound-after, told-calls, told-answers}

module _ (s : List ℕ) (e : sheet_passes s ≡ true) where
  -- the ways of the sheet and the counts on its lines
  listed-sizes : way_sizes (network_in s) ≡ counts_listed (sheet_of s).plan.a (drop (ways_place (sheet_of s).plan.n (sheet_of s).plan.m) s)
  unfolding way_sizes way_size way_of network_within network_of size_at
  listed-sizes = sym (sheet-counts ours s (fine s e))

  -- its limit is the head's last number
  listed-limit : (network_in s).limit ≡ limit_in s
  unfolding network_within network_of
  listed-limit = sym (sheet-limit ours s (fine s e))

  valid-plan : Valid (sheet_of s).plan
  valid-plan = sheet-valid ours s (fine s e)

  guaranteed : (qs : List Asked) → Guarantee (network_in s) qs
  unfolding network_within
  guaranteed qs = plan-campaign (sheet_of s).plan valid-plan (checked s e) qs

  -- ---- on a sound state the calls on bytes are the plain machine's

  asked_is : (bs : List ℕ) (q : Asked) → asked_call s bs q ≡ call_bits (network_in s) bs q
  unfolding asked_call
  asked_is bs q = rw e

  module _ (r : Run) (k : Sound (network_in s) r) where
    order : in_order s (bytes_of r) ≡ true
    unfolding in_order
    order = e & sound-bytes (network_in s) (passing s e) r k

    pub gives-is : (c : Call) → gives s (bytes_of r) c ≡ gives_by (network_in s) r c
    unfolding gives gives_by block_call block_in
    gives-is (single q) = asked_is (bytes_of r) q ∙ call-bits (network_in s) (passing s e) r k q
    gives-is (block lines) = rw (order, same-run r)

    pub leaves-is : (c : Call) → leaves s (bytes_of r) c ≡ bytes_of (leaves_by (network_in s) r c)
    unfolding leaves leaves_by asked_leaves block_leaves block_in
    leaves-is (single q) = rw e (call-bytes (network_in s) (passing s e) r k q)
    leaves-is (block lines) = rw (order, same-run r)

  then : (r : Run) → Sound (network_in s) r → (c : Call) → Sound (network_in s) (leaves_by (network_in s) r c)
  then r k c = sound-after (network_in s) (passing s e) r k c

  pub answers-is : (r : Run) → Sound (network_in s) r → (cs : List Call) → answers_on s (bytes_of r) cs ≡ answers_by (network_in s) r cs
  unfolding answers_on answers_by
  answers-is r k [] = refl
  answers-is r k (c ∷ cs) = ap₂ ◌∷◌ (gives-is r k c) (rw (leaves-is r k c) (answers-is (leaves_by (network_in s) r c) (then r k c) cs))

  states-is : (r : Run) → Sound (network_in s) r → (cs : List Call) → states_on s (bytes_of r) cs ≡ map bytes_of (states_by (network_in s) r cs)
  unfolding states_on states_by
  states-is r k [] = refl
  states-is r k (c ∷ cs) = ap₂ ◌∷◌ (leaves-is r k c) (rw (leaves-is r k c) (states-is (leaves_by (network_in s) r c) (then r k c) cs))

  pub left_is : (r : Run) → Sound (network_in s) r → (cs : List Call) → left_on s (bytes_of r) cs ≡ bytes_of (final_by (network_in s) r cs)
  unfolding left_on final_by
  left_is r k [] = refl
  left_is r k (c ∷ cs) = rw (leaves-is r k c) (left_is (leaves_by (network_in s) r c) (then r k c) cs)

  -- ---- from the start

  begun : Sound (network_in s) start
  begun = start-sound (network_in s) (passing s e)

  -- the single calls that a list stands for
  plain : List Call → List Asked
  plain cs = flat (network_in s) start cs

  bits_is : (cs : List Call) → answers_on s (bytes_of start) cs ≡ answers_by (network_in s) start cs
  bits_is cs = answers-is start begun cs

  singly-is : (cs : List Call) → singly_on s (bytes_of start) cs ≡ plain cs
  unfolding singly_on plain
  singly-is cs = rw (bits_is cs) (told-calls (network_in s) (passing s e) start begun cs)

  told_is : (cs : List Call) → told_on s (bytes_of start) cs ≡ machine_answers (network_in s) start (plain cs)
  unfolding told_on plain
  told_is cs = rw (bits_is cs) (told-answers (network_in s) (passing s e) start begun cs)

  -- the answers to the calls of a list, given singly, are the plain machine's
  pub told-machine : (cs : List Call) → told_on s (bytes_of start) cs ≡ machine_answers (network_in s) start (singly_on s (bytes_of start) cs)
  told-machine cs = told_is cs ∙ ap (machine_answers (network_in s) start) (sym (singly-is cs))

  -- the bytes after a list of calls are those of the plain machine's last state
  pub left-final : (cs : List Call) → left_on s (bytes_of start) cs ≡ bytes_of (final (network_in s) start (singly_on s (bytes_of start) cs))
  unfolding plain
  left-final cs = rw (singly-is cs) (left_is start begun cs ∙ ap bytes_of (sym (flat-final (network_in s) start cs)))

  -- of a list without blocks too
  pub singles-left : (qs : List Asked) → left_on s (bytes_of start) (singles qs) ≡ bytes_of (final (network_in s) start qs)
  singles-left qs = left_is start begun (singles qs) ∙ ap bytes_of (singles-final (network_in s) start qs)

  pub singles-bits : (qs : List Asked) → answers_on s (bytes_of start) (singles qs) ≡ machine_answers (network_in s) start qs
  singles-bits qs = bits_is (singles qs) ∙ singles-answers (network_in s) start qs

  -- and the answer to a call after it is the machine's
  pub answer-is : (cs : List Call) (q : Asked)
      → asked_call s (left_on s (bytes_of start) cs) q ≡ answer (network_in s) (final (network_in s) start (singly_on s (bytes_of start) cs)) q
  answer-is cs q =
      let t = final (network_in s) start (singly_on s (bytes_of start) cs) in
      let k = travel (network_in s) (passing s e) start begun (singly_on s (bytes_of start) cs) in
      rw (left-final cs) (asked_is (bytes_of t) q ∙ call-bits (network_in s) (passing s e) t k.sound q)

  pub started : (bs : List ℕ) → length bs ≡ 65 → start_leaves s bs ≡ bytes_of start
  unfolding start_leaves
  started bs h = rw (e, eq-eqb (length bs) 65 h)

  -- every list of calls from the first state has the guarantee
  pub from_start : (cs : List Call) → WholeCampaign s (bytes_of start) cs
  unfolding answers_to order_after in_way way_of network_within network_of
  from_start cs =
      let qs : List Asked = singly_on s (bytes_of start) cs in
      let g = guaranteed qs in
      let a : told_on s (bytes_of start) cs ≡ answers_to (network_in s) qs = told-machine cs ∙ sym g.bits in
      let x : asked_call s (left_on s (bytes_of start) cs) next_order ≡ order_after (network_in s) qs =
      asked_is (left_on s (bytes_of start) cs) next_order ∙ ap (λ (bs : List ℕ). call_bits (network_in s) bs next_order) (left-final cs ∙ sym (calls-left (network_in s) (passing s e) start begun qs)) in
      record {
        bits = bits_is cs;
        bytes = states-is start begun cs;
        same_answers = singles-bits qs ∙ sym g.bits ∙ sym a;
        same_state = singles-left qs ∙ sym (left-final cs);
        demand_3 = rw (a, x) g.demand_3;
        sizes = listed-sizes;
        ways = (refl, λ w b h. sym (sheet-ways ours s (fine s e) w b h));
        kinds = λ b h. rw (sheet-letters ours s (fine s e) b h) (firm-is (sheet_of s).plan valid-plan b h, repeats-is (sheet_of s).plan valid-plan b h);
        desks = λ d b l h. rw (sheet-desks ours s (fine s e) b h) (desk-is (sheet_of s).plan d b l h);
        limit = listed-limit;
        semi_atomic = λ z. rw a (g.semi_atomic (ap ends (sym x) ∙ z));
      }

  -- so it has from the state that start leaves, whatever the 65 bytes were before
  pub whole-campaign : (bs : List ℕ) → length bs ≡ 65 → (cs : List Call) → WholeCampaign s (start_leaves s bs) cs
  whole-campaign bs h cs = rw (started bs h) (from_start cs)
