-- A joined plan that passes has two parts that pass: what a refuge of the whole is to a part is a refuge of the part.
-- Assumes nothing.
use mathlib.Core.Path.{◌≡◌, sym, ap, ◌∙◌}
use mathlib.Core.Logic.{inl, inr}
use mathlib.Core.Bool.{Bool, true, false}
use Prim.Native.Nat.{ℕ, zero, suc, ◌+◌, ◌*◌, ◌-◌, ◌/◌, ◌%◌, ◌<◌}
use native.Mathlib.Omega.{arith}
use native.Mathlib.Nat.{add-zero}
use lib.ListN.{get_or}
use Rattle.bounded.proofs.Bools.{clash, off}
use Rattle.sets.specs.Sets.{member, gather}
use Rattle.sets.proofs.Gather.{member-gather}
use Rattle.plan.specs.Limits.{ours}
use Rattle.plan.specs.declared.Plan.{Plan}
use Rattle.plan.proofs.Valid.{Valid}
use Rattle.network.specs.declared.Network.{Network}
use Rattle.network.specs.FromPlan.{is_firm, is_exposed, of_kind, network_of}
use Rattle.network.specs.Network.{in_way, pre, firm, exposed}
use Rattle.network.proofs.Facts.{Shape}
use Rattle.network.proofs.Plans.{shape}
use Rattle.verdict.specs.Check.{stranding}
use Rattle.verdict.proofs.Facts.{Stays, Refuge, Passes}
use Rattle.verdict.proofs.Refuges.{none-strands}
use Rattle.join.specs.Join.{joined_plan}
use Rattle.join.proofs.Pairs.{first_of, second-of, place-first, place-second, place-lt, past_first, past-second}
use Rattle.join.proofs.Entries.{Within, entry_first, entry-second}
use Rattle.join.proofs.Parts.{pre-first, pre-second}
use Rattle.join.proofs.Clean.{in-first, in-second}

-- ---- a part of a network

-- h is a part of g: its booking b is booking up b of g, and way k + 1 of g takes in its way pick k + 1
pub record Part (g h : Network) (up pick : ℕ → ℕ) : Type 0 where
  pub firms : (b : ℕ) → b < h.n → firm g (up b) ≡ firm h b
  pub exposes : (b : ℕ) → b < h.n → exposed g (up b) ≡ exposed h b
  pub inside : (k b : ℕ) → k < g.a → b < h.n → in_way g (suc k) (up b) ≡ in_way h (suc (pick k)) b
  pub order : (u v : ℕ) → u < h.n → v < h.n → pre g (up u) (up v) ≡ true → pre h u v ≡ true
  pub one : (u v : ℕ) → up u ≡ up v → u ≡ v
  pub few : (k : ℕ) → k < g.a → pick k < h.a
  -- of the ways that take in its way i + 1 one is the last, and those after it take in later ones
  pub last : (i : ℕ) → i < h.a → (k : ℕ) × (k < g.a) × (pick k ≡ i) × ((j : ℕ) → k < j → j < g.a → i < pick j)

module _ (g h : Network) (up pick : ℕ → ℕ) (part : Part g h up pick) (sh : Shape h) (ok : Passes g) where
  module _ (i x k : ℕ) (hi : i < h.a) (hx : x < h.n) (hk : k < g.a) (e : pick k ≡ i) (after : (j : ℕ) → k < j → j < g.a → i < pick j) where
    inside-i : (b : ℕ) → b < h.n → in_way g (suc k) (up b) ≡ in_way h (suc i) b
    inside-i b l = part.inside k b hk l ∙ ap (λ (j : ℕ). in_way h (suc j) b) e

    -- what stays in the part stays in the whole
    stays_up : (s : ℕ) → Stays h (suc i) x s → Stays g (suc k) (up x) (up s)
    stays_up s t =
        let l : s < h.n = sh.way-n (suc i) s hi t.inside in
        record {
          is-firm = part.firms s l ∙ t.is-firm;
          inside = inside-i s l ∙ t.inside;
          other = λ z. t.other (part.one s x z);
          apart = off (pre g (up x) (up s)) (λ p. clash (pre h x s) (part.order x s hx l p) t.apart);
        }

    refuge-down : (j : ℕ) → Refuge g (suc k) (up x) j → (d : ℕ) × Refuge h (suc i) x d
    refuge-down zero r = absurd (omega (arith, r.later))
    refuge-down (suc j) r = (
      suc (pick j),
      record {
        later = omega (arith, after j (omega (arith, r.later)) r.listed);
        listed = part.few j r.listed;
        has = λ s t. sym (part.inside j s r.listed (sh.way-n (suc i) s hi t.inside)) ∙ r.has (up s) (stays_up s t);
        safe = λ y p q.
            let l : y < h.n = sh.way-n (suc (pick j)) y (part.few j r.listed) q in
            elim (r.safe (up y) (part.exposes y l ∙ p) (part.inside j y r.listed l ∙ q)) [
              | inl z ↦ inl (part.order y x l hx z)
              | inr z ↦ inr (λ s t. elim (z (up s) (stays_up s t)) [
                | inl a ↦ inl (part.one y s a)
                | inr a ↦ inr (part.order y s l (sh.way-n (suc i) s hi t.inside) a)
              ])
            ];
      },
    )

  pub part-safe : (i x : ℕ) → i < h.a → x < h.n → stranding h (suc i) x ≡ false
  part-safe i x hi hx = none-strands h (suc i) x (λ s e n t.
      let w = part.last i hi in
      let k = w.0 in
      let r = ok.refuge (suc k) (up x) (up s) w.1 (part.exposes x hx ∙ e) (inside-i i x k hi hx w.1 w.2 w.3 x hx ∙ n) (stays_up i x k hi hx w.1 w.2 w.3 s t) in
      refuge-down i x k hi hx w.1 w.2 w.3 r.0 r.1)

-- ---- the two parts of a joined plan

module _ (p q : Plan) (v : Valid p) (w : Valid q) (c : Within p q) where
  kind-first : (f : ℕ → Bool) (b : ℕ) → b < p.n → member (gather (of_kind f (joined_plan p q).kind) (p.n + q.n)) b ≡ member (gather (of_kind f p.kind) p.n) b
  unfolding joined_plan of_kind ours
  kind-first f b h =
      member-gather (of_kind f (joined_plan p q).kind) (p.n + q.n) b (omega arith)
      ∙ ap f (entry_first 64 p.n q.n 0 p.kind q.kind c.bookings b h)
      ∙ sym (member-gather (of_kind f p.kind) p.n b h)

  kind-second : (f : ℕ → Bool) (b : ℕ) → b < q.n → member (gather (of_kind f (joined_plan p q).kind) (p.n + q.n)) (p.n + b) ≡ member (gather (of_kind f q.kind) q.n) b
  unfolding joined_plan of_kind ours
  kind-second f b h =
      member-gather (of_kind f (joined_plan p q).kind) (p.n + q.n) (p.n + b) (omega arith)
      ∙ ap f (entry-second 64 p.n q.n 0 p.kind q.kind c.bookings b h ∙ add-zero (get_or q.kind b 0))
      ∙ sym (member-gather (of_kind f q.kind) q.n b h)

  last-first : (i : ℕ) → i < p.a → (k : ℕ) × (k < p.a * q.a) × (k / q.a ≡ i) × ((j : ℕ) → k < j → j < p.a * q.a → i < j / q.a)
  last-first i h =
      let o = w.counts.some_way in
      let l : q.a - 1 < q.a = omega arith in
      (q.a - 1 + i * q.a, place-lt p.a q.a i (q.a - 1) h l, place-first p.a q.a i (q.a - 1) h l, λ j g k. past_first q.a i j o g)

  last-second : (i : ℕ) → i < q.a → (k : ℕ) × (k < p.a * q.a) × (k % q.a ≡ i) × ((j : ℕ) → k < j → j < p.a * q.a → i < j % q.a)
  last-second i h =
      let o : p.a - 1 < p.a = omega (arith, v.counts.some_way) in
      (i + (p.a - 1) * q.a, place-lt p.a q.a (p.a - 1) i o h, place-second p.a q.a (p.a - 1) i o h, λ j g k. past-second p.a q.a i j w.counts.some_way g k)

  part-first : Part (network_of (joined_plan p q)) (network_of p) (λ b. b) (λ k. k / q.a)
  unfolding network_of firm exposed joined_plan
  part-first = record {
    firms = kind-first is_firm;
    exposes = kind-first is_exposed;
    inside = λ k b h l. in-first p q v w c k b h l;
    order = λ x y h l e. sym (pre-first p q v w c x y h l) ∙ e;
    one = λ x y e. e;
    few = λ k h. first_of p.a q.a k w.counts.some_way h;
    last = last-first;
  }

  part-second : Part (network_of (joined_plan p q)) (network_of q) (λ b. p.n + b) (λ k. k % q.a)
  unfolding network_of firm exposed joined_plan
  part-second = record {
    firms = kind-second is_firm;
    exposes = kind-second is_exposed;
    inside = λ k b h l. in-second p q v w c k b h;
    order = λ x y h l e. sym (pre-second p q v w c x y) ∙ e;
    one = λ x y e. omega arith;
    few = λ k h. second-of q.a k w.counts.some_way;
    last = last-second;
  }

  pub first-safe : Passes (network_of (joined_plan p q)) → (k x : ℕ) → k < p.a → x < p.n → stranding (network_of p) (suc k) x ≡ false
  unfolding network_of
  first-safe ok = part-safe (network_of (joined_plan p q)) (network_of p) (λ b. b) (λ k. k / q.a) part-first (shape p v) ok

  pub second-safe : Passes (network_of (joined_plan p q)) → (k x : ℕ) → k < q.a → x < q.n → stranding (network_of q) (suc k) x ≡ false
  unfolding network_of
  second-safe ok = part-safe (network_of (joined_plan p q)) (network_of q) (λ b. p.n + b) (λ k. k % q.a) part-second (shape q w) ok
