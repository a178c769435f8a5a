-- A block keeps at most 64 replies: each answers a request or a return that was open, and no order is taken between them.
-- Assumes nothing.
use mathlib.Core.Path.{◌≡◌, refl, sym, ap}
use mathlib.Core.Logic.{inl, inr}
use mathlib.Core.Bool.{true, false}
use lib.Dec.{eqb}
use mathlib.Core.List.{List, [], ◌∷◌}
use Prim.Native.Nat.{ℕ, zero, suc, ◌+◌, ◌≤◌, ◌<◌}
use native.Mathlib.Omega.{arith}
use lib.ListN.{length, drop}
use lib.Seq.{get_or-set_same, get_or-set_other}
use Rattle.bounded.specs.Bounded.{sum}
use Rattle.bounded.proofs.Bools.{which, clash}
use Rattle.bounded.proofs.Sums.{sum_one, sum-most}
use Rattle.network.specs.declared.Network.{Network}
use Rattle.standing.specs.Standing.{free, held, lost}
use Rattle.run.specs.State.{code, put}
use Rattle.run.specs.Replies.{settle, Replied}
use Rattle.run.specs.declared.Run.{Run}
use Rattle.run.proofs.Cases.{ReplyCase, misfit, confirmed, refused, again, returned, kept, reply-case}
use Rattle.guarantee.specs.Machine.{reply_to}
use Rattle.guarantee.proofs.Moved.{awaits}
use Rattle.run.proofs.Exits.{settle-codes}
use Rattle.lent_state.specs.Lines.{fault_number}
use Rattle.lent_state.specs.declared.LineFault.{LineFault}
use Rattle.lent_state.specs.declared.LineFault.TheVariants.{Misformed, Unfit}
use Rattle.lent_state.proofs.Limits.{numbered-size}
use Rattle.std.specs.Prelude.{Option, Some, None}
use Rattle.event_lines.specs.declared.Event.{Event}
use Rattle.block_calls.specs.Block.{kept_of, fault_of, block_of}

-- how many replies are awaited
pub opens : Run → ℕ
opens r = sum (λ b. awaits (code r b)) 64

awaits-one : (c : ℕ) → awaits c ≤ 1
awaits-one zero = omega arith
awaits-one (suc zero) = omega arith
awaits-one (suc (suc zero)) = omega arith
awaits-one (suc (suc (suc zero))) = omega arith
awaits-one (suc (suc (suc (suc c)))) = omega arith

opens-few : (r : Run) → opens r ≤ 64
unfolding opens
opens-few r = omega (arith, sum-most (λ b. awaits (code r b)) 1 64 (λ k h. awaits-one (code r k)))

-- one reply fewer
abbrev Fewer : Run → Run → Type 0
Fewer r t = opens t + 1 ≡ opens r

module _ (g : Network) (few : g.n ≤ 64) (r : Run) (size : length r.code ≡ 64) where
  put-fewer : (x v : ℕ) → x < g.n → awaits (code r x) ≡ 1 → awaits v ≡ 0 → Fewer r (put r x v)
  unfolding opens code
  put-fewer x v h o n =
      let now : awaits (code (put r x v) x) ≡ 0 = rw (get_or-set_same r.code x v 0 (omega arith)) n in
      omega (arith, now, sum_one (λ b. awaits (code (put r x v) b)) (λ b. awaits (code r b)) 64 x (omega arith) (λ b d. ap awaits (get_or-set_other r.code x b v 0 d)))

  -- the switch changes no code
  settle-fewer : (s : Run) → Fewer r s → Fewer r (settle g s)
  unfolding opens code
  settle-fewer s f = rw (settle-codes g s) f

  reply-fewer : (l x : ℕ) {t : Replied} → ReplyCase g r l x t → t.taken ≡ true → Fewer r t.run
  reply-fewer l x misfit d = clash true refl (sym d)
  reply-fewer l x (confirmed h m e) d = settle-fewer (put r x held) (put-fewer x held h (rw m) refl)
  reply-fewer l x (refused h m e z) d = settle-fewer (put r x lost) (put-fewer x lost h (rw m) refl)
  reply-fewer l x (again h m e z) d = settle-fewer (put r x free) (put-fewer x free h (rw m) refl)
  reply-fewer l x (returned h m e) d = put-fewer x free h (rw m) refl
  reply-fewer l x (kept h m e) d = put-fewer x held h (rw m) refl

  numbered-fewer : (l b : ℕ) → (reply_to g r l b).taken ≡ true → Fewer r (reply_to g r l b).run
  unfolding reply_to
  numbered-fewer l zero d = clash true refl (sym d)
  numbered-fewer l (suc x) d = reply-fewer l x (reply-case g r l x) d

module _ (g : Network) (few : g.n ≤ 64) where
  kept-fewer : (r : Run) → length r.code ≡ 64 → (lines : List (Option Event)) → length (kept_of g r lines) ≤ opens r
  unfolding kept_of
  kept-fewer r size [] = omega arith
  kept-fewer r size (Some v ∷ lines) = let t = reply_to g r v.letter v.booking in elim (which t.taken) [
    | inl e ↦ rw e (omega (arith, numbered-fewer g few r size v.letter v.booking e, kept-fewer t.run (numbered-size g r size v.letter v.booking) lines))
    | inr e ↦ rw e (omega arith)
  ]
  kept-fewer r size (None ∷ lines) = omega arith

  pub kept-few : (r : Run) → length r.code ≡ 64 → (lines : List (Option Event)) → (block_of g r lines).kept ≤ 64
  unfolding block_of
  kept-few r size lines = omega (arith, kept-fewer r size lines, opens-few r)

fault-small : (lines : List (Option Event)) → fault_of lines ≤ 9
unfolding fault_of
fault-small [] = omega arith
fault-small (Some e ∷ lines) = omega arith
fault-small (None ∷ lines) = omega arith

pub fault-few : (g : Network) (r : Run) (lines : List (Option Event)) → (block_of g r lines).fault ≤ 9
unfolding block_of
fault-few g r lines = fault-small (drop (length (kept_of g r lines)) lines)

-- the numbers of the faults
pub fault-known : (f : LineFault) → (eqb (fault_number f) 0 ≡ false) × (fault_number f ≤ 9)
unfolding fault_number
fault-known Misformed = (refl, omega arith)
fault-known Unfit = (refl, omega arith)
