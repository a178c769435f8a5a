-- What restart gives, and what it leaves, at each of its exits.
-- Assumes nothing.
use mathlib.Core.Path.{◌≡◌, refl}
use mathlib.Core.Bool.{true, false, ◌&&◌}
use mathlib.Core.List.{List}
use Prim.Native.Nat.{ℕ, zero, suc, ◌<◌}
use native.Mathlib.Omega.{arith}
use lib.Dec.{eqb, leb}
use lib.ListN.{length}
use borrow.Author.Tests.{eq-eqb, ne_eqb, leb-true}
use Rattle.std.specs.Prelude.{Result, Ok, Err, ⊤}
use Rattle.bounded.proofs.Bools.{by_cond, and-no-r}
use Rattle.network.specs.declared.Chart.{Chart}
use Rattle.run.specs.Bytes.{bytes_of}
use Rattle.guarantee.specs.Answers.{pack}
use Rattle.calls.specs.Calls.{network_in, sheet_passes, check_call}
use Rattle.calls.specs.Refusals.{refusal_bits, refusal_place, Answers, Refused, Passed}
use Rattle.calls.specs.declared.Refusal.{Refusal}
use Rattle.calls.specs.declared.Refusal.TheVariants.{State}
use Rattle.journal_calls.specs.Restart.{replay, wrong_line, line_place, replay_bits, restart_call, restarts, restart_leaves}

-- a line's place fits its 16 bits
pub place-small : (i : ℕ) → line_place i < 65536
unfolding line_place
place-small i = by_cond (λ (p : ℕ). p < 65536) {t = leb i 65535} {a = i} {b = 65535} (λ e. omega (arith, leb-true i 65535 e)) (λ e. omega arith)

-- what is told of the first wrong line's number
none-wrong : (n : ℕ) (u : ⊤) → Ok u ≡ wrong_line n → eqb n 0 ≡ true
unfolding wrong_line
none-wrong zero u e = refl
none-wrong (suc n) u e = absurd (cc)

one-wrong : (n i : ℕ) → Err i ≡ wrong_line n → (eqb n 0 ≡ false) × (i ≡ n)
unfolding wrong_line
one-wrong zero i e = absurd (cc)
one-wrong (suc n) i e = (ne_eqb (suc n) 0 (λ z. omega arith), cc)

module _ (s j bs : List ℕ) where
  -- what is given for these bytes, and what it leaves of them
  abbrev pub Out : Result ℕ Refusal → List ℕ → Type 0
  Out t after = Answers (restart_call s j bs) t × (after ≡ restart_leaves s j bs)

  pub refused : (r : Refusal) → Refused (sheet_passes s) (check_call s) r → Out (Err r) bs
  unfolding restart_call restarts restart_leaves
  refused r h = (rw h.fails (record { bits = h.bits; fits = h.fits }), rw h.fails)

  module _ (c : Chart) (h : Passed (sheet_passes s) (network_in s) c) where
    pub short : (length bs ≡ 65 → ⊥) → Out (Err State) bs
    unfolding restart_call restarts restart_leaves refusal_bits refusal_place
    short d = (record { bits = rw (h.holds, ne_eqb (length bs) 65 d); fits = omega arith }, rw (h.holds, ne_eqb (length bs) 65 d))

    module _ (size : length bs ≡ 65) where
      pub wrong : (i : ℕ) → Err i ≡ wrong_line (replay c.network j).wrong → (p : ℕ) → p ≡ line_place i → (x : ℕ) → x ≡ pack 0 12 p → Out (Ok x) bs
      unfolding restart_call restarts restart_leaves replay_bits
      wrong i e p ep x q =
          let o = one-wrong (replay (network_in s) j).wrong i (rw h.network at e) in
          let off : restarts s j bs ≡ false = and-no-r (sheet_passes s) (eqb (length bs) 65 && eqb (replay (network_in s) j).wrong 0) (and-no-r (eqb (length bs) 65) _ o.0) in
          (record { bits = rw (h.holds, eq-eqb (length bs) 65 size, o.0, ← o.1, ← ep) q; fits = tt }, rw off)

      pub right : (u : ⊤) → Ok u ≡ wrong_line (replay c.network j).wrong → (x : ℕ) → x ≡ pack 6 0 0 → (after : List ℕ) → after ≡ bytes_of (replay c.network j).run → Out (Ok x) after
      unfolding restart_call restarts restart_leaves replay_bits
      right u e x q after w =
          let z = none-wrong (replay (network_in s) j).wrong u (rw h.network at e) in
          (record { bits = rw (h.holds, eq-eqb (length bs) 65 size, z) q; fits = tt }, rw (h.holds, eq-eqb (length bs) 65 size, z) (rw h.network at w))
