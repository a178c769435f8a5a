-- The laws of a framed line: its size, its letter, its line feed.
-- Assumes nothing.
use Prim.Native.Nat.{ℕ, suc, ◌-◌, ◌<◌}
use mathlib.Core.Path.{◌≡◌, ap, ◌∙◌}
use mathlib.Core.List.{List, [], ◌∷◌}
use mathlib.Core.Bool.{true, false, ◌&&◌}
use native.Mathlib.Omega.{arith}
use lib.ListN.{length, get_or, drop, drop_of_length-le}
use lib.Seq.{drop-cons}
use lib.Dec.{eqb}
use borrow.Author.Tests.{eqb-true}
use Rattle.bounded.proofs.Bools.{clash, and_l, and_r}
use Rattle.lines.specs.Form.{is_framed}

-- ---- the facts that it stands for

pub record Framed (letter w : ℕ) (line : List ℕ) : Type 0 where
  pub size : length line ≡ w
  pub begins : get_or line 0 0 ≡ letter
  pub ends : get_or line (w - 1) 0 ≡ 10

pub framed : (letter w : ℕ) (line : List ℕ) → is_framed letter w line ≡ true → Framed letter w line
unfolding is_framed
framed letter w line t =
    let r : eqb (get_or line 0 0) letter && eqb (get_or line (w - 1) 0) 10 ≡ true = and_r (eqb (length line) w) _ t in
    record {
      size = eqb-true (length line) w (and_l (eqb (length line) w) _ t);
      begins = eqb-true (get_or line 0 0) letter (and_l (eqb (get_or line 0 0) letter) _ r);
      ends = eqb-true (get_or line (w - 1) 0) 10 (and_r (eqb (get_or line 0 0) letter) _ r);
    }

-- a line that is not framed is no text that is
pub unframed : (letter w : ℕ) (line text : List ℕ) → is_framed letter w line ≡ false → is_framed letter w text ≡ true → line ≡ text → ⊥
unframed letter w line text e f t = clash (is_framed letter w line) (ap (is_framed letter w) t ∙ f) e

-- the letter, and then the rest
pub begun : (letter w : ℕ) (line : List ℕ) → 0 < w → Framed letter w line → line ≡ letter ∷ drop 1 line
begun letter w line h f = drop-cons line 0 0 (omega (arith, f.size)) ∙ rw f.begins

-- the line feed, and then nothing
pub ended_at : (letter w : ℕ) (line : List ℕ) → Framed letter (suc w) line → drop w line ≡ 10 ∷ []
ended_at letter w line f =
    let e : suc w - 1 ≡ w = omega arith in
    let t : get_or line w 0 ≡ 10 = rw e at f.ends in
    let n : drop (suc w) line ≡ [] = drop_of_length-le line {i = suc w} (omega (arith, f.size)) in
    drop-cons line w 0 (omega (arith, f.size)) ∙ rw (t, n)
