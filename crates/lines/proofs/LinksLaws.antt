-- What the loop that reads the lines of the links has in hand at each turn. `whole` is the answer that all of the lines have: what is
-- left gives it, and each turn keeps that.
-- Assumes nothing.
use Prim.Native.Nat.{ℕ, suc, ◌+◌, ◌*◌, ◌-◌, ◌<◌, ◌≤◌}
use mathlib.Core.Path.{◌≡◌, ap}
use mathlib.Core.List.{List}
use native.Mathlib.Omega.{arith}
use lib.ListN.{take, drop, set}
use lib.Seq.{drop-drop}
use Rattle.lines.specs.Form.{link_bytes}
use Rattle.lines.specs.Link.{link_of}
use Rattle.lines.specs.Links.{Links, after_link, links_of}
use Rattle.std.specs.Prelude.{Result, Ok, Err}
use Rattle.lines.specs.LineFault.{fault_on}
use Rattle.lines.specs.declared.LineFault.{LineFault}

step : (n m i : ℕ) (rest : List ℕ) (lastFrom last_to : ℕ) (us vs : List ℕ) → i < m
    → links_of n (m - i) i rest lastFrom last_to us vs
    ≡ after_link (link_of (take link_bytes rest) n lastFrom last_to) (n + 2 + i) us vs (λ u v. links_of n (m - (i + 1)) (i + 1) (drop link_bytes rest) u v (set us i u) (set vs i v))
unfolding links_of
step n m i rest lastFrom last_to us vs h =
    let e : m - i ≡ suc (m - (i + 1)) = omega arith in
    rw e

module _ (n m at i : ℕ) (s : List ℕ) (lastFrom last_to : ℕ) (us vs line : List ℕ) (b : Result (ℕ × ℕ) LineFault) (whole : Links) (h : i < m) (l : line ≡ take link_bytes (drop (at + link_bytes * i) s))
    (e : b ≡ link_of line n lastFrom last_to) (w : links_of n (m - i) i (drop (at + link_bytes * i) s) lastFrom last_to us vs ≡ whole) where
  turned : after_link b (n + 2 + i) us vs (λ u v. links_of n (m - (i + 1)) (i + 1) (drop (at + link_bytes * (i + 1)) s) u v (set us i u) (set vs i v)) ≡ whole
  turned =
      let d : at + link_bytes * i + link_bytes ≡ at + link_bytes * (i + 1) = omega arith in
      rw (e, l, ← d, ← drop-drop link_bytes (at + link_bytes * i) s, ← step n m i (drop (at + link_bytes * i) s) lastFrom last_to us vs h) w

  pub went_on : (u v : ℕ) → b ≡ Ok (u, v) → links_of n (m - (i + 1)) (i + 1) (drop (at + link_bytes * (i + 1)) s) u v (set us i u) (set vs i v) ≡ whole
  went_on u v g = rw g at turned

  pub refused : (f : LineFault) → b ≡ Err f → record { judged = Err (fault_on f (n + 2 + i)); from = us; to = vs } ≡ whole
  refused f g = rw g at turned

pub ended : (n m i : ℕ) (rest : List ℕ) (lastFrom last_to : ℕ) (us vs : List ℕ) (whole : Links) → m ≤ i → links_of n (m - i) i rest lastFrom last_to us vs ≡ whole
    → record { judged = Ok tt; from = us; to = vs } ≡ whole
unfolding links_of
ended n m i rest lastFrom last_to us vs whole h w =
    let e : m - i ≡ 0 = omega arith in
    rw e at w

-- what is told of the links, and what the two lent arrays hold
pub told : (t whole : Links) → t ≡ whole → (t.judged ≡ whole.judged) × ((t.from ≡ whole.from) × (t.to ≡ whole.to))
told t whole e = (ap (λ (x : Links). x.judged) e, (ap (λ (x : Links). x.from) e, ap (λ (x : Links). x.to) e))
