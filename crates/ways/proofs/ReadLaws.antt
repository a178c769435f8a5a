-- What the readers of a way line have in hand at each of their returns, and in a turn of their loops.
-- Assumes nothing.
use mathlib.Core.Path.{◌≡◌, refl, sym, ap, ◌∙◌}
use mathlib.Core.Bool.{Bool, true, false, not, cond}
use mathlib.Core.List.{List}
use Prim.Native.Nat.{ℕ, suc, ◌+◌, ◌*◌, ◌-◌, ◌≤◌, ◌<◌}
use native.Mathlib.Omega.{arith}
use lib.ListN.{take, drop, set}
use lib.Seq.{drop-drop, get_or-drop}
use Rattle.bounded.specs.Bounded.{all}
use Rattle.bounded.proofs.Bools.{clash}
use Rattle.bounded.proofs.Loops.{AllFar, all-call, all-far-call}
use Rattle.sets.specs.Sets.{insert}
use Rattle.plan.specs.Limits.{within}
use Rattle.plan.proofs.LimitLaws.{within-hi}
use Rattle.std.specs.Prelude.{Result, Ok, Err, is_ok}
use Rattle.decimal.specs.Decimal.{Field, field_at}
use Rattle.decimal.specs.declared.NoNumber.{NoNumber}
use Rattle.lines.specs.declared.LineFault.{LineFault}
use Rattle.lines.specs.declared.LineFault.TheVariants as L
use Rattle.ways.specs.WayText.{way_front_bytes, way_bytes}
use Rattle.ways.specs.Way.{count_of, number_there, sequence_or_form, after_number, gather_of, line_feed_at, as_way, members_of, after_count, way_line_of}
use Rattle.ways.specs.Ways.{way_fault_on, after_way, ways_of}
use Rattle.ways.specs.declared.WayFault.{WayFault}
use Rattle.ways.specs.declared.WayFault.TheVariants.{Malformed, OutOfLimits}
use Rattle.ways.specs.declared.Ways.{Ways}

-- ---- fields that are numbers

pub is_none : (f g : Field) (none : NoNumber) → f ≡ g → f ≡ Err none → false ≡ is_ok g
is_none f g none e q = rw (← e, q)

there : (s : List ℕ) (at j : ℕ) → is_ok (field_at 4 (at + 4 * j) s) ≡ number_there (drop at s) j
unfolding number_there field_at
there s at j = rw (drop-drop (4 * j) at s)

pub number-out : (s : List ℕ) (at k j : ℕ) (f : Field) (x : Bool) → f ≡ field_at 4 (at + 4 * j) s → is_ok f ≡ not x → x ≡ true → j < k
    → false ≡ all (number_there (drop at s)) k
number-out s at k j f x g e q h = all-call (number_there (drop at s)) k j h (not x) (sym e ∙ ap is_ok g ∙ there s at j) (ap not q)

pub number-on : (s : List ℕ) (at j : ℕ) (f : Field) (x : Bool) → f ≡ field_at 4 (at + 4 * j) s → is_ok f ≡ not x → x ≡ false → AllFar (number_there (drop at s)) j
    → AllFar (number_there (drop at s)) (j + 1)
number-on s at j f x g e q a = all-far-call (number_there (drop at s)) j a (not x) (sym e ∙ ap is_ok g ∙ there s at j) (ap not q)

-- ---- the set of the numbers

module _ (n last set k j at : ℕ) (s : List ℕ) (whole : Result ℕ LineFault) (h : j < k) (w : gather_of n last set (k - j) (drop (at + 4 * j) s) ≡ whole) where
  turn : after_number (field_at 4 (at + 4 * j) s) n last (sequence_or_form (k - (j + 1)) (drop (at + 4 * (j + 1)) s))
      (λ x. gather_of n x (insert set (x - 1)) (k - (j + 1)) (drop (at + 4 * (j + 1)) s)) ≡ whole
  unfolding gather_of field_at
  turn =
      let c : k - j ≡ suc (k - (j + 1)) = omega arith in
      let d : at + 4 * j + 4 ≡ at + 4 * (j + 1) = omega arith in
      rw (← d, ← drop-drop 4 (at + 4 * j) s) (rw c at w)

  pub gather-fault : (none : NoNumber) → Err none ≡ field_at 4 (at + 4 * j) s → Err L.Malformed ≡ whole
  gather-fault none g = rw (← g) at turn

  module _ (x : ℕ) (g : Ok x ≡ field_at 4 (at + 4 * j) s) where
    pub gather-out : false ≡ within (last + 1) x n → Err (sequence_or_form (k - (j + 1)) (drop (at + 4 * (j + 1)) s)) ≡ whole
    gather-out q = rw (← g, ← q) at turn

    pub gather-on : true ≡ within (last + 1) x n → gather_of n x (insert set (x - 1)) (k - (j + 1)) (drop (at + 4 * (j + 1)) s) ≡ whole
    gather-on q = rw (← g, ← q) at turn

pub gather-end : (n last set k j : ℕ) (fields : List ℕ) (whole : Result ℕ LineFault) → k ≤ j → gather_of n last set (k - j) fields ≡ whole → Ok set ≡ whole
unfolding gather_of
gather-end n last set k j fields whole h w =
    let e : k - j ≡ 0 = omega arith in
    rw e at w

-- ---- a line

module _ (n at : ℕ) (s : List ℕ) where
  by_count : (f : Field) → f ≡ count_of (take way_front_bytes (drop at s)) → way_line_of n (drop at s) ≡ after_count f n (drop at s)
  unfolding way_line_of
  by_count f e = rw e

  pub no-count : (none : NoNumber) → Err none ≡ count_of (take way_front_bytes (drop at s)) → Err Malformed ≡ way_line_of n (drop at s)
  no-count none e = rw (by_count (Err none) e)

  module _ (k : ℕ) (e : Ok k ≡ count_of (take way_front_bytes (drop at s))) where
    pub count-out : false ≡ within 1 k n → Err OutOfLimits ≡ way_line_of n (drop at s)
    count-out t = rw (by_count (Ok k) e, ← t)

    module _ (t : true ≡ within 1 k n) where
      feed : line_feed_at (way_front_bytes + 4 * k) (drop at s) ≡ line_feed_at (at + way_front_bytes + 4 * k) s
      unfolding line_feed_at
      feed =
          let a : at + (way_front_bytes + 4 * k) ≡ at + way_front_bytes + 4 * k = omega arith in
          rw (get_or-drop at s (way_front_bytes + 4 * k) 0, a)

      pub no_end : false ≡ line_feed_at (at + way_front_bytes + 4 * k) s → Err Malformed ≡ way_line_of n (drop at s)
      unfolding members_of
      no_end x = rw (by_count (Ok k) e, ← t, feed, ← x)

      pub by-set : true ≡ line_feed_at (at + way_front_bytes + 4 * k) s → (h : Result ℕ LineFault) → h ≡ gather_of n 0 0 k (drop (at + way_front_bytes) s) → as_way k h ≡ way_line_of n (drop at s)
      unfolding members_of
      by-set x h y = rw (by_count (Ok k) e, ← t, feed, ← x, drop-drop way_front_bytes at s, y)

-- ---- a line that is accepted has at most n bookings

few-gathered : (n c : ℕ) (w : ℕ × ℕ) (h : Result ℕ LineFault) → c ≤ n → as_way c h ≡ Ok w → w.0 ≤ n
few-gathered n c w (Ok x) l e =
    let p : (c, x) ≡ w = cc in
    let q : c ≡ w.0 = ap (λ (v : ℕ × ℕ). v.0) p in
    omega arith
few-gathered n c w (Err fault) l e = clash true refl (cc)

few-counted : (n : ℕ) (w : ℕ × ℕ) (rest : List ℕ) (f : Field) → after_count f n rest ≡ Ok w → w.0 ≤ n
unfolding members_of
few-counted n w rest (Ok c) e =
    go (within 1 c n) (line_feed_at (way_front_bytes + 4 * c) rest) (within-hi 1 c n) e
  where
    go : (a b : Bool) → (a ≡ true → c ≤ n) → cond a (cond b (as_way c (gather_of n 0 0 c (drop way_front_bytes rest))) (Err Malformed)) (Err OutOfLimits) ≡ Ok w → w.0 ≤ n
    go true true h e = few-gathered n c w (gather_of n 0 0 c (drop way_front_bytes rest)) (h refl) e
    go true false h e = clash true refl (cc)
    go false b h e = clash true refl (cc)
few-counted n w rest (Err none) e = clash true refl (cc)

pub few-members : (n : ℕ) (rest : List ℕ) (w : ℕ × ℕ) → way_line_of n rest ≡ Ok w → w.0 ≤ n
unfolding way_line_of
few-members n rest w e = few-counted n w rest (count_of (take way_front_bytes rest)) e

-- ---- all lines

ways-step : (n first a i at : ℕ) (rest ws : List ℕ) → i < a
    → ways_of n first (a - i) i at rest ws
    ≡ after_way (way_line_of n rest) (first + i) at ws (λ k x. ways_of n first (a - (i + 1)) (i + 1) (at + way_bytes k) (drop (way_bytes k) rest) (set ws i x))
unfolding ways_of
ways-step n first a i at rest ws h =
    let e : a - i ≡ suc (a - (i + 1)) = omega arith in
    rw e

module _ (n first a i at : ℕ) (s ws : List ℕ) (whole : Ways) (h : i < a) (w : ways_of n first (a - i) i at (drop at s) ws ≡ whole) where
  ways-turn : after_way (way_line_of n (drop at s)) (first + i) at ws (λ k x. ways_of n first (a - (i + 1)) (i + 1) (at + way_bytes k) (drop (way_bytes k) (drop at s)) (set ws i x)) ≡ whole
  ways-turn = rw (← ways-step n first a i at (drop at s) ws h) w

  pub ways_on : (k x r : ℕ) → Ok (k, x) ≡ way_line_of n (drop at s) → r ≡ way_bytes k → ways_of n first (a - (i + 1)) (i + 1) (at + r) (drop (at + r) s) (set ws i x) ≡ whole
  ways_on k x r g q = rw (q, ← drop-drop (way_bytes k) at s) (rw (← g) at ways-turn)

  pub ways-fault : (fault : WayFault) → Err fault ≡ way_line_of n (drop at s) → record { judged = Err (way_fault_on fault (first + i)); next = at; way = ws } ≡ whole
  ways-fault fault g = rw (← g) at ways-turn

pub ways-end : (n first a i at : ℕ) (rest ws : List ℕ) (whole : Ways) → a ≤ i → ways_of n first (a - i) i at rest ws ≡ whole
    → record { judged = Ok tt; next = at; way = ws } ≡ whole
unfolding ways_of
ways-end n first a i at rest ws whole h w =
    let e : a - i ≡ 0 = omega arith in
    rw e at w
