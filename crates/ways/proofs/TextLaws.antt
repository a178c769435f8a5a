-- The laws of the text of a way, and what its writers have in hand.
-- Assumes nothing.
use mathlib.Core.Path.{◌≡◌, refl, sym, ap, ◌∙◌}
use mathlib.Core.List.{List, [], ◌∷◌, ◌++◌}
use Prim.Native.Nat.{ℕ, zero, suc, ◌+◌, ◌*◌, ◌-◌, ◌≤◌, ◌<◌}
use native.Mathlib.Numerals.{add-one}
use native.Mathlib.Omega.{arith}
use lib.ListN.{length, get_or, take, length-append}
use lib.Seq.{sets, get_or-take, length-take-le}
use Rattle.bounded.specs.Bounded.{sum}
use Rattle.bounded.proofs.Sums.{sum-upto, sum-most, sum-eq}
use Rattle.sets.specs.Sets.{size_of}
use Rattle.sets.specs.Rising.{LowestOut}
use Rattle.sets.proofs.Gather.{size_small, size-listed}
use Rattle.plan.specs.Limits.{most_bookings}
use Rattle.decimal.specs.Decimal.{columns}
use Rattle.decimal.proofs.Laws.{columns-length}
use Rattle.decimal.proofs.Stores.{sets-append}
use Rattle.ways.specs.WayText.{members, numbers_text, way_front_bytes, way_bytes, way_front, way_text, ways_text, size_at, bytes_at, ways_length}
use Rattle.ways.proofs.Members.{members-lowest, members-zero}

-- ---- numbers

pub numbers-length : (bs : List ℕ) → length (numbers_text bs) ≡ 4 * length bs
unfolding numbers_text
numbers-length [] = refl
numbers-length (b ∷ bs) = length-append (columns 4 (b + 1)) (numbers_text bs) ∙ omega (arith, columns-length 4 (b + 1), numbers-length bs)

pub size-members : (s : ℕ) → size_of s ≡ length (members s)
unfolding members
size-members s = size-listed s

pub members-length : (s : ℕ) → length (numbers_text (members s)) ≡ 4 * size_of s
members-length s = omega (arith, numbers-length (members s), size-members s)

-- ---- the members, the lowest first: v is the lowest of s, and t are the others

module _ (s v t : ℕ) (o : LowestOut s v t) where
  both : members s ≡ v ∷ members t
  both = rw (o.lowest, o.others) (members-lowest s o.fits o.some)

  pub one-less : size_of s ≡ size_of t + 1
  one-less = omega (arith, size-members s, size-members t, ap length both)

  pub members-on : (next : ℕ) (buf buf' whole : List ℕ) → sets buf next (numbers_text (members s)) ≡ whole → buf' ≡ sets buf next (columns 4 (v + 1))
      → sets buf' (next + 4) (numbers_text (members t)) ≡ whole
  unfolding numbers_text
  members-on next buf buf' whole w e =
      let n : next + length (columns 4 (v + 1)) ≡ next + 4 = omega (arith, columns-length 4 (v + 1)) in
      rw (e, ← n, ← sets-append buf next (columns 4 (v + 1)) (numbers_text (members t))) (rw both at w)

-- no more are left
pub none-left : (s : ℕ) → s ≡ 0 → size_of s ≡ 0
none-left s e = rw e (size-members 0 ∙ ap length members-zero)

pub members-done : (s next : ℕ) (buf whole : List ℕ) → s ≡ 0 → sets buf next (numbers_text (members s)) ≡ whole → buf ≡ whole
unfolding numbers_text
members-done s next buf whole e w = rw (e, members-zero) at w

-- ---- a line

pub front_length : (k : ℕ) → length (way_front k) ≡ way_front_bytes
unfolding way_front
front_length k = ap suc (columns-length 4 k)

-- a way of k bookings takes way_bytes k bytes
pub way-length : (s : ℕ) → length (way_text s) ≡ way_bytes (size_of s)
unfolding way_text
way-length s =
    length-append (way_front (size_of s)) _
    ∙ omega (arith, front_length (size_of s), length-append (numbers_text (members s)) (10 ∷ []), members-length s)

pub way-sets : (at s k next : ℕ) (d e f g h : List ℕ) → k ≡ size_of s → e ≡ sets d at (65 ∷ []) → f ≡ sets e (at + 1) (columns 4 k)
    → g ≡ sets f (at + way_front_bytes) (numbers_text (members s)) → next ≡ at + way_front_bytes + 4 * size_of s → h ≡ sets g next (10 ∷ []) → h ≡ sets d at (way_text s)
unfolding way_text way_front
way-sets at s k next d e f g h q a b c n z =
    let m : List ℕ = numbers_text (members s) in
    let i : at + length (65 ∷ columns 4 k) ≡ at + way_front_bytes = omega (arith, columns-length 4 k) in
    let j : at + way_front_bytes + length (numbers_text (members s)) ≡ next = omega (arith, members-length s) in
    let u : sets d at (65 ∷ columns 4 k) ≡ f = sets-append d at (65 ∷ []) (columns 4 k) ∙ rw (← a, b) in
    let v : sets d at ((65 ∷ columns 4 k) ++ (m ++ (10 ∷ []))) ≡ sets f (at + way_front_bytes) (m ++ (10 ∷ [])) =
    sets-append d at (65 ∷ columns 4 k) (m ++ (10 ∷ [])) ∙ rw (u, i) in
    let w : sets f (at + way_front_bytes) (m ++ (10 ∷ [])) ≡ h = sets-append f (at + way_front_bytes) m (10 ∷ []) ∙ rw (j, ← c, z) in
    rw (← q) (sym (v ∙ w))

-- ---- all lines

pub length-step : (ws : List ℕ) (i : ℕ) → ways_length (i + 1) ws ≡ ways_length i ws + way_bytes (size_of (get_or ws i 0))
unfolding ways_length bytes_at size_at sum
length-step ws i = rw add-one

pub length-upto : (ws : List ℕ) (i a : ℕ) → i ≤ a → ways_length i ws ≤ ways_length a ws
unfolding ways_length
length-upto ws i a h = sum-upto (bytes_at ws) i a h

-- the longest lines: n bookings in each way
pub length_most : (n a : ℕ) (ws : List ℕ) → ((k : ℕ) → k < a → size_of (get_or ws k 0) ≤ n) → ways_length a ws ≤ way_bytes n * a
unfolding ways_length bytes_at size_at
length_most n a ws h = sum-most (bytes_at ws) (way_bytes n) a (λ k l. omega (arith, h k l))

-- whatever the sets are, their lines take no more than this
pub ways-most : (k a : ℕ) (ws : List ℕ) → k ≡ ways_length a ws → k ≤ way_bytes most_bookings * a
ways-most k a ws e = rw e (length_most most_bookings a ws (λ i h. size_small (get_or ws i 0)))

pub size-next : (ws : List ℕ) (i total k r : ℕ) → total ≡ ways_length i ws → k ≡ size_of (get_or ws i 0) → r ≡ way_bytes k → total + r ≡ ways_length (i + 1) ws
size-next ws i total k r e f g = omega (arith, length-step ws i)

pub none_yet : (ws : List ℕ) → 0 ≡ ways_length 0 ws
unfolding ways_length sum
none_yet ws = refl

-- room for way i + 1
pub room-way : (ws : List ℕ) (i a at next size size₀ : ℕ) → i < a → size ≡ size₀ → next ≡ at + ways_length i ws → at + ways_length a ws ≤ size₀
    → next + way_bytes (size_of (get_or ws i 0)) ≤ size
room-way ws i a at next size size₀ h z e r = omega (arith, length-step ws i, length-upto ws (i + 1) a (omega arith))

pub ways_next : (ws : List ℕ) (i at next after : ℕ) → next ≡ at + ways_length i ws → after ≡ next + way_bytes (size_of (get_or ws i 0)) → after ≡ at + ways_length (i + 1) ws
ways_next ws i at next after e f = omega (arith, length-step ws i)

ways-step : (a i : ℕ) (ws : List ℕ) → i < a → ways_text (a - i) i ws ≡ way_text (get_or ws i 0) ++ ways_text (a - (i + 1)) (i + 1) ws
unfolding ways_text
ways-step a i ws h =
    let e : a - i ≡ suc (a - (i + 1)) = omega arith in
    rw e

pub ways_on : (at i a after : ℕ) (buf buf' ws whole : List ℕ) → i < a → sets buf at (ways_text (a - i) i ws) ≡ whole
    → after ≡ at + way_bytes (size_of (get_or ws i 0)) → buf' ≡ sets buf at (way_text (get_or ws i 0)) → sets buf' after (ways_text (a - (i + 1)) (i + 1) ws) ≡ whole
ways_on at i a after buf buf' ws whole h w n e =
    let m : after ≡ at + length (way_text (get_or ws i 0)) = n ∙ omega (arith, way-length (get_or ws i 0)) in
    rw (e, m, ← sets-append buf at (way_text (get_or ws i 0)) (ways_text (a - (i + 1)) (i + 1) ws), ← ways-step a i ws h) w

pub ways-all : (at i a : ℕ) (buf ws whole : List ℕ) → a ≤ i → sets buf at (ways_text (a - i) i ws) ≡ whole → buf ≡ whole
unfolding ways_text
ways-all at i a buf ws whole h w =
    let e : a - i ≡ 0 = omega arith in
    rw e at w

-- ---- the first a of the ways, as a slice

pub taken-length : (a : ℕ) (ws : List ℕ) → a ≤ length ws → ways_length (length (take a ws)) (take a ws) ≡ ways_length a ws
unfolding ways_length bytes_at size_at
taken-length a ws h =
    rw (length-take-le a ws h)
    (sum-eq _ _ a (λ i l. rw (get_or-take a ws i 0 l)))

text-upto : (a more i : ℕ) (ws : List ℕ) → i + more ≤ a → ways_text more i (take a ws) ≡ ways_text more i ws
unfolding ways_text
text-upto a zero i ws h = refl
text-upto a (suc more) i ws h = rw (get_or-take a ws i 0 (omega arith), text-upto a more (i + 1) ws (omega arith))

pub taken-text : (a : ℕ) (ws : List ℕ) → a ≤ length ws → ways_text (length (take a ws)) 0 (take a ws) ≡ ways_text a 0 ws
taken-text a ws h = rw (length-take-le a ws h) (text-upto a a 0 ws (omega arith))
