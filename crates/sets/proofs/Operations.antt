-- What the code's operations on sets are, in members.
-- Assumes nothing.
use mathlib.Core.Path.{◌≡◌, refl, sym, ap, ◌∙◌}
use mathlib.Core.Logic.{⊎_elim, inl, inr}
use mathlib.Core.Bool.{Bool, true, false, not, ◌&&◌, ◌||◌, cond}
use Prim.Native.Nat.{ℕ, zero, suc, ◌+◌, ◌/◌, ◌%◌, ◌^◌, ◌<◌, suc-le-suc}
use native.Mathlib.Nat.{mod-lt, lt_of_le_of_lt, not-suc-le-zero, le_of_suc-le-suc}
use native.Mathlib.Omega.{arith}
use borrow.Author.Tests.{eqb-true, eq-eqb, ne_eqb, not-true}
use lib.Dec.{eqb}
use lib.Pow.{pow-lt}
use lib.Bits.{bit_and, bit_or, bit_xor, and_le_l, or_lt, xor_lt}
use lib.Count.{count_trailing_zeros, under}
use Rattle.bounded.specs.Bounded.{all, first}
use Rattle.bounded.proofs.Bools.{which, same_test, binary, imp-i, imp-e, and_l, and_r, ◌&◌}
use Rattle.bounded.proofs.Tests.{all-i, all-e}
use Rattle.bounded.proofs.First.{Least, first-is}
use Rattle.sets.specs.Sets.{alone, member, gather, inserted, insert, only, without, kept, subset_of, apart, disjoint_from}
use Rattle.sets.proofs.Members.{two_pos, unlike, member-and, member-or, member-xor, member-zero, member-power, member-suc, low_digit, same_set}
use Rattle.sets.proofs.Gather.{gather-is, gather-lt, gather-put, gather-skip, member-gather}

-- `s | 2 ^ i` puts i in
pub put-bit : (s i : ℕ) → i < 64 → s < 2 ^ 64 → bit_or s (2 ^ i) ≡ insert s i
unfolding insert inserted
put-bit s i h hs =
    gather-is (inserted s i) 64 (bit_or s (2 ^ i)) (or_lt 64 s (2 ^ i) hs (pow-lt h))
    (λ j l. member-or s (2 ^ i) j ∙ ap (λ (b : Bool). member s j || b) (member-power i j))

-- the same with the bit that `bit` gave, and one more turn of a loop that gathers so
pub put_alone : (s i t : ℕ) → t ≡ alone i → i < 64 → s < 2 ^ 64 → bit_or s t ≡ insert s i
put_alone s i t e h hs = ap (bit_or s) e ∙ put-bit s i h hs

pub gather-alone : (f : ℕ → Bool) (n t : ℕ) → t ≡ alone n → f n ≡ true → bit_or (gather f n) t ≡ gather f (n + 1)
gather-alone f n t e p = ap (bit_or (gather f n)) e ∙ gather-put f n p

-- whether n passes or not
pub gather-next : (f : ℕ → Bool) (n b s t : ℕ) → b ≡ alone n → s ≡ gather f n → t ≡ cond (f n) (bit_or s b) s → t ≡ gather f (n + 1)
gather-next f n b s t eb es et = elim (which (f n)) [
  | inl e ↦ rw (et, e, es) (gather-alone f n b eb e)
  | inr e ↦ rw (et, e, es) (gather-skip f n e)
]

pub insert-fits : (s i : ℕ) → insert s i < 2 ^ 64
unfolding insert
insert-fits s i = gather-lt (inserted s i) 64

pub member-insert : (s i j : ℕ) → j < 64 → member (insert s i) j ≡ member s j || eqb j i
unfolding insert inserted
member-insert s i j h = member-gather (inserted s i) 64 j h

-- `a ^ (a & b)` leaves the members of a that b lacks
only-test : (p q : Bool) → unlike p (p && q) ≡ p && not q
only-test true q = refl
only-test false q = refl

pub xor-without : (a b : ℕ) → a < 2 ^ 64 → bit_xor a (bit_and a b) ≡ without a b
unfolding without only
xor-without a b ha =
    gather-is (only a b) 64 (bit_xor a (bit_and a b)) (xor_lt 64 a (bit_and a b) ha (lt_of_le_of_lt (and_le_l a b) ha))
    (λ i l. member-xor a (bit_and a b) i ∙ ap (unlike (member a i)) (member-and a b i) ∙ only-test (member a i) (member b i))

pub member-without : (a b i : ℕ) → i < 64 → member (without a b) i ≡ member a i && not (member b i)
unfolding without only
member-without a b i h = member-gather (only a b) 64 i h

-- `a & b == a` where a is part of b
pub and-subset : (a b : ℕ) → a < 2 ^ 64 → eqb (bit_and a b) a ≡ subset_of a b
unfolding subset_of kept
and-subset a b ha =
    same_test (eqb (bit_and a b) a) (all (kept a b) 64)
    (λ e. all-i (kept a b) 64 (λ i l. imp-i (member a i) (member b i) (λ p.
    and_r (member a i) (member b i) (sym (member-and a b i) ∙ ap (λ (x : ℕ). member x i) (eqb-true (bit_and a b) a e) ∙ p))))
    (λ e. eq-eqb (bit_and a b) a (same_set 64 (bit_and a b) a (lt_of_le_of_lt (and_le_l a b) ha) ha
    (λ i l. member-and a b i ∙ same_test (member a i && member b i) (member a i) (and_l (member a i) (member b i))
    (λ p. p & imp-e (member a i) (member b i) (all-e (kept a b) 64 e i l) p))))

-- `a & b == 0` where they have no member in common
pub and-disjoint : (a b : ℕ) → a < 2 ^ 64 → eqb (bit_and a b) 0 ≡ disjoint_from a b
unfolding disjoint_from apart
and-disjoint a b ha =
    same_test (eqb (bit_and a b) 0) (all (apart a b) 64)
    (λ e. all-i (apart a b) 64 (λ i l. ap not (sym (member-and a b i) ∙ ap (λ (x : ℕ). member x i) (eqb-true (bit_and a b) 0 e) ∙ member-zero i)))
    (λ e. eq-eqb (bit_and a b) 0 (same_set 64 (bit_and a b) 0 (lt_of_le_of_lt (and_le_l a b) ha) (omega arith)
    (λ i l. member-and a b i ∙ not-true (member a i && member b i) (all-e (apart a b) 64 e i l) ∙ sym (member-zero i))))

-- the zeros below the lowest set bit lead to the lowest member
even-before : (s t : ℕ) → s % 2 ≡ 0 → ((j : ℕ) → j < t → member (s / 2) j ≡ false) → (j : ℕ) → j < suc t → member s j ≡ false
even-before s t e h zero l = low_digit s ∙ ne_eqb (s % 2) 1 (λ q. omega arith)
even-before s t e h (suc j) l = member-suc s j ∙ h j (le_of_suc-le-suc l)

lowest_step : (k s t : ℕ) → Least (member (s / 2)) k t → Least (member s) (suc k) (under (s % 2) t)
lowest_step k s t l =
    ⊎_elim (λ (e : s % 2 ≡ 0).
    rw e (record { high = suc-le-suc l.high; before = even-before s t e l.before; at = λ h. member-suc s t ∙ l.at (le_of_suc-le-suc h) }))
    (λ (e : s % 2 ≡ 1).
    rw e (record { high = omega arith; before = λ j h. absurd (not-suc-le-zero h); at = λ h. low_digit s ∙ eq-eqb (s % 2) 1 e }))
    (binary (mod-lt s two_pos))

lowest-least : (k s : ℕ) → Least (member s) k (count_trailing_zeros k s)
unfolding count_trailing_zeros
lowest-least zero s = record { high = omega arith; before = λ j h. absurd (not-suc-le-zero h); at = λ h. absurd (not-suc-le-zero h) }
lowest-least (suc k) s = lowest_step k s (count_trailing_zeros k (s / 2)) (lowest-least k (s / 2))

pub trailing-first : (s : ℕ) → count_trailing_zeros 64 s ≡ first (member s) 64
trailing-first s = sym (first-is (member s) 64 (count_trailing_zeros 64 s) (lowest-least 64 s))
