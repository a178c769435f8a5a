-- The laws by which loops over the numbers below a bound are proved. Each loop carries one fact about the numbers passed so far:
-- the law of one turn keeps it, the law of a hit gives the answer at an early return, the law of the end gives the last answer.
-- x is what the call gave that the loop tests, with the call's promise `x ≡ f b`.
-- Assumes nothing.
use mathlib.Core.Path.{◌≡◌, sym, ◌∙◌}
use mathlib.Core.Bool.{Bool, true, false, not}
use Prim.Native.Nat.{ℕ, ◌+◌, ◌≤◌, ◌<◌}
use native.Mathlib.Omega.{arith}
use borrow.Author.Count.{below_none, below_more}
use borrow.Author.Tests.{not-true, not-false}
use Rattle.bounded.specs.Bounded.{any, all, first}
use Rattle.bounded.proofs.Bools.{clash, off}
use Rattle.bounded.proofs.Tests.{any-i, any-o, all-i, all-e}
use Rattle.bounded.proofs.First.{first-is}

-- ---- none so far: the loops of `any` and `first`

abbrev pub SoFar : (ℕ → Bool) → ℕ → Type 0
SoFar f b = (k : ℕ) → k < b → f k ≡ false

pub so-far-none : (f : ℕ → Bool) → SoFar f 0
so-far-none f = below_none (λ k. f k ≡ false)

pub so_far_more : (f : ℕ → Bool) (b : ℕ) → SoFar f b → f b ≡ false → SoFar f (b + 1)
so_far_more f b = below_more (λ k. f k ≡ false) b

pub so-far-call : (f : ℕ → Bool) (b : ℕ) → SoFar f b → (x : Bool) → x ≡ f b → x ≡ false → SoFar f (b + 1)
so-far-call f b s x p q = so_far_more f b s (sym p ∙ q)

pub any-call : (f : ℕ → Bool) (n b : ℕ) → b < n → (x : Bool) → x ≡ f b → x ≡ true → true ≡ any f n
any-call f n b h x p q = sym (any-i f n b h (sym p ∙ q))

pub any-over : (f : ℕ → Bool) (n b : ℕ) → SoFar f b → n ≤ b → false ≡ any f n
any-over f n b s h = sym (any-o f n (λ i l e. clash (f i) e (s i (omega arith))))

pub first-at : (f : ℕ → Bool) (n b : ℕ) → SoFar f b → b < n → f b ≡ true → b ≡ first f n
first-at f n b s h e = sym (first-is f n b (record { high = omega arith; before = s; at = λ l. e }))

pub first-call : (f : ℕ → Bool) (n b : ℕ) → SoFar f b → b < n → (x : Bool) → x ≡ f b → x ≡ true → b ≡ first f n
first-call f n b s h x p q = first-at f n b s h (sym p ∙ q)

pub first-over : (f : ℕ → Bool) (n b : ℕ) → SoFar f b → n ≤ b → n ≡ first f n
first-over f n b s h = sym (first-is f n n (record { high = omega arith; before = λ j l. s j (omega arith); at = λ l. absurd (omega arith) }))

-- ---- all so far: the loops of `all`

abbrev pub AllFar : (ℕ → Bool) → ℕ → Type 0
AllFar f b = (k : ℕ) → k < b → f k ≡ true

pub all-far-none : (f : ℕ → Bool) → AllFar f 0
all-far-none f = below_none (λ k. f k ≡ true)

pub all-far-more : (f : ℕ → Bool) (b : ℕ) → AllFar f b → f b ≡ true → AllFar f (b + 1)
all-far-more f b = below_more (λ k. f k ≡ true) b

pub all-far-call : (f : ℕ → Bool) (b : ℕ) → AllFar f b → (x : Bool) → x ≡ f b → x ≡ true → AllFar f (b + 1)
all-far-call f b s x p q = all-far-more f b s (sym p ∙ q)

pub all-call : (f : ℕ → Bool) (n b : ℕ) → b < n → (x : Bool) → x ≡ f b → x ≡ false → false ≡ all f n
all-call f n b h x p q = sym (off (all f n) (λ e. clash (f b) (all-e f n e b h) (sym p ∙ q)))

-- a loop of `if !test(..) { return false; }`: where the test fails, and one turn where it holds
pub all-out : (f : ℕ → Bool) (n b : ℕ) (x : Bool) → b < n → x ≡ f b → not x ≡ true → false ≡ all f n
all-out f n b x h e q = all-call f n b h x e (not-true x q)

pub all-on : (f : ℕ → Bool) (b : ℕ) (x : Bool) → AllFar f b → x ≡ f b → not x ≡ false → AllFar f (b + 1)
all-on f b x s e q = all-far-call f b s x e (not-false x q)

pub all-over : (f : ℕ → Bool) (n b : ℕ) → AllFar f b → n ≤ b → true ≡ all f n
all-over f n b s h = sym (all-i f n (λ i l. s i (omega arith)))
