-- The laws of `every`, and of lists in another order.
-- Assumes nothing.
use mathlib.Core.Path.{◌≡◌, refl, sym, ap, ◌∙◌}
use mathlib.Core.Bool.{Bool, true, false, not}
use mathlib.Core.List.{List, [], ◌∷◌, ◌++◌, map, map-append}
use Prim.Native.Nat.{ℕ, suc}
use lib.Dec.{eqb}
use lib.ListN.{length}
use borrow.Author.Tests.{eqb-false, ne_eqb, not-true}
use Rattle.bounded.proofs.Bools.{◌&◌, and_l, and_r, not-i, clash}
use Rattle.guarantee.specs.Machine.{Asked, next_order, replied}
use Rattle.guarantee.specs.AnyOrder.{Rearranged, every, is_reply, no_order, not_to, different}

module _ {A : Type 0} where
  module _ (f : A → Bool) where
    pub every_front : (front rest : List A) → every f (front ++ rest) ≡ true → every f front ≡ true
    unfolding every
    every_front [] rest e = refl
    every_front (x ∷ front) rest e = and_l (f x) _ e & every_front front rest (and_r (f x) _ e)

    -- one more entry that passes
    every_more : (front : List A) (x : A) (rest : List A) → f x ≡ true → every f (front ++ rest) ≡ true → every f (front ++ (x ∷ rest)) ≡ true
    unfolding every
    every_more [] x rest h e = h & e
    every_more (y ∷ front) x rest h e = and_l (f y) _ e & every_more front x rest h (and_r (f y) _ e)

    pub every-rearranged : (xs ys : List A) → Rearranged xs ys → every f xs ≡ true → every f ys ≡ true
    unfolding every Rearranged
    every-rearranged [] ys p e = rw p refl
    every-rearranged (x ∷ xs) ys p e =
        let front : List A = p.0 in
        let rest : List A = p.1 in
        rw p.2 (every_more front x rest (and_l (f x) _ e) (every-rearranged xs (front ++ rest) p.3 (and_r (f x) _ e)))

  length_more : (front : List A) (x : A) (rest : List A) → length (front ++ (x ∷ rest)) ≡ suc (length (front ++ rest))
  length_more [] x rest = refl
  length_more (y ∷ front) x rest = ap suc (length_more front x rest)

  pub length-rearranged : (xs ys : List A) → Rearranged xs ys → length ys ≡ length xs
  unfolding Rearranged
  length-rearranged [] ys p = rw p refl
  length-rearranged (x ∷ xs) ys p = rw p.2 (length_more p.0 x p.1 ∙ ap suc (length-rearranged xs (p.0 ++ p.1) p.3))

pub map-rearranged : {A B : Type 0} (f : A → B) (xs ys : List A) → Rearranged xs ys → Rearranged (map f xs) (map f ys)
unfolding Rearranged
map-rearranged f [] ys p = ap (map f) p
map-rearranged f (x ∷ xs) ys p =
    (map f p.0, map f p.1, ap (map f) p.2 ∙ map-append f p.0 (x ∷ p.1), rw (← map-append f p.0 p.1) (map-rearranged f xs (p.0 ++ p.1) p.3))

-- ---- replies to different bookings

-- one more reply, to another booking
different-more : (front : List Asked) (l b : ℕ) (rest : List Asked) → every (not_to b) (front ++ rest) ≡ true → different (front ++ rest) ≡ true
    → different (front ++ (replied l b ∷ rest)) ≡ true
unfolding every different not_to
different-more [] l b rest n d = n & d
different-more (next_order ∷ front) l b rest n d = different-more front l b rest n d
different-more (replied m c ∷ front) l b rest n d =
    let z : eqb b c ≡ false = ne_eqb b c (λ e. eqb-false c b (not-true _ (and_l (not (eqb c b)) _ n)) (sym e)) in
    every_more (not_to c) front (replied l b) rest (not-i _ z) (and_l (every (not_to c) (front ++ rest)) _ d)
    & different-more front l b rest (and_r (not (eqb c b)) _ n) (and_r (every (not_to c) (front ++ rest)) _ d)

pub different-rearranged : (qs ps : List Asked) → Rearranged qs ps → no_order qs ≡ true → different qs ≡ true → different ps ≡ true
unfolding Rearranged no_order is_reply every different
different-rearranged [] ps p o d = rw p refl
different-rearranged (next_order ∷ qs) ps p o d = clash false o refl
different-rearranged (replied l b ∷ qs) ps p o d =
    let front : List Asked = p.0 in
    let rest : List Asked = p.1 in
    rw p.2
    (different-more front l b rest (every-rearranged (not_to b) qs (front ++ rest) p.3 (and_l (every (not_to b) qs) _ d))
    (different-rearranged qs (front ++ rest) p.3 o (and_r (every (not_to b) qs) _ d)))
