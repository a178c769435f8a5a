-- The laws of `sets`, bytes stored one after the other from a place on; what lies past the end is not stored.
-- Assumes nothing.
use Prim.Native.Nat.{ℕ, suc, ◌+◌, ◌-◌, ◌≤◌}
use mathlib.Core.Path.{◌≡◌, refl, ap, ◌∙◌, sym}
use mathlib.Core.List.{List, [], ◌∷◌, ◌++◌, append_assoc, append-nil}
use native.Mathlib.Omega.{arith}
use native.Mathlib.Nat.{add-zero}
use lib.ListN.{length, take, drop, set, length-drop}
use lib.Seq.{sets, set_comm, length-take-le, length-sets, drop-drop, drop-length, drop-append-le}
use Rattle.std.proofs.lemmas.List.{take-append-drop}
use borrow.Rule.Slice.PartMut.{put_mid}
use Rattle.std.proofs.lemmas.List.Edits.{sets-eq}

-- one text after another
pub sets-append : (d : List ℕ) (i : ℕ) (a b : List ℕ) → sets d i (a ++ b) ≡ sets (sets d i a) (i + length a) b
sets-append d i [] b = rw add-zero
sets-append d i (x ∷ a) b =
    let e : suc i + length a ≡ i + suc (length a) = omega arith in
    sets-append (set d i x) (suc i) a b ∙ ap (λ (k : ℕ). sets (sets (set d i x) (suc i) a) k b) e

-- a byte past the text may be stored before it
sets-past : (d : List ℕ) (at : ℕ) (a : List ℕ) (j c : ℕ) → at + length a ≤ j → set (sets d at a) j c ≡ sets (set d j c) at a
sets-past d at [] j c h = refl
sets-past d at (x ∷ a) j c h =
    sets-past (set d at x) (suc at) a j c (omega arith) ∙ ap (λ (l : List ℕ). sets l (suc at) a) (set_comm d at j x c (λ e. omega arith))

-- the last byte first
pub sets_last : (d : List ℕ) (at : ℕ) (a : List ℕ) (c : ℕ) → sets d at (a ++ (c ∷ [])) ≡ sets (set d (at + length a) c) at a
sets_last d at a c = sets-append d at a (c ∷ []) ∙ sets-past d at a (at + length a) c (omega arith)

-- one piece more, as a writer stores it: a stands at at, b after it
pub sets-next : (d x y : List ℕ) (at p : ℕ) (a b : List ℕ) → p ≡ at + length a → x ≡ sets d at a → y ≡ sets x p b → y ≡ sets d at (a ++ b)
sets-next d x y at p a b q e f = f ∙ rw (e, q) (sym (sets-append d at a b))

-- the length that a writer gives counts bytes of its buffer
pub sets-counted : (d b text : List ℕ) (n : ℕ) → length text ≤ length d → n ≡ length text → b ≡ sets d 0 text → (n ≤ length b) × (n ≡ length (take n b))
sets-counted d b text n h e f =
    let l : length b ≡ length d = rw f (length-sets d 0 text) in
    let k : n ≤ length b = omega arith in
    (k, sym (length-take-le n b k))

-- a text that was written over a part
pub put-sets : (d : List ℕ) (at k : ℕ) (a b : List ℕ) → at + length a ≤ length d → k ≡ length a → b ≡ a → put_mid at k d b ≡ sets d at a
put-sets d at k a b h e f = rw (e, f, sets-eq a d at h, append_assoc, drop-drop (length a) at d)

-- a text as long as the part that it is stored over is all of it
pub sets-whole : (d a : List ℕ) → length a ≡ length d → sets d 0 a ≡ a
sets-whole d a e =
    let n : 0 + length a ≡ length d = omega arith in
    sets-eq a d 0 (omega arith) ∙ rw (n, drop-length d, append-nil a)

-- ---- a text written part by part at the front

-- x is d with the text at its front
pub record Front (d text x : List ℕ) : Type 0 where
  pub is : x ≡ sets d 0 text

pub first-byte : (d : List ℕ) (c : ℕ) → Front d (c ∷ []) (set d 0 c)
first-byte d c = record { is = refl }

-- a byte more
pub next-byte : (d x text : List ℕ) (p c : ℕ) → Front d text x → p ≡ 0 + length text → Front d (text ++ (c ∷ [])) (set x p c)
next-byte d x text p c f q = record { is = rw (f.is, q) (sym (sets-append d 0 text (c ∷ []))) }

-- a part more, that a function filled
pub next-part : (d x b text t : List ℕ) (p w : ℕ) → Front d text x → p ≡ 0 + length text → p + w ≤ length d → w ≡ length t → b ≡ t → Front d (text ++ t) (put_mid p w x b)
next-part d x b text t p w f q h n e =
    let l : length x ≡ length d = rw f.is (length-sets d 0 text) in
    record { is = put-sets x p w t b (omega arith) n e ∙ rw (f.is, q) (sym (sets-append d 0 text t)) }

-- a text at the front of a part stands where the part begins
pub put-front : (d b : List ℕ) (p k : ℕ) (a : List ℕ) → length a ≤ k → p + k ≤ length d → b ≡ sets (take k (drop p d)) 0 a → put_mid p k d b ≡ sets d p a
put-front d b p k a h g e =
    let D : List ℕ = drop p d in
    let l : length (take k D) ≡ k = length-take-le k D (omega (arith, length-drop p d)) in
    let f : b ≡ a ++ drop (0 + length a) (take k D) = e ∙ sets-eq a (take k D) 0 (omega arith) in
    let z : 0 + length a ≡ length a = omega arith in
    let o : drop (length a) (take k D) ++ drop k D ≡ drop (length a) D = sym (drop-append-le (length a) (take k D) (drop k D) (omega arith)) ∙ ap (drop (length a)) (take-append-drop k D) in
    ap (λ (l : List ℕ). take p d ++ (l ++ drop k D)) (f ∙ ap (λ (j : ℕ). a ++ drop j (take k D)) z)
    ∙ ap (λ (l : List ℕ). take p d ++ l) (append_assoc a (drop (length a) (take k D)) (drop k D) ∙ ap (λ (l : List ℕ). a ++ l) (o ∙ drop-drop (length a) p d))
    ∙ sym (append_assoc (take p d) a (drop (p + length a) d)) ∙ sym (sets-eq a d p (omega arith))

-- a text behind it, written at the front of all that follows
pub next-text : (d x b text t : List ℕ) (p k : ℕ) → Front d text x → p ≡ 0 + length text → p + length t ≤ length d → k ≡ length x - p → b ≡ sets (take k (drop p x)) 0 t → Front d (text ++ t) (put_mid p k x b)
next-text d x b text t p k f q h n e =
    let l : length x ≡ length d = rw f.is (length-sets d 0 text) in
    record { is = put-front x b p k t (omega arith) (omega arith) e ∙ rw (f.is, q) (sym (sets-append d 0 text t)) }

-- nothing at the front yet
pub nothing-yet : (d : List ℕ) → Front d [] d
nothing-yet d = record { is = refl }
