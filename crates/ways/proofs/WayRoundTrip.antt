-- The line of a way reads back as its set (`way-read`), and an accepted line is the line of the set that was read (`way-accepted`).
-- Assumes nothing.
use mathlib.Core.Path.{◌≡◌, refl, sym, ap, ◌∙◌}
use mathlib.Core.Logic.{inl, inr}
use mathlib.Core.Bool.{Bool, true, false, cond}
use mathlib.Core.List.{List, [], ◌∷◌, ◌++◌, append_assoc}
use Prim.Native.Nat.{ℕ, zero, suc, ◌+◌, ◌*◌, ◌-◌, ◌^◌, ◌≤◌, ◌<◌}
use native.Mathlib.Numerals.{add-one}
use native.Mathlib.Omega.{arith}
use lib.Dec.{eqb}
use lib.ListN.{length, get_or, take, drop, length-append, take-append-drop, get_or-eq_default, length-take}
use lib.Seq.{take_at, drop_at, get_or_at, take_all, take-add, drop-drop, drop-cons}
use borrow.Author.Tests.{eqb-true}
use Rattle.bounded.proofs.Bools.{clash, split?}
use Rattle.bounded.proofs.Lists.{Rising, listed-rises, none, more}
use Rattle.sets.specs.Sets.{member, insert, size_of}
use Rattle.sets.proofs.Gather.{size-le}
use Rattle.sets.proofs.Insert.{insert_all, insert-all-lt}
use Rattle.sets.proofs.Members.{fits_more}
use Rattle.plan.specs.Limits.{within}
use Rattle.plan.proofs.LimitLaws.{within-lo, within-hi, within-i}
use Rattle.std.specs.Prelude.{Result, Ok, Err}
use Rattle.decimal.specs.Decimal.{columns, Field, field_of, field_at}
use Rattle.decimal.specs.declared.NoNumber.TheVariants as N
use Rattle.decimal.proofs.Fields.{number-in, field-front, field-text}
use Rattle.decimal.proofs.Laws.{columns-length, written_read, read-written}
use Rattle.ways.specs.WayText.{members, numbers_text, way_front_bytes, way_bytes, way_front, way_text}
use Rattle.ways.specs.Way.{count_of, sequence_or_form, after_number, gather_of, line_feed_at, as_way, members_of, after_count, way_line_of, count_in}
use Rattle.lines.specs.declared.LineFault.{LineFault}
use Rattle.ways.specs.declared.WayFault.TheVariants.{Malformed, OutOfLimits}
use Rattle.ways.proofs.TextLaws.{size-members, members-length, front_length}
use Rattle.ways.proofs.Members.{members-below, insert-members, members-insert-all, members-zero}

-- ---- what is written is read

pub gather-text : (n l s : ℕ) (bs rest : List ℕ) → n ≤ 64 → Rising n l bs → gather_of n l s (length bs) (numbers_text bs ++ rest) ≡ Ok (insert_all s bs)
unfolding gather_of numbers_text insert_all
gather-text n l s [] rest h none = refl
gather-text n l s (b ∷ bs) rest h (more p q r) =
    let a : (columns 4 (b + 1) ++ numbers_text bs) ++ rest ≡ columns 4 (b + 1) ++ (numbers_text bs ++ rest) = append_assoc (columns 4 (b + 1)) (numbers_text bs) rest in
    let d : drop 4 (columns 4 (b + 1) ++ (numbers_text bs ++ rest)) ≡ numbers_text bs ++ rest = drop_at (columns 4 (b + 1)) (numbers_text bs ++ rest) 4 (columns-length 4 (b + 1)) in
    let i : b + 1 - 1 ≡ b = omega arith in
    rw (a, field-front 4 (b + 1) (numbers_text bs ++ rest) (omega arith), within-i (l + 1) (b + 1) n (omega arith) (omega arith), d, i)
    (gather-text n (b + 1) (insert s b) bs rest h r)

-- the count of a front
front-count : (k : ℕ) → k < 10 ^ 4 → count_of (way_front k) ≡ Ok k
unfolding count_of way_front field_at
front-count k h = rw (take_all 4 (columns 4 k) (omega (arith, columns-length 4 k))) (written_read 4 k h)

pub shape : (s : ℕ) (rest : List ℕ) → way_text s ++ rest ≡ way_front (size_of s) ++ (numbers_text (members s) ++ (10 ∷ rest))
unfolding way_text
shape s rest =
    append_assoc (way_front (size_of s)) (numbers_text (members s) ++ (10 ∷ [])) rest
    ∙ ap (λ (t : List ℕ). way_front (size_of s) ++ t) (append_assoc (numbers_text (members s)) (10 ∷ []) rest)

-- the line feed stands after the numbers
line-feed-text : (s : ℕ) (rest : List ℕ) → line_feed_at (way_front_bytes + 4 * size_of s) (way_text s ++ rest) ≡ true
unfolding line_feed_at
line-feed-text s rest =
    let f : List ℕ = way_front (size_of s) in
    let m : List ℕ = numbers_text (members s) in
    let l : length (way_front (size_of s) ++ numbers_text (members s)) ≡ way_front_bytes + 4 * size_of s =
    length-append (way_front (size_of s)) (numbers_text (members s)) ∙ omega (arith, front_length (size_of s), members-length s) in
    rw (shape s rest, ← append_assoc f m (10 ∷ rest), get_or_at (f ++ m) 10 rest 0 (way_front_bytes + 4 * size_of s) l)

-- the line of a set of 1 or more of the first n bookings reads back as that set
pub way-read : (n s : ℕ) (rest : List ℕ) → n ≤ 64 → 1 ≤ size_of s → s < 2 ^ n → way_line_of n (way_text s ++ rest) ≡ Ok (size_of s, s)
unfolding way_line_of members_of
way-read n s rest h o l =
    let k : size_of s ≤ n = size-le n s h l in
    let f : take way_front_bytes (way_text s ++ rest) ≡ way_front (size_of s) =
    rw (shape s rest) (take_at (way_front (size_of s)) (numbers_text (members s) ++ (10 ∷ rest)) way_front_bytes (front_length (size_of s))) in
    let d : drop way_front_bytes (way_text s ++ rest) ≡ numbers_text (members s) ++ (10 ∷ rest) =
    rw (shape s rest) (drop_at (way_front (size_of s)) (numbers_text (members s) ++ (10 ∷ rest)) way_front_bytes (front_length (size_of s))) in
    rw (f, front-count (size_of s) (omega arith), within-i 1 (size_of s) n o k, line-feed-text s rest, d, the-set)
  where
    rising : Rising n 0 (members s)
    rising = rw (members-below n s h l) (listed-rises (member s) n)

    the-set : gather_of n 0 0 (size_of s) (numbers_text (members s) ++ (10 ∷ rest)) ≡ Ok s
    the-set = rw (size-members s) (gather-text n 0 0 (members s) (10 ∷ rest) h rising ∙ ap Ok (insert-members s (fits_more s n 64 l h)))

-- ---- what is read is what is written

-- k fields that were accepted are the numbers of a list that rises from l on and was put into s
record Numbers (n l s k x : ℕ) (fields : List ℕ) : Type 0 where
  bs : List ℕ
  long : length bs ≡ k
  rises : Rising n l bs
  value : x ≡ insert_all s bs
  text : take (4 * k) fields ≡ numbers_text bs

-- one number more in front
one_more : (n l s k x z : ℕ) (fields : List ℕ) → l + 1 ≤ z → z ≤ n → take 4 fields ≡ columns 4 z → Numbers n z (insert s (z - 1)) k x (drop 4 fields)
    → Numbers n l s (suc k) x fields
unfolding numbers_text insert_all
one_more n l s k x z fields p q t a =
    let i : z ≡ z - 1 + 1 = omega arith in
    let c : 4 * suc k ≡ 4 + 4 * k = omega arith in
    record {
      bs = (z - 1) ∷ a.bs;
      long = ap suc a.long;
      rises = more {l = l} {b = z - 1} (omega arith) (omega arith) (rw i at a.rises);
      value = a.value;
      text = rw (c, take-add 4 (4 * k) fields, t, a.text) (ap (λ (y : ℕ). columns 4 y ++ numbers_text a.bs) i);
    }

numbers-accepted : (n k l s x : ℕ) (fields : List ℕ) → gather_of n l s k fields ≡ Ok x → Numbers n l s k x fields
unfolding gather_of numbers_text insert_all
numbers-accepted n zero l s x fields e = record { bs = []; long = refl; rises = none; value = cc; text = refl }
numbers-accepted n (suc k) l s x fields e =
    go (λ z. numbers-accepted n k z (insert s (z - 1)) x (drop 4 fields)) (field_at 4 0 fields) (field-text 4 0 fields) e
  where
    go : ((z : ℕ) → gather_of n z (insert s (z - 1)) k (drop 4 fields) ≡ Ok x → Numbers n z (insert s (z - 1)) k x (drop 4 fields))
        → (f : Field) → ((z : ℕ) → f ≡ Ok z → take 4 fields ≡ columns 4 z)
        → after_number f n l (sequence_or_form k (drop 4 fields)) (λ z. gather_of n z (insert s (z - 1)) k (drop 4 fields)) ≡ Ok x → Numbers n l s (suc k) x fields
    go next (Ok z) t j = pick (within (l + 1) z n) (within-lo (l + 1) z n) (within-hi (l + 1) z n) j
      where
        pick : (b : Bool) → (b ≡ true → l + 1 ≤ z) → (b ≡ true → z ≤ n)
            → cond b (gather_of n z (insert s (z - 1)) k (drop 4 fields)) (Err (sequence_or_form k (drop 4 fields))) ≡ Ok x → Numbers n l s (suc k) x fields
        pick true p q i = one_more n l s k x z fields (p refl) (q refl) (t z refl) (next z i)
        pick false p q i = clash true refl (cc)
    go next (Err _) t j = clash true refl (cc)

-- what an accepted line is: the line of the set, which has the count that the line lists, and bookings of n alone
pub record WayIs (n k s : ℕ) (rest : List ℕ) : Type 0 where
  pub counted : k ≡ size_of s
  pub some : 1 ≤ k
  pub small : s < 2 ^ n
  pub listed-count : count_in rest ≡ k
  pub text : rest ≡ way_text s ++ drop (way_bytes k) rest

count-front : (front : List ℕ) (k : ℕ) → length front ≤ way_front_bytes → count_of front ≡ Ok k → front ≡ way_front k
unfolding count_of way_front field_at
count-front [] k h e = clash true refl (cc)
count-front (x ∷ t) k h e = go (eqb x 65) (eqb-true x 65) e
  where
    go : (b : Bool) → (b ≡ true → x ≡ 65) → cond b (field_of 4 (take 4 t)) (Err N.Fault) ≡ Ok k → x ∷ t ≡ 65 ∷ columns 4 k
    go true q i =
        let u : t ≡ columns 4 k = sym (take_all 4 t (omega arith)) ∙ (read-written 4 (take 4 t) k i).text in
        let v : x ≡ 65 = q refl in
        rw (u, v)
    go false q i = clash true refl (cc)

front-number : (rest : List ℕ) (k : ℕ) → take way_front_bytes rest ≡ way_front k → k < 10 ^ 4 → count_in rest ≡ k
unfolding way_front
front-number [] k e h = clash true refl (cc)
front-number (x ∷ t) k e h = let u : take 4 t ≡ columns 4 k = cc in number-in 4 1 k (x ∷ t) h u

-- the line feed that was found
line-feed-is : (at : ℕ) (rest : List ℕ) → line_feed_at at rest ≡ true → drop at rest ≡ 10 ∷ drop (at + 1) rest
unfolding line_feed_at
line-feed-is at rest e =
    let v : get_or rest at 0 ≡ 10 = eqb-true (get_or rest at 0) 10 e in
    elim (split? at (length rest)) [
      | inl l ↦ drop-cons rest at 0 l ∙ rw (v, add-one)
      | inr l ↦ absurd (omega (arith, get_or-eq_default rest 0 l))
    ]

-- the parts of an accepted line
way_parts : (n k s : ℕ) (rest : List ℕ) → n ≤ 64 → 1 ≤ k → k ≤ n → take way_front_bytes rest ≡ way_front k → line_feed_at (way_front_bytes + 4 * k) rest ≡ true
    → gather_of n 0 0 k (drop way_front_bytes rest) ≡ Ok s → WayIs n k s rest
way_parts n k s rest h o l f e g =
    let a : Numbers n 0 0 k s (drop way_front_bytes rest) = numbers-accepted n k 0 0 s (drop way_front_bytes rest) g in
    let m : members s ≡ a.bs =
    ap members a.value ∙ members-insert-all n h 0 0 a.bs a.rises (omega arith) ∙ rw members-zero in
    let c : k ≡ size_of s = sym a.long ∙ ap length (sym m) ∙ sym (size-members s) in
    let t : drop way_front_bytes rest ≡ numbers_text (members s) ++ drop (way_front_bytes + 4 * k) rest =
    sym (take-append-drop (4 * k) (drop way_front_bytes rest)) ∙ rw (a.text, m, drop-drop (4 * k) way_front_bytes rest) in
    let i : way_front_bytes + 4 * k + 1 ≡ way_bytes k = omega arith in
    record {
      counted = c;
      some = o;
      small = rw a.value (insert-all-lt n h 0 0 a.bs a.rises (omega arith) (omega arith));
      listed-count = front-number rest k f (omega arith);
      text = sym (take-append-drop way_front_bytes rest) ∙ rw (f, t, line-feed-is (way_front_bytes + 4 * k) rest e, i, c) (sym (shape s (drop (way_bytes (size_of s)) rest)));
    }

pub way-accepted : (n k s : ℕ) (rest : List ℕ) → n ≤ 64 → way_line_of n rest ≡ Ok (k, s) → WayIs n k s rest
unfolding way_line_of members_of
way-accepted n k s rest h = go (count_of (take way_front_bytes rest)) (λ c. count-front (take way_front_bytes rest) c (omega (arith, length-take way_front_bytes rest)))
  where
    last : (c : ℕ) (r : Result ℕ LineFault) → gather_of n 0 0 c (drop way_front_bytes rest) ≡ r → take way_front_bytes rest ≡ way_front c → line_feed_at (way_front_bytes + 4 * c) rest ≡ true → 1 ≤ c → c ≤ n
        → as_way c r ≡ Ok (k, s) → WayIs n k s rest
    last c (Ok y) g f e o l q =
        let p : (c, y) ≡ (k, s) = cc in
        let u : c ≡ k = ap (λ (w : ℕ × ℕ). w.0) p in
        let v : y ≡ s = ap (λ (w : ℕ × ℕ). w.1) p in
        rw u at (way_parts n c s rest h o l f e (g ∙ ap Ok v))
    last c (Err fault) g f e o l q = clash true refl (cc)

    body : (c : ℕ) → take way_front_bytes rest ≡ way_front c → (a b : Bool) → within 1 c n ≡ a → line_feed_at (way_front_bytes + 4 * c) rest ≡ b
        → cond a (cond b (as_way c (gather_of n 0 0 c (drop way_front_bytes rest))) (Err Malformed)) (Err OutOfLimits) ≡ Ok (k, s) → WayIs n k s rest
    body c f true true p e q = last c (gather_of n 0 0 c (drop way_front_bytes rest)) refl f e (within-lo 1 c n p) (within-hi 1 c n p) q
    body c f true false p e q = clash true refl (cc)
    body c f false b p e q = clash true refl (cc)

    go : (f : Field) → ((c : ℕ) → f ≡ Ok c → take way_front_bytes rest ≡ way_front c) → after_count f n rest ≡ Ok (k, s) → WayIs n k s rest
    go (Ok c) r q = body c (r c refl) (within 1 c n) (line_feed_at (way_front_bytes + 4 * c) rest) refl refl q
    go (Err _) r q = clash true refl (cc)
