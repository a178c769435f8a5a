-- The bytes so far, and those that one more read brings.
-- Assumes nothing.
use Rattle.std.proofs.Common.{◌≡◌, ℕ, ◌+◌, List, ◌++◌, take, drop, Option, sym, ap, ◌∙◌, subst}
use Rattle.std.specs.Io.KnownBytes.{Consumes}
use Rattle.std.proofs.KnownBytes.{Consumes-trans}
use lib.Seq.{take-add}

pub and-bytes : (first before after : Option (List ℕ)) (old new : List ℕ) (done n : ℕ) → Consumes first before (take done old) → take done new ≡ take done old
    → Consumes before after (take n (drop done new)) → Consumes first after (take (done + n) new)
and-bytes first before after old new done n so-far front more =
    let split : take done old ++ take n (drop done new) ≡ take (done + n) new = ap (λ xs. xs ++ take n (drop done new)) (sym front) ∙ sym (take-add done n new) in
    subst (Consumes first after) split (Consumes-trans first before after _ _ so-far more)
