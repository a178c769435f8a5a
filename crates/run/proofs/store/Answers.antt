-- What is left of `run::store`.
-- Assumes nothing.
use mathlib.Core.Path.{◌≡◌, ap, ◌∙◌}
use mathlib.Core.List.{List, [], ◌∷◌, ◌++◌}
use Prim.Native.Nat.{ℕ, suc, ◌-◌}
use native.Mathlib.Omega.{arith}
use lib.ListN.{length, set}
use borrow.Rule.Slice.PartMut.{put_mid}
use Rattle.std.proofs.Common.{append-nil}
use Rattle.std.proofs.lemmas.List.{drop_all}
use Rattle.run.specs.Bytes.{bytes_of}
use Rattle.run.proofs.store.Goals as goal

-- the way, then the codes to the end
stored : (s code new : List ℕ) (w : ℕ) → length s ≡ 65 → length code ≡ 64 → new ≡ code → put_mid 1 (length (set s 0 w) - 1) (set s 0 w) new ≡ w ∷ code
stored [] code new w l k e = absurd (omega arith)
stored (x ∷ xs) code new w l k e =
    rw e (ap (λ (t : List ℕ). w ∷ (code ++ t)) (drop_all (suc (length xs) - 1) xs (omega arith)) ∙ rw append-nil)

pub returns : goal.returns
unfolding bytes_of
returns c = stored c.args.s.now c.args.r.now.code _ c.args.r.now.way c.requires (omega arith) c.copy_from_slice.ensures.after
