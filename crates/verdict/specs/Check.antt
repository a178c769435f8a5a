-- The check, over a network whose precedence is closed: refusals 4 to 8, each with its place.
-- Assumes nothing.
use Rattle.std.specs.Prelude.{Bool, not, ◌&&◌, ◌||◌, cond, ℕ, suc, ◌+◌, ◌*◌, eqb, ltb, ⊤, Result, Ok, Err}
use Rattle.bounded.specs.Bounded.{imp, any, all, first}
use Rattle.sets.specs.Sets.{gather, subset_of, some}
use Rattle.network.specs.Network.{way_of, in_way, before, pre, firm, exposed}
use Rattle.network.specs.declared.Network.{Network}
use Rattle.verdict.specs.declared.Fault.{Fault}
use Rattle.verdict.specs.declared.Fault.TheVariants.{Circular, Unclosed, Unused, Repeated, Stranding}

-- ---- 4 to 7. The ways are searched by index: k stands for way k + 1

-- 4: booking b precedes itself
unfoldable pub circular : Network → ℕ → Bool
circular g b = pre g b b

-- 5: the way has a booking but not all that precede it
unfoldable pub gap : Network → ℕ → ℕ → Bool
gap g w v = in_way g w v && not (subset_of (before g v) (way_of g w))

unfoldable pub unclosed : Network → ℕ → Bool
unclosed g k = any (gap g (suc k)) g.n

-- 6: booking b is in no way
unfoldable pub used_by : Network → ℕ → ℕ → Bool
used_by g b k = in_way g (suc k) b

unfoldable pub unused : Network → ℕ → Bool
unused g b = not (any (used_by g b) g.a)

-- 7: the way equals an earlier one
unfoldable pub same_way : Network → ℕ → ℕ → Bool
same_way g k j = eqb (way_of g (suc j)) (way_of g (suc k))

unfoldable pub repeated : Network → ℕ → Bool
repeated g k = any (same_way g k) k

-- ---- 8

-- s belongs to S: it is a firm booking of way w other than x, and x does not precede it
unfoldable pub stays : Network → ℕ → ℕ → ℕ → Bool
stays g w x s = (firm g s && in_way g w s) && (not (eqb s x) && not (pre g x s))

-- S: what may be held for good when x is lost in way w
unfoldable pub staying : Network → ℕ → ℕ → ℕ
staying g w x = gather (stays g w x) g.n

-- y equals or precedes s, if s belongs to S
unfoldable pub leads_to : Network → ℕ → ℕ → ℕ → ℕ → Bool
leads_to g w x y s = imp (stays g w x s) (eqb y s || pre g y s)

-- y precedes x, or equals or precedes every member of S
unfoldable pub settled_by : Network → ℕ → ℕ → ℕ → Bool
settled_by g w x y = pre g y x || all (leads_to g w x y) g.n

-- so it is with y, if it is an exposed booking of way j
unfoldable pub safe : Network → ℕ → ℕ → ℕ → ℕ → Bool
safe g w x j y = imp (exposed g y && in_way g j y) (settled_by g w x y)

-- way j holds all of S, and each exposed booking in it is safe
unfoldable pub refuge : Network → ℕ → ℕ → ℕ → Bool
refuge g w x j = subset_of (staying g w x) (way_of g j) && all (safe g w x j) 64

-- way k + 1 comes after way w and is a refuge
unfoldable pub later_refuge : Network → ℕ → ℕ → ℕ → Bool
later_refuge g w x k = ltb w (suc k) && refuge g w x (suc k)

-- 8: x is an exposed booking of way w, S is not empty, and no later way is a refuge
unfoldable pub stranding : Network → ℕ → ℕ → Bool
stranding g w x = (exposed g x && in_way g w x) && (some (staying g w x) && not (any (later_refuge g w x) g.a))

-- some booking of way k + 1 strands
unfoldable pub strands : Network → ℕ → Bool
strands g k = any (stranding g (suc k)) g.n

-- ---- the verdict: the network passes, or it has a fault

abbrev pub Verdict : Type 0
Verdict = Result ⊤ Fault

-- the first way in which some booking strands, and the lowest such booking
abbrev pub first_stranding : Network → Verdict
first_stranding g =
    let k = first (strands g) g.a in
    cond (ltb k g.a) (Err (Stranding (suc k) (first (stranding g (suc k)) g.n))) (Ok tt)

-- the first fault, in the order of the refusals: the lowest booking, or the first way
unfoldable pub check : Network → Verdict
check g =
    let b4 = first (circular g) g.n in
    let k5 = first (unclosed g) g.a in
    let b6 = first (unused g) g.n in
    let k7 = first (repeated g) g.a in
    cond (ltb b4 g.n) (Err (Circular b4))
    (cond (ltb k5 g.a) (Err (Unclosed (suc k5)))
    (cond (ltb b6 g.n) (Err (Unused b6))
    (cond (ltb k7 g.a) (Err (Repeated (suc k7))) (first_stranding g))))

-- the number that the caller gets, 0 for none
unfoldable pub verdict_number : Verdict → ℕ
verdict_number (Ok x) = 0
verdict_number (Err (Circular b)) = 4
verdict_number (Err (Unclosed w)) = 5
verdict_number (Err (Unused b)) = 6
verdict_number (Err (Repeated w)) = 7
verdict_number (Err (Stranding w b)) = 8

-- the place that goes with it: a booking's number, a way's, or way × 256 + booking
unfoldable pub verdict_place : Verdict → ℕ
verdict_place (Ok x) = 0
verdict_place (Err (Circular b)) = suc b
verdict_place (Err (Unclosed w)) = w
verdict_place (Err (Unused b)) = suc b
verdict_place (Err (Repeated w)) = w
verdict_place (Err (Stranding w b)) = w * 256 + suc b
