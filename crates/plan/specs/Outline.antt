-- A plan but for its links, which stand beside it.
-- Assumes nothing.
use Rattle.std.specs.Prelude.{List, ℕ}
use Rattle.plan.specs.declared.Plan.{Plan}
use Rattle.plan.specs.declared.Outline.{Outline}

abbrev pub outline_of : Plan → Outline
outline_of p = record { n = p.n; m = p.m; a = p.a; limit = p.limit; kind = p.kind; desk = p.desk; way = p.way }

-- the plan of an outline and its links
abbrev pub plan_of : Outline → List ℕ → List ℕ → Plan
plan_of o us vs = record { n = o.n; m = o.m; a = o.a; limit = o.limit; kind = o.kind; desk = o.desk; from = us; to = vs; way = o.way }
