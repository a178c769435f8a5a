-- What the loop of `lines::read_links` keeps.
-- Assumes nothing.
use Prim.Native.Nat.{◌+◌, ◌*◌, ◌-◌}
use mathlib.Core.Path.{◌≡◌}
use lib.ListN.{drop}
use Rattle.plan.specs.Links.{no_links}
use Rattle.lines.specs.Form.{link_bytes}
use Rattle.lines.specs.Links.{links_of}
use Rattle.lines.proofs.read_links.Given as goal

abbrev pub invariant-loop-i : goal.invariant-loop-i
invariant-loop-i l = links_of l.n (l.m - l.i) l.i (drop (l.at + link_bytes * l.i) l.s) l.last.from l.last.to l.links.from l.links.to ≡ links_of l.n l.m 0 (drop l.at l.s) 0 0 no_links no_links
