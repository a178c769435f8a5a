-- What the loop of `line_writer::write_links` keeps.
-- Assumes nothing.
use Prim.Native.Nat.{◌*◌, ◌-◌}
use mathlib.Core.Path.{◌≡◌}
use lib.ListN.{length}
use lib.Seq.{sets}
use Rattle.lines.specs.Form.{link_bytes}
use Rattle.lines.specs.Links.{links_text}
use Rattle.line_writer.proofs.write_links.Given as goal

abbrev pub invariant-loop-i : goal.invariant-loop-i
invariant-loop-i l = (length l.text ≡ length l.initial.text) × (sets l.text (link_bytes * l.i) (links_text (l.m - l.i) l.i l.from l.to) ≡ sets l.initial.text 0 (links_text l.m 0 l.from l.to))
