-- What the loop of `ways::write_ways` keeps.
-- Assumes nothing.
use Rattle.std.proofs.Common.{◌≡◌, ◌+◌, ◌-◌, length}
use Rattle.std.proofs.lemmas.List.Edits.{sets}
use Rattle.ways.specs.WayText.{ways_text, ways_length}
use Rattle.ways.proofs.write_ways.Given as goal

abbrev pub invariant-loop-way : goal.invariant-loop-way
invariant-loop-way l = (l.next ≡ l.at + ways_length l.way-index l.ways)
    × (sets l.buf l.next (ways_text (length l.ways - l.way-index) l.way-index l.ways) ≡ sets l.initial.buf l.at (ways_text (length l.ways) 0 l.ways))
