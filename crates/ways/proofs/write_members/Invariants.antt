-- What the loop of `ways::write_members` keeps, with the members that are still to be written.
-- Assumes nothing.
use Rattle.std.proofs.Common.{◌≡◌, ◌+◌, ◌*◌}
use Rattle.std.proofs.lemmas.List.Edits.{sets}
use Rattle.sets.specs.Sets.{size_of}
use Rattle.ways.specs.WayText.{members, numbers_text}
use Rattle.ways.proofs.write_members.Given as goal

abbrev pub invariant-loop-b : goal.invariant-loop-b
invariant-loop-b l = (l.next + 4 * size_of l.b-iterator.rest ≡ l.at + 4 * size_of l.initial.b-iterator.rest)
    × (sets l.buf l.next (numbers_text (members l.b-iterator.rest)) ≡ sets l.initial.buf l.at (numbers_text (members l.initial.b-iterator.rest)))
