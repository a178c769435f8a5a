-- What is left of `decimal::field_at`.
-- Assumes nothing.
use Rattle.decimal.specs.Decimal.{field_at}
use Rattle.decimal.proofs.field_at.Goals as goal

pub returns : goal.returns
unfolding field_at
returns c = rw (← c.part.ensures) c.read_field.ensures
