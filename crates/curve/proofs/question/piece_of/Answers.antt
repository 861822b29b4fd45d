-- `curve::question::piece_of` meets its contract.
use Rattle.cursor.specs.Field.{value_at}
use Rattle.curve.proofs.question.piece_of.Goals as goal

pub returns : goal.returns
unfolding value_at
returns c = rw (c.from_be_bytes-start.ensures, c.from_be_bytes-value.ensures, c.from_be_bytes-slope.ensures) at c.piece_from.ensures
