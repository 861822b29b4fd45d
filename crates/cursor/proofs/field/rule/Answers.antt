-- `cursor::field::rule` meets its contract.
use Rattle.cursor.specs.Answer.{ruled}
use Rattle.cursor.proofs.field.rule.Goals as goal

pub returns-then-ok : goal.returns-then-ok
unfolding ruled
returns-then-ok c = simp c.if-ok.true

pub returns-else-ok : goal.returns-else-ok
unfolding ruled
returns-else-ok c = simp c.if-ok.false
