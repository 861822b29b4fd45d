-- `book::rules::request_ok` meets its contract.
use borrow.Author.Tests.{eq-eqb, ne_eqb}
use Rattle.book.specs.Rules.{request_ok}
use Rattle.book.proofs.rules.request_ok.Goals as goal

pub returns-then-resource-eq-NONE : goal.returns-then-resource-eq-NONE
unfolding request_ok
returns-then-resource-eq-NONE c = simp (eq-eqb _ _ c.if-resource-eq-NONE.true)

pub returns-else-resource-eq-NONE : goal.returns-else-resource-eq-NONE
unfolding request_ok
returns-else-resource-eq-NONE c = simp (ne_eqb _ _ c.if-resource-eq-NONE.false)
