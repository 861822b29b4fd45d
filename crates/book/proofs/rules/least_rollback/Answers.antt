-- `book::rules::least_rollback` meets its contract.
use borrow.Author.Tests.{eq-eqb, ne_eqb}
use Rattle.book.specs.Rules.{least_rollback}
use Rattle.book.proofs.rules.least_rollback.Goals as goal

pub returns-then-rollback-eq-NEVER : goal.returns-then-rollback-eq-NEVER
unfolding least_rollback
returns-then-rollback-eq-NEVER c = simp (eq-eqb _ _ c.if-rollback-eq-NEVER.true)

pub returns-else-rollback-eq-NEVER : goal.returns-else-rollback-eq-NEVER
unfolding least_rollback
returns-else-rollback-eq-NEVER c = simp (ne_eqb _ _ c.if-rollback-eq-NEVER.false)
