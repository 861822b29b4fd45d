-- `book::rules::mode_ok` meets its contract.
use borrow.Author.Tests.{eq-eqb, ne_eqb}
use Rattle.book.specs.Rules.{mode_ok}
use Rattle.book.proofs.rules.mode_ok.Goals as goal

pub returns-then-mode-eq0 : goal.returns-then-mode-eq0
unfolding mode_ok
returns-then-mode-eq0 c = simp (eq-eqb _ _ c.if-mode-eq0.true)

pub returns-then-rollback-ne-NEVER : goal.returns-then-rollback-ne-NEVER
unfolding mode_ok
returns-then-rollback-ne-NEVER c = simp (ne_eqb _ _ c.if-mode-eq0.false, ne_eqb _ _ c.if-rollback-ne-NEVER.true)

pub returns-else-rollback-ne-NEVER : goal.returns-else-rollback-ne-NEVER
unfolding mode_ok
returns-else-rollback-ne-NEVER c = simp (ne_eqb _ _ c.if-mode-eq0.false, eq-eqb _ _ c.if-rollback-ne-NEVER.false)
