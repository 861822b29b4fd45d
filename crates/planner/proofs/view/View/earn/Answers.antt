-- `planner::view::View::earn` meets its contract: a part that is not all of its job's time, and every rollback, earns 0.
use mathlib.Core.Path.{refl, sym, ◌∙◌}
use Rattle.planner.specs.Turn.{earned-back, earned-all, earned-less}
use Rattle.planner.proofs.view.View.earn.Goals as goal

pub returns-then-s : goal.returns-then-s
returns-then-s c = rw c.if-s.true (earned-back _ (λ i m. refl) _ _ _)

pub returns-then-s-cell : goal.returns-then-s-cell
returns-then-s-cell c = rw c.if-s.false (c.worth_of.ensures ∙ earned-all _ _ _ _ (c.if-s-cell.true ∙ c.cell.ensures.value))

pub returns : goal.returns
returns c = rw c.if-s.false (earned-less _ _ _ _ (λ e. c.if-s-cell.false (e ∙ sym c.cell.ensures.value)))
