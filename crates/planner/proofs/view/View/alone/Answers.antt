-- `planner::view::View::alone` meets its contract.
use mathlib.Core.Path.{refl, sym, ◌∙◌}
use Rattle.planner.specs.Considering.{alone-back, alone-run}
use Rattle.planner.proofs.view.View.alone.Goals as goal

pub returns-then-rolls : goal.returns-then-rolls
returns-then-rolls c = rw c.cell.ensures.value (alone-back _ _ _ (sym c.rolls.ensures ∙ c.if-rolls.true) (λ m. refl))

pub returns : goal.returns
returns c = alone-run _ _ _ (sym c.rolls.ensures ∙ c.if-rolls.false) c.run_alone.ensures
