-- `planner::view::View::consider` meets its contract.
use mathlib.Core.Path.{sym, ◌∙◌}
use Rattle.planner.specs.Considering.{considered, passed_over}
use Rattle.planner.proofs.view.View.consider.Goals as goal

pub returns-then-is_left : goal.returns-then-is_left
returns-then-is_left c = considered _ _ _ _ _ (sym c.is_left.ensures ∙ c.if-is_left.true) c.score_of-c.ensures c.offer_group.ensures

pub returns : goal.returns
returns c = passed_over _ _ _ _ _ (sym c.is_left.ensures ∙ c.if-is_left.false)
