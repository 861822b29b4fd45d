-- `planner::view::View::loss_of` meets its contract.
use borrow.Author.Rules.{rules}
use mir.Syntax.{w32}
use mir.Val.{SFits}
use mir.Facts.{to_z-of_z}
use Rattle.planner.specs.Considering.{loss-alone}
use Rattle.planner.proofs.view.View.loss_of.Goals as goal

pub returns : goal.returns
returns c =
    let f : SFits w32 c.run_alone.result.gain = search rules in
    rw (to_z-of_z f) (loss-alone _ _ _ c.run_alone.ensures)
