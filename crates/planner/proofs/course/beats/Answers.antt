-- `planner::course::beats` meets its contract.
use borrow.Author.Rules.{rules}
use mir.Syntax.{w32}
use mir.Val.{SFits}
use mir.Facts.{to_z-of_z}
use Rattle.gus.specs.Course.{denser}
use Rattle.planner.proofs.course.beats.Goals as goal

pub returns : goal.returns
unfolding denser
returns c =
    let a : SFits w32 c.args.a.gain = search rules in
    let b : SFits w32 c.args.b.gain = search rules in
    rw (to_z-of_z a, to_z-of_z b) at c.denser.ensures
