-- `planner::best::pick` meets its contract.
use mir.Syntax.{w32}
use mir.Val.{SFits}
use mir.Facts.{to_z-of_z}
use borrow.Author.Rules.{rules}
use Rattle.planner.specs.Picking.{picked-fields}
use Rattle.planner.proofs.best.pick.Goals as goal

pub returns : goal.returns
returns c =
    let a = c.args in
    let new : SFits w32 a.c.gain = search rules in
    let old : SFits w32 a.b.course.gain = search rules in
    rw (to_z-of_z {w = w32} {z = c.either-gain.result} (search rules), c.either-last.ensures, c.either-time.ensures, c.either-gain.ensures, c.either-inside.ensures, to_z-of_z new, to_z-of_z old)
    (picked-fields a.job a.c a.b a.wins c.either-taken.result c.either-taken.ensures)
