-- `planner::view::View::step` meets its contract.
use mathlib.Core.Path.{sym, ◌∙◌}
use mir.Syntax.{w32, w64}
use mir.Val.{SFits}
use mir.Facts.{to_z-of_z}
use borrow.Author.Rules.{rules}
use Rattle.planner.specs.Turn.{onward-none, onward-some, credit-small}
use Rattle.planner.proofs.view.View.step.Goals as goal

pub plus-requires : goal.plus-requires
plus-requires c =
    let credit = sym c.in-Some.is ∙ c.earn.ensures in
    let wide : SFits w64 c.in-Some.worth = search rules in
    let f : SFits w32 c.args.c.gain = search rules in
    rw (to_z-of_z f, to_z-of_z wide) (c.requires.step.small.gain, credit-small _ c.requires.step.seeing.modest c.args.s.job c.args.s.back _ _ _ credit)

pub returns-in-None : goal.returns-in-None
returns-in-None c =
    let f : SFits w32 c.args.c.gain = search rules in
    rw (to_z-of_z f) (onward-none _ c.args.self.now.moment c.args.s.job c.args.s.back c.args.s.time c.args.c (sym c.in-None.is ∙ c.earn.ensures))

pub returns-in-Some : goal.returns-in-Some
returns-in-Some c =
    let credit = sym c.in-Some.is ∙ c.earn.ensures in
    let wide : SFits w64 c.in-Some.worth = search rules in
    let f : SFits w32 c.args.c.gain = search rules in
    onward-some _ c.args.self.now.moment c.args.s.job c.args.s.back c.args.s.time c.args.c _ _ credit
    (rw (to_z-of_z {w = w32} {z = c.plus.result} (search rules), c.plus.ensures, to_z-of_z f, to_z-of_z wide))
