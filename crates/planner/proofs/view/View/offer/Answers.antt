-- `planner::view::View::offer` meets its contract.
use mathlib.Core.Path.{◌≡◌, sym, ◌∙◌}
use lib.ListN.{get_or}
use Rattle.gus.specs.Victims.{circle_of}
use Rattle.planner.specs.Sheet.{waits_in}
use Rattle.planner.specs.Circling.{circle-at}
use Rattle.planner.specs.Picking.{lesser-made}
use Rattle.planner.specs.Offering.{offer-other, offer-never, offer-made}
use Rattle.planner.proofs.view.View.offer.Goals as goal
use Rattle.planner.proofs.view.View.offer.Goals.{Start}

circle : (c : Start) → get_or c.args.circles.now c.args.job 0 ≡ circle_of (waits_in c.args.self.now.sheet.now) c.args.job
circle c = circle-at _ _ c.requires.circles_are c.requires.step.job

pub returns-then-circles-job : goal.returns-then-circles-job
returns-then-circles-job c = offer-other _ _ _ _ _ _ (circle (goal.at.returns-then-circles-job c).Start) c.if-circles-job.true

pub returns-then-cell-eq-NEVER : goal.returns-then-cell-eq-NEVER
returns-then-cell-eq-NEVER c =
    let never = sym c.cell.ensures.value ∙ c.if-cell-eq-NEVER.true in
    offer-never _ _ _ _ _ _ (circle (goal.at.returns-then-cell-eq-NEVER c).Start) c.if-circles-job.false never

pub returns : goal.returns
returns c =
    let made = lesser-made _ _ _ c.beats-wins.ensures c.pick.ensures in
    offer-made _ _ _ _ _ _ (circle (goal.at.returns c).Start) c.if-circles-job.false (λ e. c.if-cell-eq-NEVER.false (c.cell.ensures.value ∙ e)) c.loss_of-c.ensures made
