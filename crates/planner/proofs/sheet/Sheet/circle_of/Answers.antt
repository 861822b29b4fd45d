-- `planner::sheet::Sheet::circle_of` meets its contract: the loop walks on with the lowest member so far and the steps that are left.
use Rattle.std.proofs.Common.{◌≡◌, ◌-◌, ◌+◌, arith}
use Rattle.planner.specs.Circling.{circling-begin, circling-next, circling-met, circling-left, circling-spent}
use Rattle.planner.proofs.sheet.Sheet.circle_of.Goals as goal

pub loop-init : goal.loop-init
loop-init c = circling-begin c.requires c.cell-job.ensures.value

pub returns-then-job-ge32 : goal.returns-then-job-ge32
returns-then-job-ge32 c = circling-left c.loop.invariant c.if-job-ge32.true

pub returns-then-job-home : goal.returns-then-job-home
returns-then-job-home c = circling-met c.loop.invariant (omega arith) c.if-job-ge32.false c.if-job-home.true

pub loop-preserved : goal.loop-preserved
loop-preserved c =
    let one_less : 32 - (c.loop.counter + 1) ≡ 32 - c.loop.counter - 1 = omega arith in
    rw one_less (circling-next c.loop.invariant (omega arith) c.if-job-ge32.false c.if-job-home.false c.min-low.ensures c.cell-job-in-loop.ensures.value)

pub returns : goal.returns
returns c = circling-spent c.loop.invariant (omega arith)
