-- `planner::chain::follow` meets its contract.
use Rattle.std.specs.Prelude.{◌≡◌, ◌+◌, ◌-◌}
use Rattle.std.proofs.Common.{arith}
use Rattle.planner.specs.Following.{following-begin, following-next, following-stopped, following-ended}
use Rattle.planner.proofs.chain.follow.Goals as goal

pub loop-from-init : goal.loop-from-init
loop-from-init c = let p = c.requires in following-begin p.long p.below p.job c.cell-job.ensures.value

pub returns-then-job-ge32 : goal.returns-then-job-ge32
returns-then-job-ge32 c =
    let e : c.loop-from.from - 1 + 1 ≡ c.loop-from.from = omega arith in
    rw e (following-stopped c.loop-from.invariant c.if-job-ge32.true)

pub loop-from-preserved : goal.loop-from-preserved
loop-from-preserved c = following-next c.loop-from.invariant c.loop-from-test.true c.if-job-ge32.false c.cell-job-in-loop-from.ensures.value

pub returns : goal.returns
returns c =
    let e : c.loop-from.from ≡ 0 = omega arith in
    rw e at (following-ended c.loop-from.invariant c.loop-from-test.false)
