-- `planner::chain::Chain::walk` meets its contract.
use Rattle.std.specs.Prelude.{◌≡◌, ◌+◌, ◌-◌}
use Rattle.std.proofs.Common.{arith}
use Rattle.planner.specs.Growing.{growing-next, growing-ended}
use Rattle.planner.proofs.chain.Chain.walk.Goals as goal

pub loop-k-preserved : goal.loop-k-preserved
loop-k-preserved c =
    let e : c.loop-k.k + 1 - c.args.self.now.from ≡ c.loop-k.k - c.args.self.now.from + 1 = omega arith in
    rw e (growing-next _ _ _ _ _ c.requires.along.seeing.modest c.loop-k.invariant (record { more = c.loop-k-test.true; job = c.from-job.ensures; mode = c.rolls_back-back.ensures; span = c.span_at-time.ensures; course = c.step-c.ensures }))

pub returns : goal.returns
returns c = growing-ended _ _ _ _ _ c.loop-k.invariant c.loop-k-test.false
