-- `planner::sheet::Sheet::circles` meets its contract.
use native.Mathlib.Omega.{arith}
use mathlib.Core.Path.{refl}
use Rattle.std.specs.Prelude.{replicate}
use Rattle.std.proofs.Common.{length-take-le}
use Rattle.laws.specs.Each.{begin, next, ended-ix}
use Rattle.gus.specs.Waits.{nobody}
use Rattle.planner.specs.Circling.{circles-ended}
use Rattle.planner.proofs.Filled.{front-turns}
use Rattle.planner.proofs.sheet.Sheet.circles.Goals as goal

pub loop-job-init : goal.loop-job-init
loop-job-init c = begin (length-take-le c.args.n (replicate 32 nobody) c.requires.few)

pub loop-job-preserved : goal.loop-job-preserved
loop-job-preserved c = next nobody c.loop-job.invariant (omega (arith, c.loop-job.invariant.size)) c.circle_of.ensures

pub returns : goal.returns
returns c =
    let done = c.loop-job.invariant in
    circles-ended (record { within = c.requires.few; size = refl; so_far = rw (ended-ix done (omega (arith, done.size))) (front-turns _ c.args.n (replicate 32 nobody)) }) c.requires.others
