-- `planner::view::View::scan` meets its contract.
use mathlib.Core.Path.{◌∙◌}
use Rattle.laws.specs.Count.{count-begin, count_next, count-ended}
use Rattle.planner.specs.Considering.{best-among}
use Rattle.planner.proofs.view.View.scan.Goals as goal

pub loop-job-init : goal.loop-job-init
loop-job-init c = count-begin

pub loop-job-preserved : goal.loop-job-preserved
loop-job-preserved c = count_next c.loop-job.invariant c.loop-job-test.true c.consider-b.ensures

pub returns : goal.returns
returns c = count-ended c.loop-job.invariant c.loop-job-test.false ∙ best-among _ _ _ c.requires.beyond
