-- `planner::view::View::victim_of` meets its contract.
use mathlib.Core.Path.{◌∙◌}
use Rattle.laws.specs.Count.{count-begin, count_next, count-ended}
use Rattle.planner.specs.Offering.{victim-among}
use Rattle.planner.proofs.view.View.victim_of.Goals as goal

pub loop-job-init : goal.loop-job-init
loop-job-init c = count-begin

pub loop-job-preserved : goal.loop-job-preserved
loop-job-preserved c = count_next c.loop-job.invariant c.loop-job-test.true c.offer-b.ensures

pub returns : goal.returns
returns c = let p = c.requires in count-ended c.loop-job.invariant c.loop-job-test.false ∙ victim-among _ _ _ p.lowest p.circled.scanning.beyond
