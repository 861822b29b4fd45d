use Rattle.laws.specs.Count.{Counting}
use Rattle.gus.specs.Choice.{by_density}
use Rattle.gus.specs.Round.{consider}
use Rattle.planner.specs.Seen.{seen_by}
use Rattle.planner.proofs.view.View.scan.Given as goal

abbrev pub invariant-loop-job : goal.invariant-loop-job
invariant-loop-job l = Counting (consider by_density (seen_by l.self) l.self.moment) l.self.jobs l.initial.b l.b l.job
