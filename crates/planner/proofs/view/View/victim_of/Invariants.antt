use Rattle.laws.specs.Count.{Counting}
use Rattle.gus.specs.Victims.{offer}
use Rattle.planner.specs.Seen.{seen_by}
use Rattle.planner.proofs.view.View.victim_of.Given as goal

abbrev pub invariant-loop-job : goal.invariant-loop-job
invariant-loop-job l = Counting (offer (seen_by l.self) l.self.moment l.low) l.self.jobs l.initial.b l.b l.job
