use mathlib.Core.Path.{◌≡◌}
use Rattle.planner.specs.Seen.{seen_by}
use Rattle.planner.specs.Listing.{listed_to}
use Rattle.planner.proofs.view.View.list_victims.Given as goal

abbrev pub invariant-loop-job : goal.invariant-loop-job
invariant-loop-job l = l.v ≡ listed_to (seen_by l.self) l.self.moment l.job
