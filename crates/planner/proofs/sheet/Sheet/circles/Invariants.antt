use Rattle.laws.specs.Each.{Doing}
use Rattle.gus.specs.Victims.{circle_of}
use Rattle.planner.specs.Sheet.{waits_in}
use Rattle.planner.proofs.sheet.Sheet.circles.Given as goal

abbrev pub invariant-loop-job : goal.invariant-loop-job
invariant-loop-job l = Doing (λ i none. circle_of (waits_in l.self) i) l.n l.initial.circle-items l.circle-items l.job
