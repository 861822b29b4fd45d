use Rattle.opening.specs.Sought.{Sought}
use Rattle.opening.proofs.held.held_at.Given as goal

abbrev pub invariant-loop-k : goal.invariant-loop-k
invariant-loop-k l = Sought l.s l.place l.resource l.k
