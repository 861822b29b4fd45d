use Rattle.std.proofs.Common.{◌≡◌}
use Rattle.opening.specs.Taken.{held_in}
use Rattle.opening.proofs.record.job_at.Given as goal

abbrev pub invariant-loop-k : goal.invariant-loop-k
invariant-loop-k l = l.held ≡ held_in l.s l.place l.k
