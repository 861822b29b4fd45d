use Rattle.std.proofs.Common.{◌≡◌}
use Rattle.opening.specs.Taken.{jobs_in}
use Rattle.opening.proofs.start.open_jobs.Given as goal

abbrev pub invariant-loop-i : goal.invariant-loop-i
invariant-loop-i l = l.taken ≡ jobs_in l.s l.starts l.i
