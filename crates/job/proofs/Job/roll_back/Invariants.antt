use Rattle.std.proofs.Common.{◌≡◌, ◌++◌, map, take, drop}
use Rattle.job.specs.Held.{after_rollback}
use Rattle.job.proofs.Job.roll_back.Given as goal

abbrev pub invariant-loop-h : goal.invariant-loop-h
invariant-loop-h l = l.h-items ≡ map (after_rollback l.time) (take l.h-index l.initial.h-items) ++ drop l.h-index l.initial.h-items
