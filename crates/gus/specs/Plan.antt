-- The whole answer from the jobs at the moment now: a knot, or the victims and the plan.
use Rattle.std.specs.Prelude.{List, ℕ}
use Rattle.job.specs.declared.Job.{Job}
use Rattle.gus.specs.View.{Pay, view_of}
use Rattle.gus.specs.Choice.{Way, by_density}
use Rattle.gus.specs.Round.{Plan, rounds}
use Rattle.gus.specs.Victims.{victims_of, settled}

pub record Answer : Type 0 where
  pub victims : List ℕ
  pub plan : Plan

-- by these victims: the plan of at most n rounds after they went into rollback
abbrev pub answer_after : ℕ → Way → Pay → List Job → ℕ → List ℕ → Answer
answer_after n way pay js now victims = record { victims = victims; plan = rounds n way pay (settled js victims) now }

unfoldable pub answer_to : ℕ → Way → Pay → List Job → ℕ → Answer
answer_to n way pay js now = answer_after n way pay js now (victims_of (view_of pay js) now)

-- no more rounds than jobs, since each ends one
abbrev pub answer_by : Way → Pay → List Job → ℕ → Answer
answer_by = answer_to 32

-- 01's way
abbrev pub answer_of : Pay → List Job → ℕ → Answer
answer_of = answer_by by_density
