-- The jobs by number, and what a row of parts does to them (VI.4 with 01's rulings: `worked` of crate job).
use Rattle.std.specs.Prelude.{false, List, [], ◌∷◌, ℕ, get_or, set, replicate}
use Rattle.job.specs.declared.Job.{Job}
use Rattle.job.specs.Held.{free}
use Rattle.job.specs.Job.{no_request, worked}
use Rattle.gus.specs.declared.Part.{Part}

-- a place without a job
abbrev pub vacant : Job
vacant = record { rolling = false; run = 0; rollback = 0; request = no_request; held = replicate 32 free }

abbrev pub job_at : List Job → ℕ → Job
job_at js i = get_or js i vacant

-- the job of p after p
abbrev pub worked_by : List Job → Part → Job
worked_by js p = worked p.rolling p.time (job_at js p.job)

abbrev pub after : List Job → Part → List Job
after js p = set js p.job (worked_by js p)

unfoldable pub after_all : List Job → List Part → List Job
after_all js [] = js
after_all js (p ∷ ps) = after_all (after js p) ps
