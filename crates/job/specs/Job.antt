-- One job, and what a part does to it (01, "What a part does to the book"; VI.4).
use Rattle.std.specs.Prelude.{ℕ, ◌-◌, Bool, true, false, cond, ◌&&◌, [], map, set, get_or, ltb}
use Rattle.job.specs.declared.Held.{Held}
use Rattle.job.specs.declared.Request.{Request}
use Rattle.job.specs.declared.Job.{Job}
use Rattle.job.specs.Times.{plus, either_never, or_never}
use Rattle.job.specs.Held.{free, after_grant, after_run, after_rollback}

-- resource 255, and both times 0
abbrev pub no_request : Request
no_request = record { resource = 255; hold = 0; rollback = 0 }

-- what stands past the end of an array of jobs: all zero
abbrev pub no_job : Job
no_job = record { rolling = false; run = 0; rollback = 0; request = record { resource = 0; hold = 0; rollback = 0 }; held = [] }

-- what a job holds of a resource: how long it has it, running and rolling back
abbrev pub held_at : Job → ℕ → Held
held_at j r = get_or j.held r free

abbrev pub hold_of : Job → ℕ → ℕ
hold_of j r = (held_at j r).hold

abbrev pub rollback_of : Job → ℕ → ℕ
rollback_of j r = (held_at j r).rollback

-- A job at zero is removed.
abbrev pub is_left : Job → Bool
is_left j = ltb 0 j.run && ltb 0 j.rollback

-- the job's rollback or the request's is never
abbrev pub all_never : Job → Bool
all_never j = either_never j.rollback j.request.rollback

-- The grant of a request: the resource becomes held with the request's hold; its rollback is added to the job's and to each
-- other held rollback, and is the new one's own; if either is never, all are never; the request is gone.
abbrev pub given : Job → Job
given j = record {
  rolling = j.rolling;
  run = j.run;
  rollback = or_never (all_never j) (plus j.rollback j.request.rollback);
  request = no_request;
  held =
      set (map (after_grant (all_never j) j.request.rollback) j.held)
      j.request.resource
      (record { hold = j.request.hold; rollback = or_never (all_never j) j.request.rollback });
}

unfoldable pub granted : Job → Job
granted j = cond (ltb j.request.resource 32) (given j) j

unfoldable pub ran : ℕ → Job → Job
ran time j = record {
  rolling = j.rolling;
  run = j.run - time;
  rollback = j.rollback;
  request = j.request;
  held = map (after_run time) j.held;
}

unfoldable pub rolled_back : ℕ → Job → Job
rolled_back time j = record {
  rolling = true;
  run = j.run;
  rollback = j.rollback - time;
  request = no_request;
  held = map (after_rollback time) j.held;
}

-- A job after one part: true for a rollback part, false for a normal one.
abbrev pub worked : Bool → ℕ → Job → Job
worked true time j = rolled_back time j
worked false time j = ran time (granted j)

-- what a job has left in a mode, and how long it has a resource in it
abbrev pub left_in : Bool → Job → ℕ
left_in true j = j.rollback
left_in false j = j.run

abbrev pub span_in : Bool → Job → ℕ → ℕ
span_in true j r = rollback_of j r
span_in false j r = hold_of j r
