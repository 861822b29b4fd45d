-- What a round asks of the jobs, each by its number, however they are laid out.
use Rattle.std.specs.Prelude.{Bool, List, ℕ, ℤ, Option}
use Rattle.job.specs.declared.Job.{Job}
use Rattle.job.specs.Job.{hold_of, rollback_of, is_left}
use Rattle.gus.specs.State.{job_at}
use Rattle.gus.specs.Waits.{waits_for}

-- what finishing a job in a mode, true for rollback, at a moment is worth, or none
abbrev pub Pay : Type 0
Pay = Bool → ℕ → ℕ → Option ℤ

-- hold and undo: how long the job that this one waits for needs, running or rolling back, until it frees what this one requests
pub record View : Type 0 where
  pub left : ℕ → Bool
  pub waits : ℕ → ℕ
  pub hold : ℕ → ℕ
  pub undo : ℕ → ℕ
  pub run : ℕ → ℕ
  pub rollback : ℕ → ℕ
  pub rolling : ℕ → Bool
  pub worth : Pay

abbrev pub view_of : Pay → List Job → View
view_of pay js = record {
  left = λ i. is_left (job_at js i);
  waits = λ i. waits_for js i;
  hold = λ i. hold_of (job_at js (waits_for js i)) (job_at js i).request.resource;
  undo = λ i. rollback_of (job_at js (waits_for js i)) (job_at js i).request.resource;
  run = λ i. (job_at js i).run;
  rollback = λ i. (job_at js i).rollback;
  rolling = λ i. (job_at js i).rolling;
  worth = pay;
}
