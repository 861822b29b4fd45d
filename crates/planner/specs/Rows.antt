-- The rows of the jobs: what the sheet has where it is up to date, and then it gives the jobs' own view.
use Rattle.std.specs.Prelude.{◌≡◌, List, ℕ, ◌<◌, ◌≤◌, length}
use Rattle.job.specs.declared.Job.{Job}
use Rattle.job.specs.Job.{hold_of, rollback_of}
use Rattle.gus.specs.State.{job_at}
use Rattle.gus.specs.Waits.{waits_for}
use Rattle.planner.specs.Places.{Place}
use Rattle.planner.specs.Sheet.{run_in, rollback_in, hold_in, undo_in, waits_in, rolling_in, end_in, pieces_in, asks_in}

-- what job i asks for
abbrev pub asked : List Job → ℕ → ℕ
asked js i = (job_at js i).request.resource

-- from the n-th place on nobody has anything to run or asks for anything
pub record Idle (n : ℕ) (js : List Job) : Type 0 where
  pub run : (i : ℕ) → n ≤ i → (job_at js i).run ≡ 0
  pub request : (i : ℕ) → n ≤ i → 32 ≤ asked js i

-- THE SHEET IS THE ROWS OF THE JOBS, with the places of their curves
pub record Rows (js : List Job) (places : ℕ → Place) (sheet : List ℕ) : Type 0 where
  pub size : length sheet ≡ 288
  pub run : (i : ℕ) → i < 32 → run_in sheet i ≡ (job_at js i).run
  pub rollback : (i : ℕ) → i < 32 → rollback_in sheet i ≡ (job_at js i).rollback
  pub hold : (i : ℕ) → i < 32 → hold_in sheet i ≡ hold_of (job_at js (waits_for js i)) (asked js i)
  pub undo : (i : ℕ) → i < 32 → undo_in sheet i ≡ rollback_of (job_at js (waits_for js i)) (asked js i)
  pub waits : (i : ℕ) → i < 32 → waits_in sheet i ≡ waits_for js i
  pub rolling : (i : ℕ) → i < 32 → rolling_in sheet i ≡ (job_at js i).rolling
  pub end : (i : ℕ) → i < 32 → end_in sheet i ≡ (places i).end
  pub pieces : (i : ℕ) → i < 32 → pieces_in sheet i ≡ (places i).pieces
  pub asks : (i : ℕ) → i < 32 → asks_in sheet i ≡ asked js i
