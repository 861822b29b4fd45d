-- THE SHEET: what a round asks of the jobs, in one array with a row of nine numbers for each job.
use Rattle.std.specs.Prelude.{Bool, true, false, ◌&&◌, cond, List, ℕ, ◌+◌, ◌*◌, ltb, eqb, pos, get_or, ℤ, Option, None, Some}
use Rattle.curve.specs.Before.{worth_before}
use Rattle.gus.specs.Waits.{nobody}
use Rattle.gus.specs.View.{Pay, View}

-- number k of job i's row; past the last row it is z
abbrev pub cell : ℕ → List ℕ → ℕ → ℕ → ℕ
cell k sheet z i = get_or sheet (9 * i + k) z

-- run time left and rollback time
abbrev pub run_in : List ℕ → ℕ → ℕ
run_in sheet = cell 0 sheet 0

abbrev pub rollback_in : List ℕ → ℕ → ℕ
rollback_in sheet = cell 1 sheet 0

-- how long the job that this one waits for needs what this one requests, running or rolling back
abbrev pub hold_in : List ℕ → ℕ → ℕ
hold_in sheet = cell 2 sheet 0

abbrev pub undo_in : List ℕ → ℕ → ℕ
undo_in sheet = cell 3 sheet 0

-- whom it waits for
abbrev pub waits_in : List ℕ → ℕ → ℕ
waits_in sheet = cell 4 sheet nobody

-- "mode 1 (0 normal, 1 rollback)"
abbrev pub rolling_in : List ℕ → ℕ → Bool
rolling_in sheet i = eqb (cell 5 sheet 0 i) 1

-- where its curve's termination stands in the book, and how many pieces stand before it
abbrev pub end_in : List ℕ → ℕ → ℕ
end_in sheet = cell 6 sheet 0

abbrev pub pieces_in : List ℕ → ℕ → ℕ
pieces_in sheet = cell 7 sheet 0

-- what it requests: a resource, or 255
abbrev pub asks_in : List ℕ → ℕ → ℕ
asks_in sheet = cell 8 sheet nobody

-- what a normal finish of a job is worth, by its curve in the lent bytes; past the last row nobody finishes
abbrev pub worth_seen : List ℕ → List ℕ → ℕ → ℕ → Option ℤ
worth_seen bytes sheet i t = cond (ltb i 32) (worth_before bytes (end_in sheet i) (pieces_in sheet i) t) None

-- by mode: rollback is worth 0 at any time
abbrev pub paid : List ℕ → List ℕ → Pay
paid bytes sheet rolling i t = elim rolling [ true ↦ Some (pos 0) | false ↦ worth_seen bytes sheet i t ]

-- THE VIEW of the jobs that the lent book and sheet give
abbrev pub seen : List ℕ → List ℕ → View
seen bytes sheet = record {
  left = λ i. ltb 0 (run_in sheet i) && ltb 0 (rollback_in sheet i);
  waits = waits_in sheet;
  hold = hold_in sheet;
  undo = undo_in sheet;
  run = run_in sheet;
  rollback = rollback_in sheet;
  rolling = rolling_in sheet;
  worth = paid bytes sheet;
}
