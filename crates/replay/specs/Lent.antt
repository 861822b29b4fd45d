-- What a call makes of what was lent: nothing where there is no room or the plan is refused; otherwise the plan decides.
use Rattle.std.specs.Prelude.{◌≡◌, refl, List, ℕ, ◌<◌, ◌≤◌, length}
use Rattle.std.proofs.Common.{sym, lt-ltb, le-ltb}
use Rattle.cursor.specs.Refusal.{ROOM}
use Rattle.gus.specs.declared.Part.{Part}
use Rattle.planner.specs.Planned.{refused_plan, planned_of}
use Rattle.ilhuepatl.specs.Calls.{verdict_of, by_plan, outcome_of}
use Rattle.ilhuepatl.specs.Outcomes.{no_room, room}
use Rattle.ilhuepatl.specs.Rows.{refused_answer, row_outcome_of, by_plan as by_row_plan}

-- a refused plan leaves what was lent as it was
module _ (number place : ℕ) (l : 0 < number) where
  pub refused-out : (out : List ℕ) → by_plan (refused_plan number place) out ≡ record { verdict = verdict_of number place; out = out }
  unfolding refused_plan
  refused-out out = rw (lt-ltb 0 number l, by_plan)

  pub refused-row : (row : List Part) → by_row_plan (refused_plan number place) row ≡ record { answer = refused_answer number place; row = row }
  unfolding refused_plan
  refused-row row = rw (lt-ltb 0 number l, by_row_plan)

module _ (s : List ℕ) where
  -- with a lent output
  module _ (out : List ℕ) where
    pub without-room : length out < 430 → outcome_of s out ≡ record { verdict = verdict_of ROOM 0; out = out }
    without-room h = sym (no_room s out h refl)

    pub with-room : 430 ≤ length out → outcome_of s out ≡ by_plan (planned_of s) out
    with-room h = sym (room s out h refl)

  -- with a lent row
  module _ (row : List Part) where
    pub without-row : length row < 96 → row_outcome_of s row ≡ record { answer = refused_answer ROOM 0; row = row }
    unfolding row_outcome_of
    without-row h = rw (lt-ltb (length row) 96 h, row_outcome_of)

    pub with_row : 96 ≤ length row → row_outcome_of s row ≡ by_row_plan (planned_of s) row
    unfolding row_outcome_of
    with_row h = rw (le-ltb (length row) 96 h, row_outcome_of)
