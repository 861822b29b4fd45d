-- What rests on specs/Refuses.antt.
use Rattle.std.specs.Prelude.{List, ℕ}
use Rattle.accepted.specs.Layout.{Bytes}
use Rattle.planner.specs.Planned.{planned_of}
use Rattle.ilhuepatl.specs.Calls.{verdict_of, outcome_of}
use Rattle.replay.specs.Refuses.{Refuses, given-plan, given-refuses, given-row, given_out}
use Rattle.std.proofs.Math.ListN.{length}
use Rattle.gus.specs.declared.Part.{Part}
use Rattle.ilhuepatl.specs.Rows.{row_outcome_of}

pub planned-refuses : (s : List ℕ) → Bytes s → Refuses s 0 0 (verdict_of (planned_of s).number (planned_of s).place)
planned-refuses s b = given-refuses s b (given-plan s)

-- A LENT OUTPUT of 430 bytes
module _ (s out : List ℕ) where
  pub plan-refuses : Bytes s → Refuses s (length out) 430 (outcome_of s out).verdict
  plan-refuses b = given-refuses s b (given_out s out)

-- A LENT ROW of 96 records
module _ (s : List ℕ) (row : List Part) where
  pub row-refuses : Bytes s → Refuses s (length row) 96 (verdict_of (row_outcome_of s row).answer.number (row_outcome_of s row).answer.place)
  row-refuses b = given-refuses s b (given-row s row)
