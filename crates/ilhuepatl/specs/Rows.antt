-- What the call with a lent row answers, its fields by value and the row together (01, "The answer", "What a refusal says").
use Rattle.std.specs.Prelude.{true, false, cond, List, ℕ, ℤ, Result, Ok, ltb, pos, length, take, replicate}
use Rattle.cursor.specs.Refusal.{ROOM}
use Rattle.gus.specs.declared.Part.{Part}
use Rattle.planner.specs.Plans.{Planned}
use Rattle.planner.specs.Planned.{planned_of}
use Rattle.cursor.specs.declared.Refusal.{Refusal}
use Rattle.cursor.specs.Answer.{refuse}
use Rattle.ilhuepatl.specs.declared.row.RowAnswer.{RowAnswer}
use Rattle.laws.specs.Stores.{over}

-- number: 0, or the refusal's, and then place is its place and the rest is empty
pub record RowFields : Type 0 where
  pub number : ℕ
  pub place : ℕ
  pub victims : List ℕ
  pub victimcount : ℕ
  pub count : ℕ
  pub rounds : ℕ
  pub total : ℤ
  pub end : ℕ

-- the same as the code answers it
unfoldable pub row_told : RowFields → Result RowAnswer Refusal
row_told f = cond (ltb 0 f.number) (refuse f.number f.place) (Ok (record { victims = f.victims; victimcount = f.victimcount; count = f.count; rounds = f.rounds; total = f.total; end = f.end }))

pub record RowOutcome : Type 0 where
  pub answer : RowFields
  pub row : List Part

-- a refusal has its number and its place, and the rest is empty
abbrev pub refused_answer : ℕ → ℕ → RowFields
refused_answer number place = record { number = number; place = place; victims = replicate 32 0; victimcount = 0; count = 0; rounds = 0; total = pos 0; end = 0 }

-- "returns the other fields by value"
abbrev pub other_fields : Planned → RowFields
other_fields p = record { number = 0; place = 0; victims = p.victims; victimcount = p.victimcount; count = p.count; rounds = p.rounds; total = p.total; end = p.end }

-- a refusal writes nothing; "records after the last part keep theirs"
abbrev pub by_plan : Planned → List Part → RowOutcome
by_plan p row =
    elim (ltb 0 p.number) [
      | true ↦ record { answer = refused_answer p.number p.place; row = row }
      | false ↦ record { answer = other_fields p; row = over (take p.count p.parts) row }
    ]

-- ROOM: "lent row under 96 records", before all else
unfoldable pub row_outcome_of : List ℕ → List Part → RowOutcome
row_outcome_of book row =
    elim (ltb (length row) 96) [
      | true ↦ record { answer = refused_answer ROOM 0; row = row }
      | false ↦ by_plan (planned_of book) row
    ]
