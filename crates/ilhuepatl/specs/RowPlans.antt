-- What is settled before a lent row is touched: the answer's fields, and the parts that go into the row. They fit it, and the row filled with them is the call's outcome.
use Rattle.std.specs.Prelude.{◌≡◌, refl, Bool, true, false, cond, List, ℕ, ◌<◌, ◌≤◌, ltb, length, take, replicate}
use Rattle.std.proofs.Common.{sym, subst, ◌∙◌, arith, lt-ltb, le-ltb, ltb-false}
use Rattle.std.proofs.Math.Path.{ap}
use Rattle.cursor.specs.Refusal.{ROOM}
use Rattle.gus.specs.declared.Part.{Part}
use Rattle.planner.specs.Plans.{Planned}
use Rattle.planner.specs.LaidOut.{empty_part}
use Rattle.planner.specs.Planned.{planned_of}
use Rattle.planner.specs.Counted.{counted}
use Rattle.laws.specs.Stores.{over}
use Rattle.ilhuepatl.specs.Rows.{RowFields, RowOutcome, refused_answer, other_fields, by_plan, row_outcome_of}

-- the answer's fields, and what goes into the row: parts 0 .. filled
pub record RowPlan : Type 0 where
  pub answer : RowFields
  pub parts : List Part
  pub filled : ℕ

-- a refusal puts no part into the row
abbrev pub refused_row : ℕ → ℕ → RowPlan
refused_row number place = record { answer = refused_answer number place; parts = replicate 96 empty_part; filled = 0 }

abbrev pub planned_row : Planned → RowPlan
planned_row p = record { answer = other_fields p; parts = p.parts; filled = p.count }

abbrev pub settled_by : Planned → RowPlan
settled_by p = cond (ltb 0 p.number) (refused_row p.number p.place) (planned_row p)

unfoldable pub row_plan_of : List ℕ → ℕ → RowPlan
row_plan_of book room = cond (ltb room 96) (refused_row ROOM 0) (settled_by (planned_of book))

-- the three ways to it: no room, a refusal, an answer
module _ (book : List ℕ) {room : ℕ} {f : RowPlan} where
  pub no_room : room < 96 → f ≡ refused_row ROOM 0 → f ≡ row_plan_of book room
  unfolding row_plan_of
  no_room h e = simp (lt-ltb room 96 h) e

  module _ (h : 96 ≤ room) {p : Planned} (planned : p ≡ planned_of book) where
    with-room : f ≡ settled_by p → f ≡ row_plan_of book room
    unfolding row_plan_of
    with-room e = simp (le-ltb room 96 h) (e ∙ ap settled_by planned)

    pub refused : 0 < p.number → f ≡ refused_row p.number p.place → f ≡ row_plan_of book room
    refused l e = with-room (simp (lt-ltb 0 p.number l) e)

    pub answered : p.number ≤ 0 → f ≡ planned_row p → f ≡ row_plan_of book room
    answered l e = with-room (simp (le-ltb 0 p.number l) e)

-- no more parts than an answer has, nor than the row has places
abbrev Fits : ℕ → RowPlan → Type 0
Fits room f = (f.filled ≤ 96) × (f.filled ≤ room)

fits : (book : List ℕ) (room : ℕ) → Fits room (row_plan_of book room)
unfolding row_plan_of
fits book room = by (ltb room 96) refl
  where
    few : (p : Planned) → p.count ≤ 96 → (settled_by p).filled ≤ 96
    few p h = by (ltb 0 p.number)
      where
        by : (b : Bool) → (cond b (refused_row p.number p.place) (planned_row p)).filled ≤ 96
        by true = omega arith
        by false = h

    by : (b : Bool) → ltb room 96 ≡ b → Fits room (cond b (refused_row ROOM 0) (settled_by (planned_of book)))
    by true q = (omega arith, omega arith)
    by false q = let h = few (planned_of book) (counted book).parts in (h, omega (arith, h, ltb-false room 96 q))

pub fitting : (book : List ℕ) {room : ℕ} {f : RowPlan} → f ≡ row_plan_of book room → (f ≡ row_plan_of book room) × Fits room f
fitting book {room} e = (e, subst (Fits room) (sym e) (fits book room))

abbrev pub filled_by : RowPlan → List Part → RowOutcome
filled_by f row = record { answer = f.answer; row = over (take f.filled f.parts) row }

pub filled_is : (book : List ℕ) (row : List Part) → filled_by (row_plan_of book (length row)) row ≡ row_outcome_of book row
unfolding row_plan_of row_outcome_of over
filled_is book row = by (ltb (length row) 96)
  where
    settled : (p : Planned) → filled_by (settled_by p) row ≡ by_plan p row
    settled p = by (ltb 0 p.number)
      where
        by : (b : Bool) → filled_by (cond b (refused_row p.number p.place) (planned_row p)) row
            ≡ (elim b as (λ _. RowOutcome) [ true ↦ record { answer = refused_answer p.number p.place; row = row } | false ↦ filled_by (planned_row p) row ])
        by true = refl
        by false = refl

    by : (b : Bool) → filled_by (cond b (refused_row ROOM 0) (settled_by (planned_of book))) row
        ≡ (elim b as (λ _. RowOutcome) [ true ↦ record { answer = refused_answer ROOM 0; row = row } | false ↦ by_plan (planned_of book) row ])
    by true = refl
    by false = settled (planned_of book)
