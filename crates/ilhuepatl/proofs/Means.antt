-- What the answers of the calls mean of the definitions: on `Ok` and on `Err` the whole of what the definition has.
use Prim.Native.Nat.{ℕ, ◌<◌}
use native.Mathlib.Omega.{arith}
use mathlib.Core.Path.{◌≡◌, refl}
use mathlib.Core.Bool.{Bool, true, false}
use mathlib.Core.List.{List}
use Rattle.std.specs.Prelude.{MatchResult, ltb, length, take}
use Rattle.std.proofs.Common.{ltb-true}
use Rattle.laws.specs.Stores.{over}
use Rattle.cursor.specs.Refusal.{ROOM}
use Rattle.gus.specs.declared.Part.{Part}
use Rattle.planner.specs.Plans.{Planned}
use Rattle.planner.specs.Planned.{planned_of}
use Rattle.ilhuepatl.specs.declared.row.RowAnswer.{RowAnswer}
use Rattle.ilhuepatl.specs.Answer.{answer_bytes}
use Rattle.ilhuepatl.specs.Verdict.{Verdict, verdict_told}
use Rattle.ilhuepatl.specs.Calls.{Outcome, verdict_of, by_plan, outcome_of}
use Rattle.ilhuepatl.specs.Rows.{RowFields, row_told, RowOutcome, refused_answer, other_fields, by_plan as by_row_plan, row_outcome_of}

-- a verdict from its answer: 0 and 0, or the refusal's number, which is none of 0, and place
abbrev pub VerdictMeans : Verdict → Type 0
VerdictMeans v = MatchResult (verdict_told v) (λ _. v ≡ verdict_of 0 0) (λ d. (v ≡ verdict_of d.number d.place) × (0 < d.number))

module _ (book out : List ℕ) where
  plan-verdict : (p : Planned) → VerdictMeans (by_plan p out).verdict
  unfolding verdict_told
  plan-verdict p = by (ltb 0 p.number) refl
    where
      by : (x : Bool) → ltb 0 p.number ≡ x → VerdictMeans (elim x as (λ _. Outcome) [ true ↦ record { verdict = verdict_of p.number p.place; out = out } | false ↦ record { verdict = verdict_of 0 0; out = over (answer_bytes p) out } ]).verdict
      by true e = rw e (refl, ltb-true 0 p.number e)
      by false e = refl

  pub verdict-means : VerdictMeans (outcome_of book out).verdict
  unfolding verdict_told outcome_of
  verdict-means = by (ltb (length out) 430)
    where
      by : (x : Bool) → VerdictMeans (elim x as (λ _. Outcome) [ true ↦ record { verdict = verdict_of ROOM 0; out = out } | false ↦ by_plan (planned_of book) out ]).verdict
      by true = (refl, omega arith)
      by false = plan-verdict (planned_of book)

-- a row's fields from its answer, a refusal's too
abbrev pub row_fields : RowAnswer → RowFields
row_fields a = record { number = 0; place = 0; victims = a.victims; victimcount = a.victimcount; count = a.count; rounds = a.rounds; total = a.total; end = a.end }

abbrev pub RowMeans : RowFields → Type 0
RowMeans f = MatchResult (row_told f) (λ a. f ≡ row_fields a) (λ d. (f ≡ refused_answer d.number d.place) × (0 < d.number))

module _ (book : List ℕ) (row : List Part) where
  plan-row-means : (p : Planned) → RowMeans (by_row_plan p row).answer
  unfolding row_told
  plan-row-means p = by (ltb 0 p.number) refl
    where
      by : (x : Bool) → ltb 0 p.number ≡ x → RowMeans (elim x as (λ _. RowOutcome) [ true ↦ record { answer = refused_answer p.number p.place; row = row } | false ↦ record { answer = other_fields p; row = over (take p.count p.parts) row } ]).answer
      by true e = rw e (refl, ltb-true 0 p.number e)
      by false e = refl

  pub row-means : RowMeans (row_outcome_of book row).answer
  unfolding row_told row_outcome_of
  row-means = by (ltb (length row) 96)
    where
      by : (x : Bool) → RowMeans (elim x as (λ _. RowOutcome) [ true ↦ record { answer = refused_answer ROOM 0; row = row } | false ↦ by_row_plan (planned_of book) row ]).answer
      by true = (refl, omega arith)
      by false = plan-row-means (planned_of book)
