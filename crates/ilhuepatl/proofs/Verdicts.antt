-- The verdicts of the calls as the code answers them.
use Prim.Native.Nat.{ℕ, ◌<◌}
use mathlib.Core.Path.{◌≡◌, refl, ap, ◌∙◌}
use mathlib.Core.Bool.{Bool, true, false}
use mathlib.Core.List.{List}
use Rattle.std.specs.Prelude.{Result, MatchResult, ltb, length}
use Rattle.std.proofs.Common.{lt-ltb}
use Rattle.laws.specs.Stores.{over}
use Rattle.cursor.specs.declared.Refusal.{Refusal}
use Rattle.cursor.specs.Refusal.{ROOM}
use Rattle.cursor.specs.Answer.{refuse}
use Rattle.planner.specs.Plans.{Planned}
use Rattle.planner.specs.Planned.{planned_of}
use Rattle.ilhuepatl.specs.Verdict.{Verdict, verdict_told}
use Rattle.ilhuepatl.specs.Answer.{answer_bytes}
use Rattle.ilhuepatl.specs.Calls.{Outcome, verdict_of, by_plan, outcome_of, word}

-- a call's answer and what it leaves in the output, once both are an outcome's
pub by-outcome : {v : Verdict} {out' : List ℕ} {o : Outcome} {r : Result (Unit {0}) Refusal} → record { verdict = v; out = out' } ≡ o → r ≡ verdict_told v → (r ≡ verdict_told o.verdict) × (out' ≡ o.out)
by-outcome e q = (q ∙ ap (λ (x : Outcome). verdict_told x.verdict) e, ap (λ (x : Outcome). x.out) e)

pub told-refused : (number place : ℕ) → 0 < number → refuse number place ≡ verdict_told (verdict_of number place)
unfolding verdict_told
told-refused number place h = rw (lt-ltb 0 number h) refl

-- the one number that C gets
abbrev WordMeans : Verdict → Type 0
WordMeans v = MatchResult (verdict_told v) (λ _. 0 ≡ word v) (λ d. word (verdict_of d.number d.place) ≡ word v)

module _ (book out : List ℕ) where
  plan-means : (p : Planned) → WordMeans (by_plan p out).verdict
  unfolding verdict_told word
  plan-means p = by (ltb 0 p.number) refl
    where
      by : (x : Bool) → ltb 0 p.number ≡ x → WordMeans (elim x as (λ _. Outcome) [ true ↦ record { verdict = verdict_of p.number p.place; out = out } | false ↦ record { verdict = verdict_of 0 0; out = over (answer_bytes p) out } ]).verdict
      by true e = rw e refl
      by false e = refl

  pub word-means : WordMeans (outcome_of book out).verdict
  unfolding verdict_told outcome_of word
  word-means = by (ltb (length out) 430)
    where
      by : (x : Bool) → WordMeans (elim x as (λ _. Outcome) [ true ↦ record { verdict = verdict_of ROOM 0; out = out } | false ↦ by_plan (planned_of book) out ]).verdict
      by true = refl
      by false = plan-means (planned_of book)
