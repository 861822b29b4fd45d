-- A call that writes a text: what it answers and what it leaves in the output, once both are an outcome's.
use Prim.Native.Nat.{ℕ, ◌<◌}
use native.Mathlib.Omega.{arith}
use mathlib.Core.Path.{◌≡◌, refl, ap, ◌∙◌}
use mathlib.Core.List.{List}
use mathlib.Core.Bool.{Bool, true, false}
use Rattle.std.specs.Prelude.{Result, Ok, MatchResult, ltb, length}
use Rattle.std.specs.Result.{result_unwrap_or}
use Rattle.laws.specs.Stores.{over}
use Rattle.cursor.specs.Refusal.{ROOM}
use Rattle.cursor.specs.declared.Refusal.{Refusal}
use Rattle.text.specs.Listed.{Listed, listed_told}
use Rattle.text.specs.Room.{TextOutcome, listed_as, outcome_with}

pub by-outcome : {l : Listed} {after : List ℕ} {o : TextOutcome} {r : Result ℕ Refusal} → record { listed = l; out = after } ≡ o → r ≡ listed_told l → (r ≡ listed_told o.listed) × (after ≡ o.out)
by-outcome e q = (q ∙ ap (λ (x : TextOutcome). listed_told x.listed) e, ap (λ (x : TextOutcome). x.out) e)

-- with room
pub by-length : {n : ℕ} {after : List ℕ} {o : TextOutcome} → record { listed = listed_as 0 n; out = after } ≡ o → ◌≡◌ {A = Result ℕ Refusal} (Ok n) (listed_told o.listed) × (after ≡ o.out)
unfolding listed_told
by-length e = by-outcome e refl

-- how long the text is, and 0 where nothing is written
module _ (least : ℕ) (text out : List ℕ) where
  pub length-told : result_unwrap_or (listed_told (outcome_with least text out).listed) 0 ≡ (outcome_with least text out).listed.length
  unfolding listed_told outcome_with
  length-told = by (ltb (length out) least)
    where
      by : (narrow : Bool) → let o = elim narrow as (λ _. TextOutcome) [ true ↦ record { listed = listed_as ROOM 0; out = out } | false ↦ record { listed = listed_as 0 (length text); out = over text out } ] in
          result_unwrap_or (listed_told o.listed) 0 ≡ o.listed.length
      by true = refl
      by false = refl

  -- what a call's answer means of the definition's: the text's length, or the refusal, at 0
  pub listed-means : let l = (outcome_with least text out).listed in MatchResult (listed_told l) (λ n. l ≡ listed_as 0 n) (λ d. (l ≡ listed_as d.number 0) × (d.place ≡ 0) × (0 < d.number))
  unfolding listed_told outcome_with
  listed-means = by (ltb (length out) least)
    where
      by : (narrow : Bool) → let l = (elim narrow as (λ _. TextOutcome) [ true ↦ record { listed = listed_as ROOM 0; out = out } | false ↦ record { listed = listed_as 0 (length text); out = over text out } ]).listed in
          MatchResult (listed_told l) (λ n. l ≡ listed_as 0 n) (λ d. (l ≡ listed_as d.number 0) × (d.place ≡ 0) × (0 < d.number))
      by true = (refl, refl, omega arith)
      by false = refl
