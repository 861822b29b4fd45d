-- What the code's answers to a book mean of the definitions.
use Prim.Native.Nat.{ℕ, ◌<◌}
use native.Mathlib.Omega.{arith}
use mathlib.Core.Path.{◌≡◌, refl}
use mathlib.Core.List.{List, [], ◌∷◌}
use Rattle.std.specs.Prelude.{MatchResult}
use Rattle.std.proofs.Common.{lt-ltb}
use Rattle.cursor.specs.declared.Refusal.{Refusal}
use Rattle.cursor.specs.Refusal.{KNOT}
use Rattle.gus.specs.declared.Part.{Part}
use Rattle.gus.specs.Choice.{by_density}
use Rattle.gus.specs.Plan.{Answer}
use Rattle.planner.specs.Plans.{Planned, FirstPart}
use Rattle.planner.specs.Planned.{laid_plan, refused_plan, planned_of}
use Rattle.planner.specs.First.{refused_first, first_in, first_of, refused-first, laid-first}
use Rattle.planner.specs.Ends.{knot_in, Ends, refuses, knots, answers, ends}
use Rattle.planner.specs.Told.{plan_told, first_told, planned_book, first_book}

-- a refusal with that number and place
abbrev pub Refuses : ℕ → ℕ → Refusal → Type 0
Refuses number place d = (number ≡ d.number) × (place ≡ d.place) × (0 < d.number)

abbrev pub PlanMeans : Planned → Type 0
PlanMeans p = MatchResult (plan_told p) (λ b. p ≡ planned_book b) (Refuses p.number p.place)

abbrev pub FirstMeans : FirstPart → Type 0
FirstMeans f = MatchResult (first_told f) (λ o. f ≡ first_book o) (Refuses f.number f.place)

refused-means : (number place : ℕ) → 0 < number → PlanMeans (refused_plan number place)
unfolding plan_told refused_plan
refused-means number place h = rw (lt-ltb 0 number h) (refl, refl, h)

refused-first-means : (number place : ℕ) → 0 < number → FirstMeans (refused_first number place)
unfolding first_told
refused-first-means number place h = rw (lt-ltb 0 number h) (refl, refl, h)

listed-means : (ps : List Part) → FirstMeans (first_of ps)
unfolding first_told first_of
listed-means [] = refl
listed-means (p ∷ ps) = refl

laid-means : (a : Answer) → PlanMeans (laid_plan a)
unfolding plan_told laid_plan
laid-means a = refl

module _ (s : List ℕ) where
  pub plan-means : PlanMeans (planned_of s)
  plan-means = by (planned_of s) (ends 32 by_density s)
    where
      by : (p : Planned) → Ends 32 by_density s p → PlanMeans p
      by p (refuses l) = refused-means _ _ l
      by p (knots e l) = refused-means KNOT (knot_in s) (omega arith)
      by p (answers e l) = laid-means _

  pub first-means : FirstMeans (first_in (planned_of s))
  first-means = by (planned_of s) (ends 32 by_density s)
    where
      by : (p : Planned) → Ends 32 by_density s p → FirstMeans (first_in p)
      by p (refuses l) = rw (refused-first _ _) (refused-first-means _ _ l)
      by p (knots e l) = rw (refused-first KNOT (knot_in s)) (refused-first-means KNOT (knot_in s) (omega arith))
      by p (answers e l) = rw (laid-first _) (listed-means _)
