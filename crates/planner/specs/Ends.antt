-- THE WAYS A PLAN COMES OUT, whatever the bytes, the number of rounds and the way of choosing: a refusal of the reader, a knot, an answer.
use Rattle.std.specs.Prelude.{◌≡◌, Bool, List, ℕ, ◌<◌, ◌≤◌}
use Rattle.std.proofs.Math.Path.{refl}
use Rattle.std.proofs.Math.Bool.{true, false}
use native.Mathlib.Omega.{arith}
use Rattle.std.proofs.Math.Dec.{ltb}
use Rattle.std.proofs.Common.{ltb-true, ltb-false}
use Rattle.cursor.specs.Refusal.{KNOT}
use Rattle.book.specs.Format.{book_of}
use Rattle.gus.specs.Choice.{Way}
use Rattle.gus.specs.Victims.{knot_of}
use Rattle.gus.specs.Plan.{answer_to}
use Rattle.opening.specs.Start.{jobs_from, pay_from}
use Rattle.opening.specs.Planned.{view_from}
use Rattle.planner.specs.Plans.{Planned}
use Rattle.planner.specs.Planned.{laid_plan, refused_plan, answered_to, planned_to}

-- the lowest job on a circle that nobody can leave, or nobody
abbrev pub knot_in : List ℕ → ℕ
knot_in s = knot_of (view_from (book_of s)) (book_of s).now

pub data Ends (n : ℕ) (way : Way) (s : List ℕ) : Planned → Type 0 where
  refuses : 0 < (book_of s).number → Ends n way s (refused_plan (book_of s).number (book_of s).place)
  knots : (book_of s).number ≡ 0 → knot_in s < 32 → Ends n way s (refused_plan KNOT (knot_in s))
  answers : (book_of s).number ≡ 0 → 32 ≤ knot_in s → Ends n way s (laid_plan (answer_to n way (pay_from (book_of s)) (jobs_from (book_of s)) (book_of s).now))

module _ (n : ℕ) (way : Way) (s : List ℕ) where
  accepted-ends : (book_of s).number ≡ 0 → Ends n way s (answered_to n way (pay_from (book_of s)) (jobs_from (book_of s)) (book_of s).now)
  unfolding answered_to
  accepted-ends e = by (ltb (knot_in s) 32) refl
    where
      by : (x : Bool) → ltb (knot_in s) 32 ≡ x → Ends n way s (elim x as (λ _. Planned) [ true ↦ refused_plan KNOT (knot_in s) | false ↦ laid_plan (answer_to n way (pay_from (book_of s)) (jobs_from (book_of s)) (book_of s).now) ])
      by true q = knots e (ltb-true _ _ q)
      by false q = answers e (ltb-false _ _ q)

  pub ends : Ends n way s (planned_to n way s)
  unfolding planned_to
  ends = by (ltb 0 (book_of s).number) refl
    where
      none : (book_of s).number ≤ 0 → (book_of s).number ≡ 0
      none h = omega arith

      by : (x : Bool) → ltb 0 (book_of s).number ≡ x → Ends n way s (elim x as (λ _. Planned) [ true ↦ refused_plan (book_of s).number (book_of s).place | false ↦ answered_to n way (pay_from (book_of s)) (jobs_from (book_of s)) (book_of s).now ])
      by true q = refuses (ltb-true _ _ q)
      by false q = accepted-ends (none (ltb-false _ _ q))
