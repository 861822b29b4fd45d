-- R-8, "No answer changes": for every string of bytes the plan with victims sought by 01's own loss is the plan.
use Rattle.std.specs.Prelude.{◌≡◌, refl, Bool, true, false, List, ℕ, ltb}
use Rattle.std.proofs.Common.{arith, ltb-false}
use Rattle.cursor.specs.Refusal.{KNOT}
use Rattle.book.specs.Format.{book_of}
use Rattle.gus.specs.Choice.{Way}
use Rattle.gus.specs.Victims.{victims_of, knot_of}
use Rattle.gus.specs.Plan.{answer_after, answer_to}
use Rattle.invariants.specs.Loss.{view_by_mode}
use Rattle.opening.specs.Start.{jobs_from, pay_from}
use Rattle.opening.specs.Planned.{view_from}
use Rattle.opening.proofs.CircleModes.{victims-unchanged, knot-unchanged}
use Rattle.planner.specs.Plans.{Planned}
use Rattle.planner.specs.Planned.{laid_plan, refused_plan, answered_to, planned_to}

-- `planned_to`, if the knot and the victims were these
abbrev planned_by : ℕ → Way → List ℕ → ℕ → List ℕ → Planned
planned_by n way s knot victims =
    let b = book_of s in
    elim (ltb 0 b.number) [
      | true ↦ refused_plan b.number b.place
      | false ↦ elim (ltb knot 32) [ true ↦ refused_plan KNOT knot | false ↦ laid_plan (answer_after n way (pay_from b) (jobs_from b) b.now victims) ]
    ]

-- and where they are sought by 01's loss
abbrev pub planned_by_mode : ℕ → Way → List ℕ → Planned
planned_by_mode n way s =
    let b = book_of s in
    let v = view_by_mode (view_from b) in
    planned_by n way s (knot_of v b.now) (victims_of v b.now)

pub plan-unchanged : (n : ℕ) (way : Way) (s : List ℕ) → planned_by_mode n way s ≡ planned_to n way s
unfolding planned_to answered_to answer_to
plan-unchanged n way s = go (ltb 0 (book_of s).number) refl
  where
    go : (x : Bool) → ltb 0 (book_of s).number ≡ x → planned_by_mode n way s ≡ planned_by n way s (knot_of (view_from (book_of s)) (book_of s).now) (victims_of (view_from (book_of s)) (book_of s).now)
    go true e = rw (e, planned_by)
    go false e = let accepted : (book_of s).number ≡ 0 = omega (arith, ltb-false 0 (book_of s).number e) in λ k. planned_by n way s (knot-unchanged s accepted k) (victims-unchanged s accepted k)
