-- The two ways a book's plan comes out, whatever the bytes: a refusal in reach, or the laid plan of an accepted book without a knot.
use Rattle.std.specs.Prelude.{◌≡◌, List, ℕ, ◌<◌, ◌≤◌}
use Rattle.std.proofs.Common.{arith}
use Rattle.cursor.specs.Refusal.{KNOT}
use Rattle.book.specs.Format.{book_of}
use Rattle.accepted.specs.Reach.{refusal-near}
use Rattle.gus.specs.Choice.{by_density}
use Rattle.opening.specs.Planned.{answer_from}
use Rattle.planner.specs.Plans.{Planned}
use Rattle.planner.specs.Planned.{laid_plan, refused_plan, planned_of}
use Rattle.planner.specs.Ends.{knot_in, Ends, refuses, knots, answers, ends}

pub planned-ways : (s : List ℕ) (P : Planned → Type 0)
    → ((number place : ℕ) → 0 < number → number ≤ 10 → place ≤ 8201 → P (refused_plan number place))
    → ((book_of s).number ≡ 0 → 32 ≤ knot_in s → P (laid_plan (answer_from (book_of s))))
    → P (planned_of s)
planned-ways s P refused laid = by (planned_of s) (ends 32 by_density s)
  where
    by : (p : Planned) → Ends 32 by_density s p → P p
    by p (refuses l) = let near = refusal-near s in refused (book_of s).number (book_of s).place l (omega (arith, near.number)) near.place
    by p (knots e l) = refused KNOT (knot_in s) (omega arith) (omega arith) (omega arith)
    by p (answers e l) = laid e l
