-- DEMAND 3 OF EVERY ACCEPTED BOOK without a knot: the machine starts from it with the victims in rollback, and follows the answer's parts.
use Rattle.std.proofs.Common.{inl, inr, arith}
use Prim.Native.Nat.{ℕ, ◌<◌, ◌≤◌}
use Rattle.laws.specs.Search.{lt-or-le}
use Rattle.laws.specs.Circle.{circle-in}
use Rattle.book.specs.Read.{Book}
use Rattle.accepted.specs.Good.{Good}
use Rattle.gus.specs.Choice.{Way}
use Rattle.gus.specs.Victims.{victims_of, knot_of}
use Rattle.gus.specs.Plan.{Answer, answer_by}
use Rattle.invariants.specs.Waiting.{waits-none}
use Rattle.laws.specs.Among.{Among}
use Rattle.invariants.proofs.Victims.{victims-on}
use Rattle.opening.specs.Start.{jobs_from, pay_from}
use Rattle.opening.specs.Sound.{job-past}
use Rattle.opening.proofs.Sound.{sound-from}
use Rattle.opening.specs.Planned.{view_from}

-- the answer of a book, for a way of choosing a mode
abbrev pub answer_for : Way → Book → Answer
answer_for way b = answer_by way (pay_from b) (jobs_from b) b.now

module _ {b : Book} (g : Good b) (none : 32 ≤ knot_of (view_from b) b.now) where
  -- a victim is on a circle, so it waits for a job and is one
  pub victim-below : (i : ℕ) → Among i (victims_of (view_from b) b.now) → i < b.jobs
  victim-below i h = elim (lt-or-le i b.jobs) [
    | inl l ↦ l
    | inr l ↦ absurd (omega (arith, circle-in (victims-on (view_from b) b.now none i h).0, waits-none (sound-from g) i (rw (job-past g i l) (omega arith))))
  ]
