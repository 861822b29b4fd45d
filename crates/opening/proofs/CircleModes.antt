-- What rests on specs/CircleModes.antt.
use Rattle.std.specs.Prelude.{ℕ, ◌≡◌, false}
use mathlib.Core.List.{List, []}
use Rattle.laws.specs.Circle.{OnCircle}
use Rattle.book.specs.Format.{book_of}
use Rattle.gus.specs.State.{job_at}
use Rattle.gus.specs.Waits.{waits_for}
use Rattle.gus.specs.Victims.{victims_of, knot_of, settled}
use Rattle.invariants.specs.Sound.{Sound}
use Rattle.invariants.proofs.CircleModes.{circle-normal}
use Rattle.invariants.specs.Loss.{view_by_mode, LossesAgree, victims-by-mode, knot-by-mode}
use Rattle.invariants.proofs.Loss.{losses-agree}
use Rattle.opening.specs.Start.{jobs_from, pay_from}
use Rattle.opening.specs.Planned.{view_from}
use Rattle.opening.proofs.Opened.{accepted-opened}
use Rattle.opening.specs.CircleModes.{after_victims, first_victims}

module _ (s : List ℕ) (accepted : (book_of s).number ≡ 0) where
  sound : Sound (jobs_from (book_of s))
  sound = (accepted-opened s accepted).sound

  pub none_in_rollback : (i : ℕ) → OnCircle (waits_for (jobs_from (book_of s))) 32 i → (job_at (jobs_from (book_of s)) i).rolling ≡ false
  unfolding settled
  none_in_rollback = circle-normal sound []

  pub none-in-rollback-after : (n i : ℕ) → OnCircle (waits_for (after_victims n (book_of s))) 32 i → (job_at (after_victims n (book_of s)) i).rolling ≡ false
  none-in-rollback-after n = circle-normal sound (first_victims n (book_of s))

  pub losses-unchanged : LossesAgree (pay_from (book_of s)) (jobs_from (book_of s))
  unfolding settled
  losses-unchanged = losses-agree sound [] (pay_from (book_of s))

  pub losses-unchanged-after : (n : ℕ) → LossesAgree (pay_from (book_of s)) (after_victims n (book_of s))
  losses-unchanged-after n = losses-agree sound (first_victims n (book_of s)) (pay_from (book_of s))

  pub victims-unchanged : victims_of (view_by_mode (view_from (book_of s))) (book_of s).now ≡ victims_of (view_from (book_of s)) (book_of s).now
  victims-unchanged = victims-by-mode losses-unchanged (book_of s).now

  pub knot-unchanged : knot_of (view_by_mode (view_from (book_of s))) (book_of s).now ≡ knot_of (view_from (book_of s)) (book_of s).now
  knot-unchanged = knot-by-mode losses-unchanged (book_of s).now
