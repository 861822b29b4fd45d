-- "It sends one job of each wait circle into rollback": what is known of the victims of jobs without a knot.
use Rattle.std.specs.Prelude.{◌≢◌, List, ℕ, ◌≤◌}
use Rattle.laws.specs.Circle.{OnCircle, Reaches}
use Rattle.job.specs.Times.{never}
use Rattle.gus.specs.View.{View}
use Rattle.gus.specs.Victims.{circle_of, victims_of, knot_of}
use Rattle.laws.specs.Among.{Among}
use Rattle.laws.specs.Rising.{Rising}
use Rattle.invariants.proofs.Victims.{victims-on, victims-each, victims-rise}

pub record OneOfEach (v : View) (victims : List ℕ) : Type 0 where
  -- each victim is on a circle, and can be rolled back
  pub on : (x : ℕ) → Among x victims → OnCircle v.waits 32 x × (v.rollback x ≢ never)
  -- each circle has one
  pub each : (i : ℕ) → OnCircle v.waits 32 i → (x : ℕ) × Among x victims × Reaches v.waits 32 i x
  -- "Victims are listed by the lowest member of their circle": so no circle has two
  pub listed : Rising (circle_of v.waits) victims

pub one-of-each : (v : View) (t : ℕ) → 32 ≤ knot_of v t → OneOfEach v (victims_of v t)
one-of-each v t none = record { on = victims-on v t none; each = victims-each v t none; listed = victims-rise v t none }
