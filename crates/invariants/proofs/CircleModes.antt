-- What rests on specs/CircleModes.antt.
use Rattle.std.specs.Prelude.{ℕ, ◌≡◌, false, List}
use Rattle.laws.specs.Circle.{OnCircle, circle-in}
use Rattle.job.specs.declared.Job.{Job}
use Rattle.gus.specs.State.{job_at}
use Rattle.gus.specs.Waits.{waits_for}
use Rattle.gus.specs.Victims.{settled}
use Rattle.invariants.specs.Sound.{Sound}
use Rattle.invariants.specs.CircleModes.{waiting-normal}

module _ {js : List Job} (s : Sound js) (is : List ℕ) where
  pub circle-normal : (i : ℕ) → OnCircle (waits_for (settled js is)) 32 i → (job_at (settled js is) i).rolling ≡ false
  circle-normal i c = (waiting-normal s is) i c.node (circle-in c)
