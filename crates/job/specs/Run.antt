-- What a job has after it ran for n.
use Rattle.std.specs.Prelude.{ℕ, ◌-◌, ◌≡◌, length}
use Rattle.std.proofs.Common.{arith, le-leb}
use Rattle.std.proofs.Math.Path.{refl, ap}
use Rattle.std.proofs.Math.ListN.{length-map, get_or-map}
use Rattle.job.specs.declared.Held.{Held}
use Rattle.job.specs.declared.Job.{Job}
use Rattle.job.specs.Held.{free, after_run}
use Rattle.job.specs.Job.{held_at, ran}

module _ (n : ℕ) (j : Job) where
  pub ran-run : (ran n j).run ≡ j.run - n
  unfolding ran
  ran-run = refl

  pub ran-rollback : (ran n j).rollback ≡ j.rollback
  unfolding ran
  ran-rollback = refl

  pub ran-rolling : (ran n j).rolling ≡ j.rolling
  unfolding ran
  ran-rolling = refl

  pub ran-request : (ran n j).request ≡ j.request
  unfolding ran
  ran-request = refl

  pub ran-size : length (ran n j).held ≡ length j.held
  unfolding ran
  ran-size = length-map j.held (after_run n)

  pub entry : (f : Held → ℕ) (r : ℕ) → f (held_at (ran n j) r) ≡ f (after_run n (held_at j r))
  unfolding ran
  entry f r = ap f (rw (le-leb 0 n (omega arith)) at (get_or-map (after_run n) j.held r free))
