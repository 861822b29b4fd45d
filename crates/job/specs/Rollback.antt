-- What a job has after it rolled back for n.
use Rattle.std.specs.Prelude.{ℕ, ◌-◌, ◌≡◌, true, length}
use Rattle.std.proofs.Common.{arith, le-leb}
use Rattle.std.proofs.Math.Path.{refl, ap}
use Rattle.std.proofs.Math.ListN.{length-map, get_or-map}
use Rattle.job.specs.declared.Held.{Held}
use Rattle.job.specs.declared.Job.{Job}
use Rattle.job.specs.Held.{free, after_rollback}
use Rattle.job.specs.Job.{no_request, held_at, rolled_back}

module _ (n : ℕ) (j : Job) where
  pub rolled_back-run : (rolled_back n j).run ≡ j.run
  unfolding rolled_back
  rolled_back-run = refl

  pub rolled_back-rollback : (rolled_back n j).rollback ≡ j.rollback - n
  unfolding rolled_back
  rolled_back-rollback = refl

  pub rolled_back-rolling : (rolled_back n j).rolling ≡ true
  unfolding rolled_back
  rolled_back-rolling = refl

  pub rolled_back-request : (rolled_back n j).request ≡ no_request
  unfolding rolled_back
  rolled_back-request = refl

  pub rolled_back-size : length (rolled_back n j).held ≡ length j.held
  unfolding rolled_back
  rolled_back-size = length-map j.held (after_rollback n)

  pub entry : (f : Held → ℕ) (r : ℕ) → f (held_at (rolled_back n j) r) ≡ f (after_rollback n (held_at j r))
  unfolding rolled_back
  entry f r = ap f (rw (le-leb 0 n (omega arith)) at (get_or-map (after_rollback n) j.held r free))
