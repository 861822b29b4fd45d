-- What rests on specs/Run.antt.
use Rattle.std.specs.Prelude.{ℕ, ◌-◌, ◌≡◌, ◌<◌, ◌≤◌}
use Rattle.std.proofs.Common.{◌∙◌}
use Rattle.std.proofs.Math.Path.{refl}
use Rattle.job.specs.declared.Job.{Job}
use Rattle.job.specs.Job.{hold_of, ran, rollback_of}
use Rattle.job.specs.Entry.{taken, kept, no_more}
use Rattle.job.specs.Run.{entry}

module _ (n : ℕ) (j : Job) where
  pub hold-ran : (r : ℕ) → hold_of (ran n j) r ≡ hold_of j r - n
  hold-ran r = (entry n j) (λ h. h.hold) r ∙ taken (λ h. h.hold) refl (hold_of j r) n _ refl

module _ (n : ℕ) (j : Job) where
  pub rollback-ran : (r : ℕ) → n < hold_of j r → rollback_of (ran n j) r ≡ rollback_of j r
  rollback-ran r l = (entry n j) (λ h. h.rollback) r ∙ kept (λ h. h.rollback) refl (hold_of j r) n _ l

  pub rollback-ran-le : (r : ℕ) → rollback_of (ran n j) r ≤ rollback_of j r
  rollback-ran-le r = rw ((entry n j) (λ h. h.rollback) r) (no_more (λ h. h.rollback) refl (hold_of j r) n _)
