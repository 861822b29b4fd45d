-- What rests on specs/Rollback.antt.
use Rattle.std.specs.Prelude.{ℕ, ◌-◌, ◌<◌, ◌≤◌, ◌≡◌}
use Rattle.std.proofs.Common.{◌∙◌}
use Rattle.std.proofs.Math.Path.{refl}
use Rattle.job.specs.declared.Job.{Job}
use Rattle.job.specs.Job.{hold_of, rollback_of, rolled_back}
use Rattle.job.specs.Entry.{kept, freed, no_more, taken}
use Rattle.job.specs.Rollback.{entry}

module _ (n : ℕ) (j : Job) where
  pub rollback-rolled_back : (r : ℕ) → rollback_of (rolled_back n j) r ≡ rollback_of j r - n
  rollback-rolled_back r = (entry n j) (λ h. h.rollback) r ∙ taken (λ h. h.rollback) refl (rollback_of j r) n _ refl

  pub hold-rolled_back : (r : ℕ) → n < rollback_of j r → hold_of (rolled_back n j) r ≡ hold_of j r
  hold-rolled_back r l = (entry n j) (λ h. h.hold) r ∙ kept (λ h. h.hold) refl (rollback_of j r) n _ l

  pub hold-rolled_back-freed : (r : ℕ) → rollback_of j r ≤ n → hold_of (rolled_back n j) r ≡ 0
  hold-rolled_back-freed r l = (entry n j) (λ h. h.hold) r ∙ freed (λ h. h.hold) refl (rollback_of j r) n _ l

  pub hold-rolled_back-le : (r : ℕ) → hold_of (rolled_back n j) r ≤ hold_of j r
  hold-rolled_back-le r = rw ((entry n j) (λ h. h.hold) r) (no_more (λ h. h.hold) refl (rollback_of j r) n _)
