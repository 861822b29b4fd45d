-- What rests on specs/Grant.antt.
use Rattle.std.specs.Prelude.{ℕ, ◌<◌, ◌≤◌, ◌≡◌, ◌≢◌}
use Rattle.std.proofs.Math.Decide.{dec_lt}
use Rattle.std.proofs.Common.{arith, ap, ◌∙◌}
use Rattle.job.specs.declared.Held.{Held}
use Rattle.job.specs.declared.Job.{Job}
use Rattle.job.specs.Times.{plus, or_never}
use Rattle.job.specs.Job.{held_at, hold_of, rollback_of, all_never, granted}
use Rattle.job.specs.Entry.{grant-hold, grant-held, grant-free}
use Rattle.job.specs.Grant.{entry, granted-none, granted-some}

module _ (j : Job) where
  pub hold-granted : (r : ℕ) → r ≢ j.request.resource → hold_of (granted j) r ≡ hold_of j r
  hold-granted r ne = elim (dec_lt j.request.resource 32) [
    | yes l ↦ rw ((granted-some j) l) (ap (λ (h : Held). h.hold) ((entry j) r ne) ∙ grant-hold (all_never j) j.request.rollback (held_at j r))
    | no l ↦ rw ((granted-none j) (omega arith))
  ]

  -- of a job with a request
  module _ (asks : j.request.resource < 32) where
    pub rollback-granted : (r : ℕ) → r ≢ j.request.resource → 0 < hold_of j r → rollback_of (granted j) r ≡ or_never (all_never j) (plus (rollback_of j r) j.request.rollback)
    rollback-granted r ne l = rw ((granted-some j) asks) (ap (λ (h : Held). h.rollback) ((entry j) r ne) ∙ grant-held (all_never j) j.request.rollback (held_at j r) l)

    pub rollback-granted-free : (r : ℕ) → r ≢ j.request.resource → hold_of j r ≤ 0 → rollback_of (granted j) r ≡ rollback_of j r
    rollback-granted-free r ne l = rw ((granted-some j) asks) (ap (λ (h : Held). h.rollback) ((entry j) r ne) ∙ grant-free (all_never j) j.request.rollback (held_at j r) l)
