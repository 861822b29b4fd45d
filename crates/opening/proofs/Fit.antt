-- What rests on specs/Fit.antt.
use Rattle.std.specs.Prelude.{ℕ, ◌<◌, ◌≤◌, ◌≡◌}
use Rattle.std.proofs.Common.{arith, inl, inr, eqb-true}
use Rattle.job.specs.Job.{hold_of, rollback_of}
use Rattle.job.specs.Fit.{Fit}
use Rattle.book.specs.Read.{Record}
use Rattle.accepted.specs.Rules.{rollback_most, GoodRecord}
use Rattle.opening.specs.Start.{job_from}
use Rattle.opening.specs.Held.{entry_at, Apart, named-or-free, held-size}
use Rattle.opening.proofs.HeldTheorems.{hold-entry, rollback-entry, hold-none, rollback-none}
use Rattle.opening.specs.Fit.{ask, no-ask}

module _ {resources : ℕ} {x : Record} (few : resources ≤ 32) (g : GoodRecord resources x) where
  module _ (a : Apart x) where
    -- what is true of the hold and the rollback of each entry, and of a free resource, is true of every resource
    each-held : (P : ℕ → ℕ → Type 0) → P 0 0 → ((k : ℕ) → k < x.holds → P (entry_at x k).hold (entry_at x k).rollback) → (r : ℕ) → P (hold_of (job_from x) r) (rollback_of (job_from x) r)
    each-held P none each r = elim (named-or-free x r) [
      | inl z ↦
          let l : z.0 < x.holds = z.1.among in
          rw (← z.1.is, hold-entry x a z.0 l, rollback-entry x a z.0 l) (each z.0 l)
      | inr n ↦ rw (hold-none x a r n, rollback-none x a r n) none
    ]

    pub fit-from : Fit (job_from x)
    unfolding job_from
    fit-from = record {
      size = held-size x;
      holds = each-held (λ h b. h ≤ x.run) (omega arith) (λ k l. (g.entry k l).most);
      rollbacks = each-held (λ h b. b ≤ x.rollback) (omega arith) (λ k l. (g.entry k l).back_most);
      both = each-held (λ h b. 0 < h → 0 < b) (λ h. h) (λ k l h. (g.entry k l).back_some);
      most = rollback_most g.rollback;
      marked = λ e. each-held (λ h b. 0 < h → b ≡ 65535) (λ h. absurd (omega arith)) (λ k l h. (g.entry k l).back_never e);
      asks = (ask few g) g.request;
      none = (no-ask few g) g.request;
      rolls = λ e. omega (arith, (g.rolling_request (eqb-true x.mode 1 e)).none);
      real = λ e. omega (arith, rollback_most g.rollback, g.rolling_rollback (eqb-true x.mode 1 e));
    }
