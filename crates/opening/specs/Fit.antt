-- The job of a good record is fit.
use Rattle.std.specs.Prelude.{ℕ, ◌<◌, ◌≤◌, ◌≡◌}
use Rattle.std.proofs.Common.{arith}
use Rattle.job.specs.declared.Request.{Request}
use Rattle.job.specs.Times.{in-range-below}
use Rattle.job.specs.Job.{no_request}
use Rattle.job.specs.Fit.{Ask}
use Rattle.book.specs.Read.{Record}
use Rattle.accepted.specs.Rules.{RollbackTime, some, never, rollback_some, rollback_most, NoRequest, GoodRequest, nothing, asks, GoodRecord}
use Rattle.opening.specs.Start.{job_from}

-- "1 to 30,000, or 65,535, the never mark"
rollback-real : {v : ℕ} → RollbackTime v → v < 65535 → v ≤ 30000
rollback-real (some a b) h = b
rollback-real (never e) h = absurd (omega arith)

no-request : {q : Request} → NoRequest q → q ≡ no_request
no-request n = λ i. record { resource = n.none i; hold = n.hold i; rollback = n.rollback i }

module _ {resources : ℕ} {x : Record} (few : resources ≤ 32) (g : GoodRecord resources x) where
  pub no-ask : GoodRequest resources x.run x.request → 32 ≤ x.request.resource → x.request ≡ no_request
  no-ask (nothing n) h = no-request n
  no-ask (asks a) h = absurd (omega (arith, a.below))

  pub ask : GoodRequest resources x.run x.request → x.request.resource < 32 → Ask (job_from x)
  unfolding job_from
  ask (nothing n) h = absurd (omega (arith, n.none))
  ask (asks a) h = record {
    hold_some = a.some;
    hold_most = a.most;
    rollback_some = rollback_some a.rollback;
    rollback_most = rollback_most a.rollback;
    sum_below = λ p q. in-range-below (rollback-real g.rollback p) (rollback-real a.rollback q);
  }
