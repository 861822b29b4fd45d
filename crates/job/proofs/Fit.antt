-- What rests on specs/Fit.antt.
use Rattle.std.specs.Prelude.{ℕ, ◌<◌, ◌≤◌, ◌≡◌, Bool}
use Rattle.std.proofs.Math.Decide.{ℕ_discrete, dec_lt}
use Rattle.std.proofs.Common.{arith, sym, ap, ◌∙◌, inl, inr}
use Rattle.job.specs.declared.Request.{Request}
use Rattle.job.specs.declared.Job.{Job}
use Rattle.job.specs.Times.{never, plus, or_never, either-or-neither, or-never-le, le-or-never, or-never-most}
use Rattle.job.specs.Job.{hold_of, rollback_of, all_never, granted, ran, rolled_back}
use Rattle.job.specs.Grant.{granted-none, granted-run, granted-rolling, granted-request, granted-size, granted-rollback, granted-adds, granted-gone, hold-granted-new, rollback-granted-new}
use Rattle.job.proofs.Grant.{hold-granted, rollback-granted, rollback-granted-free}
use Rattle.job.specs.Run.{ran-run, ran-rollback, ran-rolling, ran-request, ran-size}
use Rattle.job.proofs.Run.{hold-ran}
use Rattle.job.proofs.Run.{rollback-ran, rollback-ran-le}
use Rattle.job.specs.Rollback.{rolled_back-run, rolled_back-rollback, rolled_back-request, rolled_back-size}
use Rattle.job.proofs.Rollback.{rollback-rolled_back, hold-rolled_back-freed, hold-rolled_back-le}
use Rattle.job.specs.Fit.{Ask, Fit}

-- a job whose request is granted
module _ {j : Job} (f : Fit j) (l : j.request.resource < 32) where
  pub fit-given : Fit (granted j)
  fit-given = record {
    size = granted-size j ∙ f.size;
    holds = hs;
    rollbacks = rs;
    both = bo;
    most = omega (arith, granted-rollback j l, or-never-most (all_never j) (sum-most));
    marked = ms;
    asks = λ m. absurd (omega (arith, granted-request j));
    none = λ m. granted-gone j l;
    rolls = λ e. granted-request j;
    real = λ e. absurd (omega (arith, f.rolls (sym (granted-rolling j) ∙ e)));
  }
    where
      a : Ask j
      a = f.asks l

      sum-most : plus j.rollback j.request.rollback ≤ never
      sum-most = omega arith

      hs : (r : ℕ) → hold_of (granted j) r ≤ (granted j).run
      hs r = elim (ℕ_discrete r j.request.resource) [
        | yes e ↦ omega (arith, hold-granted-new j l f.size e, granted-run j, a.hold_most)
        | no ne ↦ omega (arith, hold-granted j r ne, granted-run j, f.holds r)
      ]

      rs : (r : ℕ) → rollback_of (granted j) r ≤ (granted j).rollback
      rs r = elim (ℕ_discrete r j.request.resource) [
        | yes e ↦ rw (rollback-granted-new j l f.size e, granted-rollback j l) (or-never-le (all_never j) (omega (arith, a.rollback_most)))
        | no ne ↦ elim (dec_lt 0 (hold_of j r)) [
          | yes h ↦ rw (rollback-granted j l r ne h, granted-rollback j l) (or-never-le (all_never j) (omega (arith, f.rollbacks r)))
          | no h ↦
              let m : plus j.rollback j.request.rollback ≤ or_never (all_never j) (plus j.rollback j.request.rollback) = le-or-never (all_never j) sum-most in
              omega (arith, rollback-granted-free j l r ne (omega arith), granted-rollback j l, f.rollbacks r, f.most)
        ]
      ]

      bo : (r : ℕ) → 0 < hold_of (granted j) r → 0 < rollback_of (granted j) r
      bo r h = elim (ℕ_discrete r j.request.resource) [
        | yes e ↦ omega (arith, rollback-granted-new j l f.size e, le-or-never (all_never j) a.rollback_most, a.rollback_some)
        | no ne ↦
            let g : 0 < hold_of j r = omega (arith, hold-granted j r ne) in
            let m : plus (rollback_of j r) j.request.rollback ≤ never = omega arith in
            omega (arith, rollback-granted j l r ne g, le-or-never (all_never j) m, f.both r g)
      ]

      ms : (granted j).rollback ≡ never → (r : ℕ) → 0 < hold_of (granted j) r → rollback_of (granted j) r ≡ never
      ms q r h = elim (either-or-neither f.most a.rollback_most) [
        | inl t ↦ elim (ℕ_discrete r j.request.resource) [
          | yes e ↦ rollback-granted-new j l f.size e ∙ ap (λ (b : Bool). or_never b j.request.rollback) t
          | no ne ↦ rollback-granted j l r ne (omega (arith, hold-granted j r ne)) ∙ ap (λ (b : Bool). or_never b (plus (rollback_of j r) j.request.rollback)) t
        ]
        | inr t ↦ absurd (omega (arith, granted-adds j l t.1 t.2 (a.sum_below t.1 t.2), a.sum_below t.1 t.2))
      ]

module _ {j : Job} (f : Fit j) where
  pub fit-granted : Fit (granted j)
  fit-granted = elim (dec_lt j.request.resource 32) [ yes l ↦ fit-given f l | no l ↦ rw (granted-none j (omega arith)) f ]

  -- a job without a request runs
  pub fit-ran : (n : ℕ) → 32 ≤ j.request.resource → Fit (ran n j)
  fit-ran n w = record {
    size = ran-size n j ∙ f.size;
    holds = λ r. omega (arith, hold-ran n j r, ran-run n j, f.holds r);
    rollbacks = λ r. omega (arith, rollback-ran-le n j r, ran-rollback n j, f.rollbacks r);
    both = λ r h. let g : n < hold_of j r = omega (arith, hold-ran n j r) in omega (arith, rollback-ran n j r g, f.both r (omega arith));
    most = omega (arith, ran-rollback n j, f.most);
    marked = λ q r h. let g : n < hold_of j r = omega (arith, hold-ran n j r) in rollback-ran n j r g ∙ f.marked (sym (ran-rollback n j) ∙ q) r (omega arith);
    asks = λ m. absurd (omega (arith, ap (λ (x : Request). x.resource) (ran-request n j)));
    none = λ m. ran-request n j ∙ f.none w;
    rolls = λ e. omega (arith, ap (λ (x : Request). x.resource) (ran-request n j));
    real = λ e. omega (arith, ran-rollback n j, f.real (sym (ran-rolling n j) ∙ e));
  }

  -- a job that is not marked never rolls back
  pub fit-rolled_back : (n : ℕ) → j.rollback < never → Fit (rolled_back n j)
  fit-rolled_back n b = record {
    size = rolled_back-size n j ∙ f.size;
    holds = λ r. omega (arith, hold-rolled_back-le n j r, rolled_back-run n j, f.holds r);
    rollbacks = λ r. omega (arith, rollback-rolled_back n j r, rolled_back-rollback n j, f.rollbacks r);
    both = λ r h. elim (dec_lt n (rollback_of j r)) [
      | yes g ↦ omega (arith, rollback-rolled_back n j r)
      | no g ↦ absurd (omega (arith, hold-rolled_back-freed n j r (omega arith)))
    ];
    most = omega (arith, rolled_back-rollback n j);
    marked = λ q r h. absurd (omega (arith, rolled_back-rollback n j));
    asks = λ m. absurd (omega (arith, gone));
    none = λ m. rolled_back-request n j;
    rolls = λ e. omega (arith, gone);
    real = λ e. omega (arith, rolled_back-rollback n j);
  }
    where
      gone : (rolled_back n j).request.resource ≡ 255
      gone = ap (λ (x : Request). x.resource) (rolled_back-request n j)
