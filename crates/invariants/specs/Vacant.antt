-- A place without a job is fit and holds nothing; past the 32 places there are no jobs.
use Rattle.std.specs.Prelude.{ℕ, zero, suc, ◌≤◌, ◌≡◌, refl, List, length, get_or, replicate}
use Rattle.std.proofs.Common.{arith, ap}
use Rattle.std.proofs.lemmas.Bool.{false≢true}
use Rattle.std.proofs.lemmas.List.{length-replicate}
use Rattle.std.proofs.Math.ListN.{get_or-eq_default}
use Rattle.job.specs.declared.Held.{Held}
use Rattle.job.specs.declared.Job.{Job}
use Rattle.job.specs.Held.{free}
use Rattle.job.specs.Job.{held_at, hold_of}
use Rattle.job.specs.Fit.{Fit}
use Rattle.gus.specs.State.{vacant, job_at}

all-free : (n r : ℕ) → get_or (replicate n free) r free ≡ free
all-free zero r = refl
all-free (suc n) zero = refl
all-free (suc n) (suc r) = all-free n r

pub vacant-free : (r : ℕ) → held_at vacant r ≡ free
vacant-free r = all-free 32 r

pub vacant-holds : (r : ℕ) → hold_of vacant r ≡ 0
vacant-holds r = ap (λ (h : Held). h.hold) (vacant-free r)

pub vacant-fit : Fit vacant
vacant-fit = record {
  size = length-replicate 32 free;
  holds = λ r. omega (arith, vacant-holds r);
  rollbacks = λ r. omega (arith, ap (λ (h : Held). h.rollback) (vacant-free r));
  both = λ r h. absurd (omega (arith, vacant-holds r));
  most = omega arith;
  marked = λ e. absurd (omega arith);
  asks = λ l. absurd (omega arith);
  none = λ l. refl;
  rolls = λ e. absurd (false≢true e);
  real = λ e. absurd (false≢true e);
}

-- there is no job past the 32 places
pub vacant-past : (js : List Job) → length js ≡ 32 → (i : ℕ) → 32 ≤ i → job_at js i ≡ vacant
vacant-past js z i l = get_or-eq_default js vacant {n = i} (omega arith)
