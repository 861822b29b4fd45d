-- What stays true of a job, finished or not, from an accepted book on: each change keeps it.
use Rattle.std.specs.Prelude.{ℕ, ◌+◌, ◌<◌, ◌≤◌, ◌≡◌, ◌⊎◌, true, length}
use Rattle.std.proofs.Math.Decide.{dec_lt}
use Rattle.std.proofs.Common.{arith, ap, inl, inr}
use Rattle.std.proofs.Math.ListN.{get_or-eq_default}
use Rattle.job.specs.declared.Held.{Held}
use Rattle.job.specs.declared.Job.{Job}
use Rattle.job.specs.Times.{never}
use Rattle.job.specs.Held.{free}
use Rattle.job.specs.Job.{no_request, hold_of, rollback_of}

-- of a request
pub record Ask (j : Job) : Type 0 where
  pub hold_some : 1 ≤ j.request.hold
  pub hold_most : j.request.hold ≤ j.run
  pub rollback_some : 1 ≤ j.request.rollback
  pub rollback_most : j.request.rollback ≤ never
  -- the book's ranges give it: see in-range-below
  pub sum_below : j.rollback < never → j.request.rollback < never → j.rollback + j.request.rollback < never

pub record Fit (j : Job) : Type 0 where
  pub size : length j.held ≡ 32
  pub holds : (r : ℕ) → hold_of j r ≤ j.run
  pub rollbacks : (r : ℕ) → rollback_of j r ≤ j.rollback
  pub both : (r : ℕ) → 0 < hold_of j r → 0 < rollback_of j r
  pub most : j.rollback ≤ never
  -- a held rollback is never where the job's is (and only there, by rollbacks and most)
  pub marked : j.rollback ≡ never → (r : ℕ) → 0 < hold_of j r → rollback_of j r ≡ never
  pub asks : j.request.resource < 32 → Ask j
  pub none : 32 ≤ j.request.resource → j.request ≡ no_request
  pub rolls : j.rolling ≡ true → 32 ≤ j.request.resource
  pub real : j.rolling ≡ true → j.rollback < never

module _ {j : Job} (f : Fit j) where
  -- a job holds nothing past the last resource
  pub held_below : (r : ℕ) → 0 < hold_of j r → r < 32
  held_below r h = elim (dec_lt r 32) [ yes l ↦ l | no l ↦ absurd (omega (arith, ap (λ (x : Held). x.hold) (get_or-eq_default j.held free {n = r} (omega (arith, f.size))))) ]

  -- a job that has no time left in a mode holds nothing
  pub ended-free : (j.run ≡ 0) ⊎ (j.rollback ≡ 0) → (r : ℕ) → hold_of j r ≡ 0
  ended-free (inl e) r = omega (arith, f.holds r)
  ended-free (inr e) r = elim (dec_lt 0 (hold_of j r)) [ yes h ↦ absurd (omega (arith, f.both r h, f.rollbacks r)) | no h ↦ omega arith ]
