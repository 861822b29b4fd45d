-- What rests on specs/Part.antt.
use Rattle.std.specs.Prelude.{ℕ, ◌<◌, ◌≡◌, refl, ◌≢◌, ◌⊎◌, Bool, true, false}
use Rattle.std.proofs.Math.Decide.{ℕ_discrete, dec_lt}
use Rattle.std.proofs.Common.{arith, ap, inl, inr}
use Rattle.job.specs.declared.Job.{Job}
use Rattle.job.specs.Times.{never}
use Rattle.job.specs.Job.{hold_of, rollback_of, granted, worked, left_in, span_in}
use Rattle.job.specs.Grant.{granted-none, granted-run, granted-request}
use Rattle.job.proofs.Grant.{hold-granted}
use Rattle.job.specs.Run.{ran-run}
use Rattle.job.proofs.Run.{hold-ran}
use Rattle.job.specs.Rollback.{rolled_back-rollback}
use Rattle.job.proofs.Rollback.{hold-rolled_back-freed, hold-rolled_back-le}
use Rattle.job.specs.Fit.{Fit, ended-free}
use Rattle.job.proofs.Fit.{fit-granted, fit-ran, fit-rolled_back}

-- A part keeps its job fit; a job marked never gets no rollback part.
pub fit-worked : (b : Bool) (n : ℕ) {j : Job} → Fit j → (b ≡ true → j.rollback < never) → Fit (worked b n j)
fit-worked true n f h = fit-rolled_back f n (h refl)
fit-worked false n {j} f h = fit-ran (fit-granted f) n (granted-request j)

-- A part that takes all that is left leaves nothing held.
pub worked-all : (b : Bool) {j : Job} → Fit j → (b ≡ true → j.rollback < never) → (r : ℕ) → hold_of (worked b (left_in b j) j) r ≡ 0
worked-all true {j} f h r = ended-free (fit-worked true j.rollback f h) (inr (omega (arith, rolled_back-rollback j.rollback j))) r
worked-all false {j} f h r = ended-free (fit-worked false j.run f h) (inl (omega (arith, ran-run j.run (granted j), granted-run j))) r

-- A part as long as its job has a resource in the part's mode frees that resource.
pub worked-span : (b : Bool) (j : Job) (r : ℕ) → r ≢ j.request.resource → hold_of (worked b (span_in b j r) j) r ≡ 0
worked-span true j r ne = hold-rolled_back-freed (rollback_of j r) j r (omega arith)
worked-span false j r ne = omega (arith, hold-ran (hold_of j r) (granted j) r, hold-granted j r ne)

-- After a part its job holds nothing but what it held and, if the part is normal, what it asked for.
pub worked-new : (b : Bool) (n : ℕ) (j : Job) (r : ℕ) → 0 < hold_of (worked b n j) r → (0 < hold_of j r) ⊎ ((b ≡ false) × (j.request.resource < 32) × (r ≡ j.request.resource))
worked-new true n j r h = inl (omega (arith, hold-rolled_back-le n j r))
worked-new false n j r h = elim (ℕ_discrete r j.request.resource) [
  | yes e ↦ elim (dec_lt j.request.resource 32) [
    | yes l ↦ inr (refl, l, e)
    | no l ↦ inl (omega (arith, hold-ran n (granted j) r, ap (λ (x : Job). hold_of x r) (granted-none j (omega arith))))
  ]
  | no ne ↦ inl (omega (arith, hold-ran n (granted j) r, hold-granted j r ne))
]
