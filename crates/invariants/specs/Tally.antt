-- A number of each job, summed over the jobs; and how one part changes the sum.
use Prim.Native.Nat.{ℕ, zero, suc, ◌+◌, ◌*◌, ◌<◌, ◌≤◌}
use Rattle.std.proofs.Common.{not-suc-le-zero, ap, ◌∙◌}
use Rattle.std.proofs.Math.Nat.{suc-mul}
use native.Mathlib.Omega.{arith}
use Rattle.std.specs.Prelude.{◌≡◌, Bool, true, false, length, set}
use mathlib.Core.List.{List, [], ◌∷◌}
use Rattle.job.specs.declared.Job.{Job}
use Rattle.gus.specs.declared.Part.{Part}
use Rattle.gus.specs.State.{vacant, job_at, worked_by, after}
use Rattle.invariants.specs.Vacant.{vacant-past}
use Rattle.invariants.specs.Sound.{Sound}
use Rattle.invariants.specs.Proper.{Proper}

-- 1 where it is so
abbrev pub bit : Bool → ℕ
bit true = 1
bit false = 0

pub bit-most : (b : Bool) → bit b ≤ 1
bit-most true = omega arith
bit-most false = omega arith

unfoldable pub tally : (Job → ℕ) → List Job → ℕ
tally f [] = 0
tally f (j ∷ js) = f j + tally f js

module _ (f : Job → ℕ) where
  tally-set : (js : List Job) (i : ℕ) (x : Job) → i < length js → tally f (set js i x) + f (job_at js i) ≡ tally f js + f x
  unfolding tally
  tally-set [] i x h = absurd (not-suc-le-zero h)
  tally-set (j ∷ js) zero x h = omega arith
  tally-set (j ∷ js) (suc i) x h = omega (arith, tally-set js i x (omega arith))

  pub tally-after : {js : List Job} {p : Part} → Sound js → Proper js p → tally f (after js p) + f (job_at js p.job) ≡ tally f js + f (worked_by js p)
  tally-after {js} {p} s g = tally-set js p.job (worked_by js p) (omega (arith, s.size, g.alive.there))

  -- one job's number is at most the sum
  pub tally-one : (js : List Job) (i : ℕ) → i < length js → f (job_at js i) ≤ tally f js
  unfolding tally
  tally-one [] i h = absurd (not-suc-le-zero h)
  tally-one (j ∷ js) zero h = omega arith
  tally-one (j ∷ js) (suc i) h = omega (arith, tally-one js i (omega arith))

  -- where there are jobs below n alone
  pub tally-first : (n m : ℕ) (js : List Job) → ((i : ℕ) → n ≤ i → f (job_at js i) ≡ 0) → ((i : ℕ) → f (job_at js i) ≤ m) → tally f js ≤ n * m
  unfolding tally
  tally-first n m [] past h = omega arith
  tally-first zero m (j ∷ js) past h = omega (arith, past 0 (omega arith), tally-first zero m js (λ i l. past (suc i) (omega arith)) (λ i. h (suc i)))
  tally-first (suc n) m (j ∷ js) past h = rw suc-mul (omega (arith, h 0, tally-first n m js (λ i l. past (suc i) (omega arith)) (λ i. h (suc i))))

  pub tally-most : (m : ℕ) {js : List Job} → Sound js → f vacant ≡ 0 → ((i : ℕ) → f (job_at js i) ≤ m) → tally f js ≤ 32 * m
  tally-most m {js} s none h = tally-first 32 m js (λ i l. ap f (vacant-past js s.size i l) ∙ none) h
