-- What the parts of a replay give to a job: run time and rollback time; a job in rollback stays there; a finished job gets nothing.
use Rattle.std.specs.Prelude.{ℕ, ◌+◌, ◌<◌, ◌≤◌, ◌≡◌, refl, Bool, true, false, cond, List, [], ◌∷◌, eqb}
use Rattle.std.proofs.Common.{arith, ap, ◌∙◌}
use Rattle.job.specs.declared.Job.{Job}
use Rattle.job.specs.Times.{never}
use Rattle.job.specs.Job.{worked, left_in}
use Rattle.job.specs.Fit.{Fit}
use Rattle.job.specs.Rollback.{rolled_back-run}
use Rattle.job.specs.Part.{given-and-left, normal-adds}
use Rattle.gus.specs.declared.Part.{Part}
use Rattle.gus.specs.State.{job_at, worked_by, after}
use Rattle.invariants.specs.Sound.{Sound}
use Rattle.invariants.specs.Proper.{Proper, at_same}

-- what a part of n in a mode gives to run time and to rollback time, and what its grant adds to rollback time
abbrev pub to_run : Bool → ℕ → ℕ
to_run true n = 0
to_run false n = n

abbrev pub to_rollback : Bool → ℕ → ℕ
to_rollback true n = n
to_rollback false n = 0

abbrev pub grant_adds : Bool → Job → ℕ
grant_adds true j = 0
grant_adds false j = j.request.rollback

-- the sums over the parts of job i
unfoldable pub run_given : ℕ → List Part → ℕ
run_given i [] = 0
run_given i (p ∷ ps) = cond (eqb i p.job) (to_run p.rolling p.time) 0 + run_given i ps

unfoldable pub rollback_given : ℕ → List Part → ℕ
rollback_given i [] = 0
rollback_given i (p ∷ ps) = cond (eqb i p.job) (to_rollback p.rolling p.time) 0 + rollback_given i ps

unfoldable pub grants_add : ℕ → List Job → List Part → ℕ
grants_add i js [] = 0
grants_add i js (p ∷ ps) = cond (eqb i p.job) (grant_adds p.rolling (job_at js p.job)) 0 + grants_add i (after js p) ps

pub run-one : (b : Bool) (n : ℕ) (j : Job) → n ≤ left_in b j → to_run b n + (worked b n j).run ≡ j.run
run-one true n j l = omega (arith, rolled_back-run n j)
run-one false n j l = given-and-left false n j l

-- where rollback is possible after a part it was before
pub rollback-one : (b : Bool) (n : ℕ) {j : Job} → Fit j → n ≤ left_in b j → (b ≡ true → j.rollback < never) → (worked b n j).rollback < never → (j.rollback < never) × (to_rollback b n + (worked b n j).rollback ≡ j.rollback + grant_adds b j)
rollback-one true n {j} f l real h = (real refl, omega (arith, given-and-left true n j l))
rollback-one false n {j} f l real h = let e = normal-adds n f h in (omega arith, omega arith)

-- a field of job i after a part of job i
module _ {js : List Job} {p : Part} (s : Sound js) (g : Proper js p) (i : ℕ) (e : i ≡ p.job) where
  pub at_part : job_at (after js p) i ≡ worked_by js p
  at_part = ap (λ (k : ℕ). job_at (after js p) k) e ∙ at_same s g

-- each part of job i is in rollback
abbrev pub OnlyRollback : ℕ → List Part → Type 0
OnlyRollback i [] = Unit {0}
OnlyRollback i (p ∷ ps) = (p.job ≡ i → p.rolling ≡ true) × OnlyRollback i ps

-- each later part of a job that had a rollback part is in rollback
abbrev pub OnceRollback : List Part → Type 0
OnceRollback [] = Unit {0}
OnceRollback (p ∷ ps) = (p.rolling ≡ true → OnlyRollback p.job ps) × OnceRollback ps
