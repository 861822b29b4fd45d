-- Run time left only falls: a part takes of it or leaves it, and a job that is sent back keeps it.
use Rattle.std.specs.Prelude.{ℕ, ◌≤◌, Bool, true, false, List, [], ◌∷◌, length, set}
use Rattle.std.proofs.Math.Decide.{ℕ_discrete}
use Rattle.std.proofs.Common.{arith, inl, inr, get_or-set_same, get_or-set_other}
use Rattle.std.proofs.Math.Seq.{set_out}
use Rattle.laws.specs.Search.{lt-or-le}
use Rattle.job.specs.declared.Job.{Job}
use Rattle.job.specs.Job.{granted, worked}
use Rattle.job.specs.Grant.{granted-run}
use Rattle.job.specs.Run.{ran-run}
use Rattle.job.specs.Rollback.{rolled_back-run}
use Rattle.gus.specs.declared.Part.{Part}
use Rattle.gus.specs.State.{vacant, job_at, worked_by, after, after_all}
use Rattle.gus.specs.Victims.{sent_back, settled}

-- no job of js' has more run time left than the same job of js
pub record Falls (js js' : List Job) : Type 0 where
  pub run : (i : ℕ) → (job_at js' i).run ≤ (job_at js i).run

same-falls : (js : List Job) → Falls js js
same-falls js = record { run = λ i. omega arith }

falls-by : {js₁ js₂ js₃ : List Job} → Falls js₁ js₂ → Falls js₂ js₃ → Falls js₁ js₃
falls-by f g = record { run = λ i. omega (arith, f.run i, g.run i) }

set-falls : (js : List Job) (i : ℕ) (j : Job) → j.run ≤ (job_at js i).run → Falls js (set js i j)
set-falls js i j h = elim (lt-or-le i (length js)) [
  | inl l ↦ record {
    run = λ k. elim (ℕ_discrete k i) [
      | yes e ↦ rw (e, get_or-set_same js i j vacant l) h
      | no ne ↦ rw (get_or-set_other js i k j vacant ne) (omega arith)
    ];
  }
  | inr l ↦ rw (set_out js i j l) (same-falls js)
]

worked-falls : (b : Bool) (n : ℕ) (j : Job) → (worked b n j).run ≤ j.run
worked-falls true n j = omega (arith, rolled_back-run n j)
worked-falls false n j = omega (arith, ran-run n (granted j), granted-run j)

pub after-falls : (js : List Job) (p : Part) → Falls js (after js p)
after-falls js p = set-falls js p.job (worked_by js p) (worked-falls p.rolling p.time (job_at js p.job))

pub all-falls : (js : List Job) (ps : List Part) → Falls js (after_all js ps)
unfolding after_all
all-falls js [] = same-falls js
all-falls js (p ∷ ps) = falls-by (after-falls js p) (all-falls (after js p) ps)

pub settled-falls : (js : List Job) (is : List ℕ) → Falls js (settled js is)
unfolding settled
settled-falls js [] = same-falls js
settled-falls js (i ∷ is) = falls-by (set-falls js i (sent_back (job_at js i)) (omega arith)) (settled-falls (set js i (sent_back (job_at js i))) is)
