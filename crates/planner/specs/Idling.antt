-- Who has nothing to run and asks for nothing stays so.
use Rattle.std.specs.Prelude.{◌≡◌, Bool, true, false, List, [], ◌∷◌, ℕ, ◌≤◌, length, set}
use Rattle.std.proofs.Common.{◌∙◌, inl, inr, arith, get_or-set_same, get_or-set_other}
use Rattle.std.proofs.Math.Decide.{ℕ_discrete}
use Rattle.std.proofs.Math.Seq.{set_out}
use Rattle.laws.specs.Search.{lt-or-le}
use Rattle.job.specs.declared.Job.{Job}
use Rattle.job.specs.Job.{granted, worked}
use Rattle.job.specs.Grant.{granted-run}
use Rattle.job.specs.Run.{ran-run}
use Rattle.job.specs.Rollback.{rolled_back-run}
use Rattle.job.specs.Part.{worked-request}
use Rattle.gus.specs.declared.Part.{Part}
use Rattle.gus.specs.State.{vacant, job_at, worked_by, after}
use Rattle.gus.specs.Victims.{sent_back, settled}
use Rattle.planner.specs.Rows.{Idle}

-- what is true of job k, and of what is put in its place, stays true of it
still : (P : Job → Type 0) (js : List Job) (i k : ℕ) (j : Job) → (k ≡ i → P j) → P (job_at js k) → P (job_at (set js i j) k)
still P js i k j new old = elim (ℕ_discrete k i) [
  | no ne ↦ rw (get_or-set_other js i k j vacant ne) old
  | yes e ↦ elim (lt-or-le i (length js)) [
    | inl l ↦ rw (e, get_or-set_same js i j vacant l) (new e)
    | inr l ↦ rw (set_out js i j l) old
  ]
]

worked-run : (b : Bool) (n : ℕ) (j : Job) → j.run ≡ 0 → (worked b n j).run ≡ 0
worked-run true n j e = rolled_back-run n j ∙ e
worked-run false n j e = omega (arith, ran-run n (granted j), granted-run j)

module _ {n : ℕ} {js : List Job} (idle : Idle n js) where
  pub idle-after : (p : Part) → Idle n (after js p)
  idle-after p = record {
    run = λ i l. still (λ j. j.run ≡ 0) js p.job i (worked_by js p) (λ e. worked-run p.rolling p.time (job_at js p.job) (idle.run p.job (omega arith))) (idle.run i l);
    request = λ i l. still (λ j. 32 ≤ j.request.resource) js p.job i (worked_by js p) (λ e. worked-request p.rolling p.time (job_at js p.job)) (idle.request i l);
  }

  idle-sent : (a : ℕ) → Idle n (set js a (sent_back (job_at js a)))
  idle-sent a = record {
    run = λ i l. still (λ j. j.run ≡ 0) js a i (sent_back (job_at js a)) (λ e. idle.run a (omega arith)) (idle.run i l);
    request = λ i l. still (λ j. 32 ≤ j.request.resource) js a i (sent_back (job_at js a)) (λ e. omega arith) (idle.request i l);
  }

pub idle-settled : {n : ℕ} {js : List Job} → Idle n js → (is : List ℕ) → Idle n (settled js is)
unfolding settled
idle-settled idle [] = idle
idle-settled idle (i ∷ is) = idle-settled (idle-sent idle i) is
