-- What rests on specs/Given.antt.
use Rattle.std.specs.Prelude.{ℕ, ◌+◌, ◌<◌, ◌≡◌, Bool, true, false, List}
use Rattle.std.proofs.Math.Decide.{ℕ_discrete}
use Rattle.std.proofs.Common.{arith, ap, ◌∙◌, eq-eqb, ne_eqb}
use Rattle.std.proofs.lemmas.Bool.{false≢true}
use Rattle.job.specs.declared.Job.{Job}
use Rattle.job.specs.Times.{never}
use Rattle.job.specs.Job.{worked}
use Rattle.job.specs.Rollback.{rolled_back-rolling}
use Rattle.job.specs.Part.{rolling-stays}
use Rattle.gus.specs.declared.Part.{Part}
use Rattle.gus.specs.State.{job_at, after_all}
use Rattle.invariants.specs.Sound.{Sound}
use Rattle.invariants.specs.Proper.{at_same, at_other, sound-after}
use Rattle.invariants.specs.Replay.{Replay, over, then}
use Rattle.invariants.specs.Given.{OnceRollback, OnlyRollback, at_part, grants_add, rollback-one, rollback_given, run-one, run_given}

-- RUN TIME given and run time left are what the job began with.
pub run_kept : {js : List Job} {ps : List Part} (i : ℕ) → Sound js → Replay js ps → run_given i ps + (job_at (after_all js ps) i).run ≡ (job_at js i).run
unfolding run_given after_all
run_kept i s over = omega arith
run_kept {js} i s (then {p = p} {ps = ps} g r) = elim (ℕ_discrete i p.job) [
  | yes e ↦ rw (eq-eqb i p.job e) (omega (arith, run_kept i (sound-after s g) r, ap (λ (j : Job). j.run) (at_part s g i e), ap (λ (k : ℕ). (job_at js k).run) e, run-one p.rolling p.time (job_at js p.job) g.left))
  | no ne ↦ rw (ne_eqb i p.job ne) (omega (arith, run_kept i (sound-after s g) r, ap (λ (j : Job). j.run) (at_other js p i ne)))
]

-- ROLLBACK TIME, where rollback stays possible: given and left are what the job began with and what its granted request added.
pub rollback_kept : {js : List Job} {ps : List Part} (i : ℕ) → Sound js → Replay js ps → (job_at (after_all js ps) i).rollback < never → ((job_at js i).rollback < never) × (rollback_given i ps + (job_at (after_all js ps) i).rollback ≡ (job_at js i).rollback + grants_add i js ps)
unfolding rollback_given grants_add after_all
rollback_kept i s over h = (h, omega arith)
rollback_kept {js} i s (then {p = p} {ps = ps} g r) h = elim (ℕ_discrete i p.job) [
  | yes e ↦
      let ih = rollback_kept i (sound-after s g) r h in
      let x = ap (λ (j : Job). j.rollback) (at_part s g i e) in
      let q = ap (λ (k : ℕ). (job_at js k).rollback) e in
      let one = rollback-one p.rolling p.time (s.fit p.job) g.left g.real (omega (arith, ih.0)) in
      rw (eq-eqb i p.job e) (omega (arith, one.0), omega (arith, one.1, ih.1))
  | no ne ↦
      let ih = rollback_kept i (sound-after s g) r h in
      let x = ap (λ (j : Job). j.rollback) (at_other js p i ne) in
      rw (ne_eqb i p.job ne) (omega (arith, ih.0), omega (arith, ih.1))
]

-- ONCE IN ROLLBACK a job never runs normally again.
pub rolling-kept : {js : List Job} {ps : List Part} (i : ℕ) → Sound js → Replay js ps → (job_at js i).rolling ≡ true → OnlyRollback i ps
rolling-kept i s over h = tt
rolling-kept {js} i s (then {p = p} {ps = ps} g r) h = (
  λ e. g.stays (rw e h),
  rolling-kept i (sound-after s g) r (elim (ℕ_discrete i p.job) [
    | yes e ↦ ap (λ (j : Job). j.rolling) (at_part s g i e) ∙ rolling-stays p.rolling p.time (job_at js p.job) (rw e at h)
    | no ne ↦ ap (λ (j : Job). j.rolling) (at_other js p i ne) ∙ h
  ]),
)

pub once-rollback : {js : List Job} {ps : List Part} → Sound js → Replay js ps → OnceRollback ps
once-rollback s over = tt
once-rollback {js} s (then {p = p} g r) = (λ e. rolling-kept p.job (sound-after s g) r (ap (λ (j : Job). j.rolling) (at_same s g) ∙ now p.rolling e), once-rollback (sound-after s g) r)
  where
    now : (b : Bool) → b ≡ true → (worked b p.time (job_at js p.job)).rolling ≡ true
    now true e = rolled_back-rolling p.time (job_at js p.job)
    now false e = absurd (false≢true e)
