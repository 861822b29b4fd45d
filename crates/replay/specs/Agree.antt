-- The machine and the planner agree, job by job; each proper part keeps that, and pays what the planner reckons.
use Rattle.std.specs.Prelude.{◌≡◌, refl, Bool, true, false, List, [], ◌∷◌, ℕ, ◌+◌, ◌<◌, ◌≤◌, length}
use Rattle.std.proofs.Common.{ap, arith, eq-eqb, ne_eqb}
use Rattle.std.proofs.Math.Decide.{ℕ_discrete, dec_lt}
use Rattle.std.proofs.Math.ListN.{get_or-eq_default}
use Rattle.curve.specs.Curve.{Curve}
use Rattle.curve.specs.Worth.{worth_at}
use Rattle.job.specs.declared.Job.{Job}
use Rattle.job.specs.Job.{left_in}
use Rattle.gus.specs.declared.Part.{Part}
use Rattle.gus.specs.State.{job_at}
use Rattle.gus.specs.View.{Pay}
use Rattle.invariants.specs.Replay.{lasts}
use Rattle.replay.specs.Machine.{MachineJob, Machine, no_machine_job, job_of, with_request, given, time_left, finish_worth, step, follow}
use Rattle.replay.specs.Same.{Same}

pub record Agrees (pay : Pay) (m : Machine) (js : List Job) : Type 0 where
  pub same : (i : ℕ) → Same (job_of m i) (job_at js i)
  pub worth : (b : Bool) (i t : ℕ) → finish_worth b (job_of m i) t ≡ pay b i t

-- a job that has run time is one of the machine's
pub numbered_below : (m : Machine) (i : ℕ) → 1 ≤ (job_of m i).run → i < length m.jobs
numbered_below m i h = elim (dec_lt i (length m.jobs)) [
  | yes l ↦ l
  | no l ↦ absurd (omega (arith, ap (λ (j : MachineJob). j.run) (get_or-eq_default m.jobs no_machine_job {n = i} (omega arith))))
]

-- a part leaves the curve as it is
pub curve-kept : (b : Bool) (n : ℕ) (j : MachineJob) → (given b n j).curve ≡ j.curve
unfolding with_request
curve-kept true n j = refl
curve-kept false n j = elim (ℕ_discrete j.request.resource 255) [
  | yes e ↦ rw (eq-eqb j.request.resource 255 e)
  | no ne ↦ rw (ne_eqb j.request.resource 255 ne)
]

-- and the curve is all that a finish is worth by
pub worth-kept : (b : Bool) (t : ℕ) (j k : MachineJob) → j.curve ≡ k.curve → finish_worth b j t ≡ finish_worth b k t
worth-kept true t j k e = refl
worth-kept false t j k e = ap (λ (curve : Curve). worth_at curve t) e

-- all that it has left is what the planner's job has
pub time-left : {m : MachineJob} {j : Job} → Same m j → (b : Bool) → time_left b m ≡ left_in b j
time-left s true = s.rollback
time-left s false = s.run

pub clock-all : (m : Machine) (ps : List Part) → (follow m ps).clock ≡ m.clock + lasts ps
unfolding follow lasts
clock-all m [] = omega arith
clock-all m (p ∷ ps) = omega (arith, clock-all (step m p) ps)
