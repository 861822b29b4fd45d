-- What rests on specs/Agree.antt.
use Rattle.std.specs.Prelude.{◌≡◌, List, ℕ, ◌<◌, ℤ, length, set, refl, true, ◌+◌, ◌+ℤ◌}
use Rattle.std.proofs.Common.{◌∙◌, get_or-set_same, get_or-set_other, sym, arith}
use Rattle.std.proofs.Math.Decide.{ℕ_discrete}
use Rattle.job.specs.declared.Job.{Job}
use Rattle.gus.specs.State.{vacant, worked_by, after, after_all}
use Rattle.gus.specs.View.{Pay}
use Rattle.invariants.specs.Replay.{paid, Replay, over, then, earns, all_inside, both}
use Rattle.replay.specs.Machine.{MachineJob, Machine, no_machine_job, job_of, earnings, part_job, step, follow}
use Rattle.replay.specs.Same.{Same}
use Rattle.replay.specs.Agree.{Agrees, worth-kept, curve-kept, numbered_below, time-left}
use Rattle.std.proofs.Math.IntN.{+ℤ_assoc, +ℤ_idr}
use Rattle.curve.specs.Worth.{defined}
use Rattle.gus.specs.declared.Part.{Part}
use Rattle.invariants.specs.Sound.{Sound}
use Rattle.invariants.specs.Proper.{Proper, sound-after}
use Rattle.replay.proofs.Granted.{same-worked}

-- one job of each changed alike
module _ {pay : Pay} {m : Machine} {js : List Job} (i : ℕ) (x : MachineJob) (y : Job) where
  pub agrees-set : (clock : ℕ) (paid : ℤ) (unpaid : ℕ) → i < length m.jobs → i < length js → Same x y → x.curve ≡ (job_of m i).curve → Agrees pay m js → Agrees pay (record { clock = clock; paid = paid; unpaid = unpaid; jobs = set m.jobs i x }) (set js i y)
  agrees-set clock paid unpaid l h s c a = record {
    same = λ k. elim (ℕ_discrete k i) [
      | yes e ↦ rw (e, get_or-set_same m.jobs i x no_machine_job l, get_or-set_same js i y vacant h) s
      | no ne ↦ rw (get_or-set_other m.jobs i k x no_machine_job ne, get_or-set_other js i k y vacant ne) (a.same k)
    ];
    worth = λ b k t. elim (ℕ_discrete k i) [
      | yes e ↦ rw (e, get_or-set_same m.jobs i x no_machine_job l) (worth-kept b t x (job_of m i) c ∙ a.worth b i t)
      | no ne ↦ rw (get_or-set_other m.jobs i k x no_machine_job ne) (a.worth b k t)
    ];
  }

-- ONE PROPER PART
module _ {pay : Pay} {m : Machine} {js : List Job} {p : Part} (a : Agrees pay m js) (s : Sound js) (g : Proper js p) where
  same-part : Same (part_job m p) (worked_by js p)
  same-part = same-worked (a.same p.job) (s.fit p.job) (g.free.at p.job) p.rolling p.time

  pub agrees_after : Agrees pay (step m p) (after js p)
  agrees_after =
      let below = numbered_below m p.job (omega (arith, (a.same p.job).run, g.alive.run_some)) in
      agrees-set p.job (part_job m p) (worked_by js p) (step m p).clock (step m p).paid (step m p).unpaid below (omega (arith, s.size, g.alive.there)) same-part (curve-kept p.rolling p.time (job_of m p.job)) a

  -- what it earns on the machine is what the planner reckons
  pub earnings-are : (moment : ℕ) → earnings p.rolling (part_job m p) moment ≡ earns pay js p moment
  unfolding earnings earns
  earnings-are moment =
      let worth = worth-kept p.rolling moment (part_job m p) (job_of m p.job) (curve-kept p.rolling p.time (job_of m p.job)) ∙ a.worth p.rolling p.job moment in
      rw (time-left same-part p.rolling, worth)

-- A ROW OF THEM
pub agrees-all : {pay : Pay} {m : Machine} {js : List Job} {ps : List Part} → Agrees pay m js → Sound js → Replay js ps → Agrees pay (follow m ps) (after_all js ps)
unfolding follow after_all
agrees-all a s over = a
agrees-all {m = m} a s (then {p = p} g r) = agrees-all {m = step m p} (agrees_after a s g) (sound-after s g) r

pub paid-all : {pay : Pay} {m : Machine} {js : List Job} {ps : List Part} → Agrees pay m js → Sound js → Replay js ps → (follow m ps).paid ≡ m.paid +ℤ paid pay js m.clock ps
unfolding follow paid
paid-all {m = m} a s over = sym (+ℤ_idr m.paid)
paid-all {m = m} a s (then {p = p} g r) = rw (paid-all {m = step m p} (agrees_after a s g) (sound-after s g) r, earnings-are a s g (m.clock + p.time), +ℤ_assoc)

-- where every finish is inside its curve none is left unpaid
pub unpaid-all : {pay : Pay} {m : Machine} {js : List Job} {ps : List Part} → Agrees pay m js → Sound js → Replay js ps → all_inside pay js m.clock ps ≡ true → (follow m ps).unpaid ≡ m.unpaid
unfolding follow all_inside
unpaid-all a s over i = refl
unpaid-all {pay} {m} {js} a s (then {p = p} {ps = ps} g r) i =
    let here : defined (earns pay js p (m.clock + p.time)) ≡ true = (both (defined (earns pay js p (m.clock + p.time))) (all_inside pay (after js p) (m.clock + p.time) ps) i).0 in
    let rest : all_inside pay (after js p) (m.clock + p.time) ps ≡ true = (both (defined (earns pay js p (m.clock + p.time))) (all_inside pay (after js p) (m.clock + p.time) ps) i).1 in
    let none : (step m p).unpaid ≡ m.unpaid = rw (earnings-are a s g (m.clock + p.time), here) (omega arith) in
    unpaid-all {m = step m p} (agrees_after a s g) (sound-after s g) r rest ∙ none
