-- A machine that agrees with the planner's jobs, and follows a plan that replays from them, keeps demand 3.
use Rattle.std.specs.Prelude.{◌≡◌, refl, Bool, true, false, List, ℕ, ◌<◌, ◌≤◌, pos, length, take}
use Rattle.std.proofs.Common.{ap}
use Rattle.job.specs.declared.Request.{Request}
use Rattle.job.specs.declared.Job.{Job}
use Rattle.gus.specs.State.{after_all}
use Rattle.gus.specs.View.{Pay}
use Rattle.gus.specs.Choice.{Way}
use Rattle.gus.specs.Round.{Plan}
use Rattle.invariants.specs.Sound.{Sound}
use Rattle.invariants.specs.Proper.{Proper}
use Rattle.invariants.specs.Left.{count_left}
use Rattle.invariants.specs.Given.{grant_adds}
use Rattle.invariants.specs.Rounds.{Replayed}
use Rattle.replay.specs.Machine.{MachineJob, Machine}
use Rattle.replay.specs.Same.{Same}
use Rattle.replay.specs.Agree.{Agrees}
use Rattle.replay.specs.Moments.{done_by, adds}
use Rattle.replay.specs.Sentences.{part_at}
use Rattle.replay.specs.Parts.{sound-all, parts-before, part-proper, parts-done}

pub same-adds : {m : MachineJob} {j : Job} → Same m j → (b : Bool) → adds b m ≡ grant_adds b j
same-adds s true = refl
same-adds s false = ap (λ (q : Request). q.rollback) s.request

module _ {pay : Pay} {way : Way} {m : Machine} {js : List Job} {plan : Plan} (a : Agrees pay m js) (s : Sound js) (d : Replayed way pay js m.clock plan) (unpaid : (m.paid ≡ pos 0) × (m.unpaid ≡ 0)) (few : count_left js ≤ length m.jobs) where
  -- the planner's jobs before part k, and t milliseconds after the start
  abbrev pub before : ℕ → List Job
  before k = after_all js (take k plan.parts)

  abbrev pub by : ℕ → List Job
  by t = after_all js (done_by t plan.parts)

  pub sound-before : (k : ℕ) → Sound (before k)
  sound-before k = sound-all s (parts-before k d.replay)

  pub proper : (k : ℕ) → k < length plan.parts → Proper (before k) (part_at plan.parts k)
  proper k l = part-proper k d.replay l

  pub sound-by : (t : ℕ) → Sound (by t)
  sound-by t = sound-all s (parts-done t d.replay)
