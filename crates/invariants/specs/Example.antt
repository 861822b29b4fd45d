-- The jobs of an empty book are ready.
use Rattle.std.specs.Prelude.{ℕ, ◌<◌, ◌≡◌, List, replicate}
use Rattle.std.proofs.Common.{arith, ap}
use Rattle.std.proofs.lemmas.List.{length-replicate, get_or-replicate}
use Rattle.laws.specs.Circle.{no-circle-of-ends}
use Rattle.laws.specs.Rewire.{leaves-next}
use Rattle.job.specs.declared.Job.{Job}
use Rattle.job.specs.Job.{hold_of}
use Rattle.gus.specs.State.{vacant, job_at}
use Rattle.gus.specs.Waits.{waits_for}
use Rattle.invariants.specs.Vacant.{vacant-holds, vacant-fit}
use Rattle.invariants.specs.Sound.{Sound, sound-of}
use Rattle.invariants.specs.Waiting.{waits-none, Ready}

empty : List Job
empty = replicate 32 vacant

at-vacant : (i : ℕ) → i < 32 → job_at empty i ≡ vacant
unfolding empty
at-vacant i l = get_or-replicate 32 i vacant vacant l

empty-sound : Sound empty
unfolding empty
empty-sound = sound-of (length-replicate 32 vacant) (λ i l. rw (at-vacant i l) vacant-fit) (λ a b r x y h k. absurd (omega (arith, ap (λ (j : Job). hold_of j r) (at-vacant a x), vacant-holds r)))

empty-ready : Ready empty
empty-ready = record {
  sound = empty-sound;
  clear = no-circle-of-ends (λ i l. leaves-next (waits_for empty) 32 i l (omega (arith, waits-none empty-sound i (rw (at-vacant i l) (omega arith)))));
}
