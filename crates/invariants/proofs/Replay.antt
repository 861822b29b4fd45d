-- What rests on specs/Replay.antt.
use Rattle.std.specs.Prelude.{List}
use Rattle.job.specs.declared.Job.{Job}
use Rattle.gus.specs.declared.Part.{Part}
use Rattle.gus.specs.State.{after_all}
use Rattle.invariants.specs.Waiting.{Ready}
use Rattle.invariants.proofs.Waiting.{ready-after}
use Rattle.invariants.specs.Replay.{Replay, over, then}

pub replay-ready : {js : List Job} {ps : List Part} → Replay js ps → Ready js → Ready (after_all js ps)
unfolding after_all
replay-ready over y = y
replay-ready (then g r) y = replay-ready r (ready-after y g)
