-- What rests on specs/Left.antt.
use Rattle.std.specs.Prelude.{◌<◌, List}
use Rattle.std.proofs.Common.{arith}
use Rattle.job.specs.declared.Job.{Job}
use Rattle.gus.specs.declared.Part.{Part}
use Rattle.gus.specs.State.{after_all}
use Rattle.invariants.specs.Sound.{Sound}
use Rattle.invariants.specs.Proper.{sound-after}
use Rattle.invariants.specs.Runs.{Runs, last, next}
use Rattle.invariants.specs.Left.{count-after, count-last, count_left}

pub runs-count : {js₀ js : List Job} {ps : List Part} → Runs js₀ js ps → Sound js → count_left (after_all js ps) < count_left js
unfolding after_all
runs-count (last g e l) s = count-last s g l
runs-count (next g e u r) s = omega (arith, runs-count r (sound-after s g), count-after s g)
