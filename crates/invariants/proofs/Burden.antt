-- What rests on specs/Burden.antt.
use Rattle.std.specs.Prelude.{◌+◌, ◌≤◌, List, length}
use Rattle.std.proofs.Common.{arith}
use Rattle.job.specs.declared.Job.{Job}
use Rattle.gus.specs.declared.Part.{Part}
use Rattle.gus.specs.State.{after_all}
use Rattle.invariants.specs.Sound.{Sound}
use Rattle.invariants.specs.Proper.{sound-after}
use Rattle.invariants.specs.Runs.{Runs, last, next}
use Rattle.invariants.specs.Burden.{burden, burden-last, burden-next}

-- EACH PART OF A GROUP lowers the burden, which is at most 96
pub runs-burden : {js₀ js : List Job} {ps : List Part} → Runs js₀ js ps → Sound js → length ps + burden (after_all js ps) ≤ burden js
unfolding after_all
runs-burden (last g e l) s = omega (arith, burden-last s g l)
runs-burden (next g e u r) s = omega (arith, burden-next s g u, runs-burden r (sound-after s g))
