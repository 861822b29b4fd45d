-- What rests on specs/Runs.antt.
use Rattle.std.specs.Prelude.{ℕ, List}
use Rattle.job.specs.declared.Job.{Job}
use Rattle.gus.specs.Waits.{waits_for, chain_of}
use Rattle.gus.specs.View.{Pay, view_of}
use Rattle.gus.specs.Course.{start}
use Rattle.gus.specs.Choice.{Way}
use Rattle.gus.specs.Group.{group_of}
use Rattle.invariants.specs.Sound.{Member}
use Rattle.invariants.specs.Waiting.{Ready}
use Rattle.invariants.specs.Chains.{chain-of}
use Rattle.invariants.specs.Fair.{Fair}
use Rattle.invariants.specs.Along.{grow-along}
use Rattle.invariants.specs.Runs.{Runs, agree_refl, along-runs}

-- the group of a job that is left
pub group-runs : (pay : Pay) {way : Way} {js : List Job} (t i : ℕ) → Fair way → Ready js → Member js i → Runs js js (group_of way (view_of pay js) t i).parts
unfolding group_of
group-runs pay {js = js} t i f y m =
    let c = chain-of y i m in
    along-runs (grow-along pay js t start f y.sound c.0) c.0 y.sound y.sound (agree_refl js (chain_of (waits_for js) i)) c.1
