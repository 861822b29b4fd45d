-- `planner::plan::first_state` meets its contract: the jobs where their records stand, with the victims in rollback.
use Rattle.planner.specs.Preparing.{victims-handed}
use Rattle.planner.specs.Answering.{state-made}
use Rattle.planner.proofs.plan.first_state.Goals as goal

pub settle-requires : goal.settle-requires
settle-requires c = victims-handed c.args.bytes.now c.requires.accepted c.requires.victims

pub returns : goal.returns
returns c = state-made c.args.bytes.now c.requires.accepted c.requires.victims c.open_jobs-jobs.ensures c.settle.ensures
