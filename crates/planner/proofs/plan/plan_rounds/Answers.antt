-- `planner::plan::plan_rounds` meets its contract: the rounds from the first state.
use Rattle.planner.specs.Answering.{rounds-start, planned-is}
use Rattle.planner.proofs.plan.plan_rounds.Goals as goal

pub rounds-requires : goal.rounds-requires
rounds-requires c =
    rounds-start c.args.bytes.now c.requires.accepted c.requires.prepared c.requires.free c.first_state-state.ensures

pub returns : goal.returns
returns c =
    planned-is c.args.bytes.now c.requires.accepted c.requires.prepared c.requires.free c.first_state-state.ensures c.rounds.ensures
