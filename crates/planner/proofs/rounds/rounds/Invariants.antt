use Prim.Native.Nat.{◌+◌}
use mathlib.Core.Path.{◌≡◌}
use Rattle.gus.specs.Choice.{by_density}
use Rattle.gus.specs.Round.{rounds}
use Rattle.planner.specs.declared.PlanParts.{PlanParts}
use Rattle.planner.specs.declared.State.{State}
use Rattle.planner.specs.Stage.{Stage, opening}
use Rattle.planner.specs.Shown.{pay_in}
use Rattle.planner.specs.Working.{Going, Working}
use Rattle.planner.proofs.rounds.rounds.Given as goal

-- the stage that the locals make
abbrev pub stage_of : State → PlanParts → Stage
stage_of state plan = record { state = state; parts = plan.parts; count = plan.count; rounds = plan.rounds; total = plan.total; moment = plan.moment }

abbrev pub invariant-loop-p : goal.invariant-loop-p
invariant-loop-p l = record {
  working : Working l.bytes l.n l.p-items l.initial.state l.initial.plan.parts l.initial.plan.count l.state l.asking.list l.asking.count l.plan.parts l.p-index;
  plan_is : l.plan ≡ record l.initial.plan { parts = l.plan.parts; count = l.initial.plan.count + l.p-index };
}

abbrev pub invariant-loop : goal.invariant-loop
invariant-loop l = record {
  going : Going l.bytes l.n (rounds 32 by_density (pay_in l.bytes) l.initial.state.jobs l.t) (opening l.initial.state l.t) (stage_of l.state l.plan) l.asking.list l.asking.count l.counter;
  counted : l.plan.rounds ≡ l.counter;
}
