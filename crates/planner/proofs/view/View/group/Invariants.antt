use mathlib.Core.Path.{◌≡◌}
use Prim.Native.Nat.{◌+◌}
use Rattle.gus.specs.Choice.{by_density}
use Rattle.planner.specs.Seen.{seen_by}
use Rattle.planner.specs.Parting.{Parting}
use Rattle.planner.proofs.view.View.group.Given as goal

abbrev pub invariant-loop-place : goal.invariant-loop-place
invariant-loop-place l =
    let members = l.place-iterator.iter in
    let n = l.place-iterator.count in
    (members.end ≡ 32) × (members.start ≡ l.chain.from + n)
    × Parting by_density (seen_by l.chain.view.now) l.chain.view.now.moment l.chain.members.now l.chain.from l.modes l.parts n members.start
