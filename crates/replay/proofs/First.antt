-- What rests on specs/First.antt.
use Rattle.std.specs.Prelude.{List, ℕ}
use Rattle.accepted.specs.Layout.{Bytes}
use Rattle.planner.specs.Planned.{planned_of}
use Rattle.planner.specs.First.{first_in}
use Rattle.ilhuepatl.specs.Calls.{verdict_of}
use Rattle.replay.specs.Refuses.{Refuses}
use Rattle.replay.proofs.Refuses.{planned-refuses}

-- REFUSED ALIKE, and never for want of room
pub first-refuses : (s : List ℕ) → Bytes s → Refuses s 0 0 (verdict_of (first_in (planned_of s)).number (first_in (planned_of s)).place)
unfolding first_in
first-refuses s b = planned-refuses s b
