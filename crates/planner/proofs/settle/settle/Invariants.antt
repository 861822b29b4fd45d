use mathlib.Core.Path.{◌≡◌}
use Rattle.planner.specs.Settling.{Settling}
use Rattle.planner.proofs.settle.settle.Given as goal

abbrev pub invariant-loop-victim : goal.invariant-loop-victim
invariant-loop-victim l = Settling l.fn.v l.initial.s.jobs l.s.jobs l.victim-index × (l.s.holders ≡ l.initial.s.holders) × (l.s.sheet ≡ l.initial.s.sheet)
