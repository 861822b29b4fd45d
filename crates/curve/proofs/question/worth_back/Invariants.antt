use Prim.Native.Nat.{◌-◌}
use mathlib.Core.Path.{◌≡◌}
use lib.ListN.{length}
use Rattle.curve.specs.Before.{worth_back}
use Rattle.curve.proofs.question.worth_back.Given as goal

-- the pieces that are left give the worth that all give
abbrev pub invariant-loop : goal.invariant-loop
invariant-loop l = worth_back l.before (length l.before) l.t (l.pieces - l.counter) ≡ worth_back l.fn.before (length l.fn.before) l.t l.pieces
