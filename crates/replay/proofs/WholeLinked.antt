-- What rests on proofs/Whole.antt.
use Rattle.std.specs.Prelude.{◌≡◌}
use Rattle.std.proofs.Common.{arith}
use mathlib.Core.List.{List}
use Prim.Native.Nat.{ℕ}
use Rattle.ilhuepatl.specs.Calls.{outcome_of, word}
use Rattle.replay.specs.Whole.{Certain}
use Rattle.replay.proofs.Whole.{certain}

module _ (s out : List ℕ) where
  -- for C: the number 0 says the same
  pub certain-linked : word (outcome_of s out).verdict ≡ 0 → Certain s out
  unfolding word
  certain-linked e = (certain s out) (omega arith)
