-- What the definitions answer to a book. The code answers the same as a `Result` (Told).
use Rattle.std.specs.Prelude.{ℕ, ℤ, List, Bool}
use Rattle.gus.specs.declared.Part.{Part}

-- number: 0, or the refusal's, and then place is its place and the rest is empty.
-- Victims 0 .. victimcount and parts 0 .. count are the answer's; the places after them are empty.
pub record Planned : Type 0 where
  pub number : ℕ
  pub place : ℕ
  pub victims : List ℕ
  pub victimcount : ℕ
  pub parts : List Part
  pub count : ℕ
  pub rounds : ℕ
  pub total : ℤ
  pub end : ℕ

-- number: 0, or the refusal's, and then place is its place. some: whether the plan has a part; where it has none, part is empty
pub record FirstPart : Type 0 where
  pub number : ℕ
  pub place : ℕ
  pub some : Bool
  pub part : Part
