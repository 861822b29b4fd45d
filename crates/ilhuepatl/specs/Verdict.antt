-- A verdict as the definitions have it: 0 and 0, or a refusal's number and place.
use Rattle.std.specs.Prelude.{ℕ, ltb, cond, Result, Ok}
use Rattle.cursor.specs.declared.Refusal.{Refusal}
use Rattle.cursor.specs.Answer.{refuse}

pub record Verdict : Type 0 where
  pub number : ℕ
  pub place : ℕ

-- the same as the code answers it
unfoldable pub verdict_told : Verdict → Result (Unit {0}) Refusal
verdict_told v = cond (ltb 0 v.number) (refuse v.number v.place) (Ok tt)
