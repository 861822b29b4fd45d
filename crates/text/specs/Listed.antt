-- What a call that writes a text says of it, as the definitions have it. number and place: 0 and 0, or ROOM at 0, and then nothing is written. length: how many bytes the text has.
use Rattle.std.specs.Prelude.{ℕ, cond, ltb, Result, Ok}
use Rattle.cursor.specs.declared.Refusal.{Refusal}
use Rattle.cursor.specs.Answer.{refuse}

pub record Listed : Type 0 where
  pub number : ℕ
  pub place : ℕ
  pub length : ℕ

-- the same as the code answers it: the text's length, or the refusal
unfoldable pub listed_told : Listed → Result ℕ Refusal
listed_told l = cond (ltb 0 l.number) (refuse l.number l.place) (Ok l.length)
