-- What the definitions pass on from field to field. number: 0, or the refusal's. place: the last field's first byte, or the refusal's place.
-- next: the byte after the last field. value: the last field's value. The code has `Result` in its place (Answer).
use Rattle.std.specs.Prelude.{ℕ}

pub record Reading : Type 0 where
  pub number : ℕ
  pub place : ℕ
  pub next : ℕ
  pub value : ℕ

-- a header that was read so far, or the refusal in its reading
pub record HeaderRead : Type 0 where
  pub reading : Reading
  pub jobs : ℕ
  pub resources : ℕ
  pub now : ℕ

-- a step of a reader. next: the byte after the field, and after a refusal the place where the reader stood
pub record Step : Type 0 where
  pub number : ℕ
  pub place : ℕ
  pub value : ℕ
  pub next : ℕ
