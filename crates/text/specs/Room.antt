-- What a call that writes a text into a lent output answers: no room, or the text.
use Rattle.std.specs.Prelude.{true, false, List, ℕ, ltb, length}
use Rattle.laws.specs.Stores.{over}
use Rattle.cursor.specs.Refusal.{ROOM}
use Rattle.text.specs.Listed.{Listed}

pub record TextOutcome : Type 0 where
  pub listed : Listed
  pub out : List ℕ

-- ROOM's place is 0
abbrev pub listed_as : ℕ → ℕ → Listed
listed_as number length = record { number = number; place = 0; length = length }

-- ROOM: an output under `least` bytes. Otherwise the text, a refused book's too; "Later output bytes keep their values."
unfoldable pub outcome_with : ℕ → List ℕ → List ℕ → TextOutcome
outcome_with least text out =
    elim (ltb (length out) least) [
      | true ↦ record { listed = listed_as ROOM 0; out = out }
      | false ↦ record { listed = listed_as 0 (length text); out = over text out }
    ]
