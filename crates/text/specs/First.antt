-- The text of a plan's first part, from a book's bytes, and what the call that writes it answers (02, R-2).
use Rattle.std.specs.Prelude.{Bool, cond, List, ℕ}
use Rattle.book.specs.Format.{book_of}
use Rattle.gus.specs.declared.Part.{Part}
use Rattle.planner.specs.Planned.{planned_of}
use Rattle.planner.specs.First.{first_in}
use Rattle.text.specs.Decimal.{ascii}
use Rattle.text.specs.Lines.{part_line, unless_refused}
use Rattle.text.specs.Room.{TextOutcome, outcome_with}

unfoldable pub nothing_line : List ℕ
nothing_line = ascii "nothing\n"

-- "the first part or nothing"; a plan's first part starts at now
unfoldable pub first_line : Bool → Part → ℕ → List ℕ
first_line some part now = cond some (part_line now part) nothing_line

-- THE FIRST PART OF A BOOK'S PLAN, AS TEXT: the full plan's first part, and what the full plan refuses is refused alike
unfoldable pub first_listing_of : List ℕ → List ℕ
first_listing_of s = let f = first_in (planned_of s) in unless_refused f.number f.place (first_line f.some f.part (book_of s).now)

-- 32 bytes are always room enough
abbrev pub first_outcome : List ℕ → List ℕ → TextOutcome
first_outcome book out = outcome_with 32 (first_listing_of book) out
