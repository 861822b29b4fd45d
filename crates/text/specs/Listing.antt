-- The listing of a book, from its bytes, and what the call that writes it answers (01, "The answer").
use Rattle.std.specs.Prelude.{List, ◌++◌, ℕ, take}
use Rattle.book.specs.Format.{book_of}
use Rattle.planner.specs.Plans.{Planned}
use Rattle.planner.specs.Planned.{planned_of}
use Rattle.text.specs.Lines.{victims_line, part_lines, close_line, unless_refused}
use Rattle.text.specs.Room.{TextOutcome, outcome_with}

-- the lines of a plan whose first part starts at now
unfoldable pub plan_text : Planned → ℕ → List ℕ
plan_text p now =
    victims_line (take p.victimcount p.victims)
    ++ part_lines now (take p.count p.parts)
    ++ close_line p.total p.end p.rounds

-- THE LISTING OF A BOOK
unfoldable pub listing_of : List ℕ → List ℕ
listing_of s = let p = planned_of s in unless_refused p.number p.place (plan_text p (book_of s).now)

-- 4,096 bytes are always room enough
abbrev pub listing_outcome : List ℕ → List ℕ → TextOutcome
listing_outcome book out = outcome_with 4096 (listing_of book) out
