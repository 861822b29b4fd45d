-- What rests on specs/Good.antt.
use Rattle.std.specs.Prelude.{ℕ, ◌≡◌, List}
use Rattle.book.specs.Format.{book_of}
use Rattle.accepted.proofs.Exactly.{book-back}
use Rattle.accepted.specs.Good.{Good, good_book}

-- WHAT AN ACCEPTED BOOK IS
pub accepted-good : (s : List ℕ) → (book_of s).number ≡ 0 → Good (book_of s)
accepted-good s h = let z = book-back s h in good_book s (book_of s) z.0 z.1
