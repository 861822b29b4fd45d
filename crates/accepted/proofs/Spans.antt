-- What rests on specs/Spans.antt.
use Rattle.std.specs.Prelude.{ℕ, ◌<◌, ◌≡◌, List, get_or}
use Rattle.std.proofs.Math.Path.{sym, ap}
use Rattle.std.proofs.Common.{◌∙◌}
use Rattle.book.specs.declared.Span.{Span}
use Rattle.book.specs.Format.{book_of}
use Rattle.book.specs.Judged.{starts_of}
use Rattle.book.specs.Starts.{start_is}
use Rattle.accepted.specs.Layout.{job_place}
use Rattle.accepted.proofs.Exactly.{book-back}
use Rattle.accepted.specs.Spans.{Laid, laid, span-is}

pub accepted-laid : (s : List ℕ) → (book_of s).number ≡ 0 → Laid s (book_of s)
accepted-laid s h = let z = book-back s h in laid s (book_of s) z.0 z.1

-- so the places that the judge hands over are those of the records
pub starts-at : (s : List ℕ) → (book_of s).number ≡ 0 → (i : ℕ) → i < (book_of s).jobs → get_or (starts_of (book_of s)) i 0 ≡ job_place s i
starts-at s h i l =
    let z = book-back s h in
    sym (start_is s i l) ∙ ap (λ (x : Span). x.start) (span-is s (book_of s) z.0 z.1 i l)
