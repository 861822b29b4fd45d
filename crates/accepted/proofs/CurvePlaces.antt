-- What rests on specs/CurvePlaces.antt.
use Rattle.std.specs.Prelude.{ℕ, ◌<◌, ◌≡◌, List}
use Rattle.std.proofs.Common.{ap, ◌∙◌}
use Rattle.curve.specs.Curve.{Curve}
use Rattle.curve.specs.Worth.{worth_at}
use Rattle.curve.specs.Question.{worth_from, stands}
use Rattle.book.specs.Read.{Book}
use Rattle.book.specs.Format.{book_of}
use Rattle.accepted.specs.Kept.{BookKept}
use Rattle.accepted.specs.Exactly.{BookGot}
use Rattle.accepted.proofs.Exactly.{book-back}
use Rattle.accepted.specs.Good.{record_of, record_is}
use Rattle.accepted.specs.CurvePlaces.{CurveStands, curve_place_of, l, place_is}

module _ (s : List ℕ) (b : Book) (k : BookKept s) (g : BookGot s b) (i : ℕ) (h : i < b.jobs) where
  there : CurveStands s b i
  there = record {
    few = rw (place_is s b k g i h) (k.each i (l s b k g i h)).good.curve.allowed.few;
    inside = rw (place_is s b k g i h) (k.each i (l s b k g i h)).fits;
    is = rw ((place_is s b k g i h), record_is s b k g i (l s b k g i h));
  }

pub curve-stands : (s : List ℕ) → (book_of s).number ≡ 0 → (i : ℕ) → i < (book_of s).jobs → CurveStands s (book_of s) i
curve-stands s a i h = let z = book-back s a in there s (book_of s) z.0 z.1 i h

-- so the question asked in the book's bytes is answered with the record's own worth
pub worth-stands : (s : List ℕ) → (book_of s).number ≡ 0 → (i : ℕ) → i < (book_of s).jobs → (t : ℕ) → worth_from s (curve_place_of (book_of s) i) t ≡ worth_at (record_of (book_of s) i).curve t
worth-stands s a i h t =
    let c = curve-stands s a i h in
    stands s (curve_place_of (book_of s) i) c.few c.inside t ∙ ap (λ (x : Curve). worth_at x t) c.is
