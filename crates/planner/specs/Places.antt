-- Where the curves of 32 jobs stand in the book's bytes, and that they are worth there what their records say.
use Rattle.std.specs.Prelude.{◌≡◌, false, cond, List, ℕ, ◌<◌, ◌≤◌, ltb, length, None}
use Rattle.std.proofs.Common.{sym, ap, ◌∙◌, inl, inr, arith, lt-ltb, le-ltb}
use Rattle.std.proofs.Math.ListN.{get_or-eq_default}
use Rattle.laws.specs.Search.{lt-or-le}
use Rattle.cursor.specs.Field.{value_at}
use Rattle.curve.specs.Worth.{worth_at}
use Rattle.curve.specs.Layout.{piece_place}
use Rattle.curve.specs.Before.{worth_before, before-none}
use Rattle.curve.proofs.Before.{before-is}
use Rattle.book.specs.Read.{Record, Book}
use Rattle.book.specs.Format.{empty_record, book_of}
use Rattle.book.specs.Size.{records_size, jobs-accepted}
use Rattle.accepted.specs.CurvePlaces.{curve_place_of}
use Rattle.accepted.proofs.CurvePlaces.{curve-stands, worth-stands}
use Rattle.accepted.proofs.Good.{accepted-good}
use Rattle.opening.specs.Start.{pay_from}
use Rattle.opening.specs.Pay.{no-worth}

-- where a curve's termination stands, and how many pieces stand before it
pub record Place : Type 0 where
  pub end : ℕ
  pub pieces : ℕ

-- of the curve that begins at p
abbrev pub place_at : List ℕ → ℕ → Place
place_at s p = record { end = piece_place p (value_at s p 1); pieces = value_at s p 1 }

-- no piece stands before it
abbrev pub no_place : Place
no_place = record { end = 0; pieces = 0 }

-- the place of job i's curve, where there is a job
abbrev pub place_for : List ℕ → Book → ℕ → Place
place_for s b i = cond (ltb i b.jobs) (place_at s (curve_place_of b i)) no_place

-- a job's curve begins inside the book
pub place_inside : (s : List ℕ) (i : ℕ) → i < (book_of s).jobs → curve_place_of (book_of s) i < length s
place_inside s i h = omega (arith, (curve-stands s (jobs-accepted s i h) i h).inside)

-- what a job's curve pays where it stands is what the book says, at every moment
pub place-pay : (s : List ℕ) → (book_of s).number ≡ 0 → (i t : ℕ) → worth_before s (place_for s (book_of s) i).end (place_for s (book_of s) i).pieces t ≡ pay_from (book_of s) false i t
place-pay s a i t =
    let b : Book = book_of s in
    elim (lt-or-le i b.jobs) [
      | inl h ↦ rw (lt-ltb i b.jobs h) (let c = curve-stands s a i h in before-is s (curve_place_of b i) c.few c.inside t ∙ worth-stands s a i h t)
      | inr h ↦ rw (le-ltb i b.jobs h) (before-none s 0 t ∙ sym (ap (λ (x : Record). worth_at x.curve t) ((accepted-good s a).past i h) ∙ no-worth t))
    ]

-- past the last place nobody is paid
pub past-pay : (s : List ℕ) (i t : ℕ) → 32 ≤ i → pay_from (book_of s) false i t ≡ None
past-pay s i t h =
    let none : length (book_of s).records ≤ i = omega (arith, records_size s) in
    ap (λ (x : Record). worth_at x.curve t) (get_or-eq_default (book_of s).records empty_record none) ∙ no-worth t
