-- What the definitions of a book pass on: of each list what was read so far, with the reading after it. The code makes none of these.
use Rattle.std.specs.Prelude.{ℕ, ℤ, List, Option}
use Rattle.curve.specs.declared.Piece.{Piece}
use Rattle.curve.specs.Curve.{Curve}
use Rattle.job.specs.declared.Request.{Request}
use Rattle.cursor.specs.Reading.{Reading}
use Rattle.book.specs.declared.Entry.{Entry}
use Rattle.book.specs.declared.Span.{Span}

pub record Requested : Type 0 where
  pub reading : Reading
  pub request : Request

pub record EntryRead : Type 0 where
  pub reading : Reading
  pub entry : Entry

-- entries 0 .. holds, and who holds what
pub record HeldList : Type 0 where
  pub reading : Reading
  pub holds : ℕ
  pub held : List Entry
  pub holders : List ℕ

pub record PieceRead : Type 0 where
  pub reading : Reading
  pub piece : Piece

-- pieces 0 .. count, the last of them, and the least start of the next
pub record PieceList : Type 0 where
  pub reading : Reading
  pub count : ℕ
  pub pieces : List Piece
  pub last : Piece
  pub low : ℕ

pub record CurveRead : Type 0 where
  pub reading : Reading
  pub curve : Curve

-- one job's record, in book order: entries 0 .. holds of held are the held list
pub record Record : Type 0 where
  pub mode : ℕ
  pub run : ℕ
  pub rollback : ℕ
  pub request : Request
  pub holds : ℕ
  pub held : List Entry
  pub curve : Curve

pub record RecordRead : Type 0 where
  pub reading : Reading
  pub holders : List ℕ
  pub job : Record

pub record Records : Type 0 where
  pub reading : Reading
  pub records : List Record
  pub holders : List ℕ
  pub spans : List Span

-- number: 0, or the refusal's, and then place is its place and the rest is empty.
-- Records and spans stand by job number, 0 .. jobs; holders by resource, 255 where nobody holds it.
pub record Book : Type 0 where
  pub number : ℕ
  pub place : ℕ
  pub now : ℕ
  pub jobs : ℕ
  pub resources : ℕ
  pub records : List Record
  pub holders : List ℕ
  pub spans : List Span

-- a book judged: its refusal as above, or what it has but for its records, and where these stand
pub record JudgedBook : Type 0 where
  pub number : ℕ
  pub place : ℕ
  pub now : ℕ
  pub jobs : ℕ
  pub holders : List ℕ
  pub starts : List ℕ

-- where a job's record stands, or the refusal; from 0 to 0 where there is none
pub record Found : Type 0 where
  pub number : ℕ
  pub place : ℕ
  pub start : ℕ
  pub end : ℕ

-- the worth of a curve's bytes, or the refusal
pub record CurveWorth : Type 0 where
  pub number : ℕ
  pub place : ℕ
  pub worth : Option ℤ
