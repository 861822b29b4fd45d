-- Where the curves of an accepted book stand: each job's curve, asked in the book's bytes, is worth what its record says.
use Rattle.std.specs.Prelude.{ℕ, ◌+◌, ◌<◌, ◌≤◌, ◌≡◌, List, length}
use Rattle.cursor.specs.Field.{value_at}
use Rattle.curve.specs.Layout.{curve_at, curve_end}
use Rattle.book.specs.Read.{Book}
use Rattle.accepted.specs.Layout.{entry_place, curve_place, jobs_at, job_place}
use Rattle.accepted.specs.Kept.{BookKept}
use Rattle.accepted.specs.Exactly.{BookGot}
use Rattle.accepted.specs.Good.{record_of, record_is}
use Rattle.accepted.specs.Spans.{span_of, span-is}

-- by a record's first byte and how many entries its held list has
abbrev pub curve_place_of : Book → ℕ → ℕ
curve_place_of b i = entry_place ((span_of b i).start + 10) (record_of b i).holds

-- the curve of job i stands there
pub record CurveStands (s : List ℕ) (b : Book) (i : ℕ) : Type 0 where
  pub few : value_at s (curve_place_of b i) 1 ≤ 8
  pub inside : curve_end s (curve_place_of b i) ≤ length s
  pub is : curve_at s (curve_place_of b i) ≡ (record_of b i).curve

module _ (s : List ℕ) (b : Book) (k : BookKept s) (g : BookGot s b) (i : ℕ) (h : i < b.jobs) where
  pub l : i < jobs_at s
  l = rw g.jobs at h

  pub place_is : curve_place_of b i ≡ curve_place s (job_place s i)
  place_is = λ j. entry_place ((span-is s b k g i h j).start + 10) (record_is s b k g i l j).holds
