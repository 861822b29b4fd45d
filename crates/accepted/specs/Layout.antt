-- What the bytes at a place say (01, "The job book"), field for field, whether or not they keep a rule. A curve's layout is `curve`'s.
use Rattle.std.specs.Prelude.{ℕ, zero, suc, ◌+◌, ◌*◌, ◌<◌, ◌≤◌, List, get_or}
use Rattle.std.proofs.Common.{arith}
use Rattle.laws.specs.Listed.{listed}
use Rattle.curve.specs.Layout.{curve_at, curve_end}
use Rattle.job.specs.declared.Request.{Request}
use Rattle.book.specs.declared.Entry.{Entry}
use Rattle.book.specs.Read.{Record}
use Rattle.cursor.specs.Field.{value_at}
use Rattle.book.specs.Format.{no_entry}

-- ---- a string of bytes
pub record Bytes (s : List ℕ) : Type 0 where
  pub byte : (k : ℕ) → get_or s k 0 < 256

pub two_bytes : {s : List ℕ} → Bytes s → (p : ℕ) → value_at s p 2 ≤ 65535
unfolding value_at
two_bytes {s} b p = omega (arith, b.byte p, b.byte (p + 1))

pub four_bytes : {s : List ℕ} → Bytes s → (p : ℕ) → value_at s p 4 ≤ 4294967295
unfolding value_at
four_bytes {s} b p = omega (arith, b.byte p, b.byte (p + 1), b.byte (p + 2), b.byte (p + 3))

-- ---- the place of entry k of a held list, by the place of its count
abbrev pub entry_place : ℕ → ℕ → ℕ
entry_place p k = p + 1 + k * 5

-- ---- what stands at a place
abbrev pub request_at : List ℕ → ℕ → Request
request_at s p = record { resource = value_at s p 1; hold = value_at s (p + 1) 2; rollback = value_at s (p + 3) 2 }

abbrev pub entry_at : List ℕ → ℕ → Entry
entry_at s p = record { resource = value_at s p 1; hold = value_at s (p + 1) 2; rollback = value_at s (p + 3) 2 }

-- ---- a record: its held list's count stands 10 bytes on, and its curve after the held list
abbrev pub holds_at : List ℕ → ℕ → ℕ
holds_at s p = value_at s (p + 10) 1

abbrev pub held_at : List ℕ → ℕ → ℕ → Entry
held_at s p k = entry_at s (entry_place (p + 10) k)

abbrev pub curve_place : List ℕ → ℕ → ℕ
curve_place s p = entry_place (p + 10) (holds_at s p)

abbrev pub record_at : List ℕ → ℕ → Record
record_at s p = record {
  mode = value_at s p 1;
  run = value_at s (p + 1) 2;
  rollback = value_at s (p + 3) 2;
  request = request_at s (p + 5);
  holds = holds_at s p;
  held = listed 32 no_entry (held_at s p) (holds_at s p);
  curve = curve_at s (curve_place s p);
}

-- the byte after the record at p
abbrev pub record_end : List ℕ → ℕ → ℕ
record_end s p = curve_end s (curve_place s p)

-- ---- the book: job 0 stands after the 9 bytes of the header, each next one after the one before
abbrev pub jobs_at : List ℕ → ℕ
jobs_at s = value_at s 3 1

abbrev pub resources_at : List ℕ → ℕ
resources_at s = value_at s 4 1

abbrev pub now_at : List ℕ → ℕ
now_at s = value_at s 5 4

unfoldable pub job_place : List ℕ → ℕ → ℕ
job_place s zero = 9
job_place s (suc i) = record_end s (job_place s i)
