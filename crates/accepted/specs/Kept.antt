-- The list of rules that an accepted book keeps, each a fact on the value that stands at its place.
use Rattle.std.specs.Prelude.{ℕ, ◌<◌, ◌≤◌, ◌≡◌, List, length}
use Rattle.cursor.specs.Field.{value_at}
use Rattle.accepted.specs.Layout.{held_at, holds_at, record_at, record_end, jobs_at, resources_at, now_at, job_place}
use Rattle.accepted.specs.Rules.{GoodRecord}
use Rattle.laws.specs.Holders.{Before}

-- SIZE, VERSION, COUNT twice, and the range of now
pub record HeaderKept (s : List ℕ) : Type 0 where
  pub least : 9 ≤ length s
  pub size : value_at s 0 2 ≡ length s
  pub version : value_at s 2 1 ≡ 1
  pub jobs : jobs_at s ≤ 32
  pub resources : resources_at s ≤ 32
  pub now : now_at s ≤ 2147483647

-- the resource of entry k of job j, and how many entries job j has
abbrev pub held_of : List ℕ → ℕ → ℕ → ℕ
held_of s j k = (held_at s (job_place s j) k).resource

abbrev pub holds_of : List ℕ → ℕ → ℕ
holds_of s j = holds_at s (job_place s j)

pub record RecordKept (s : List ℕ) (resources i : ℕ) : Type 0 where
  -- CUT: no field of the record runs past the book's end
  pub fits : record_end s (job_place s i) ≤ length s
  -- RANGE and MODE
  pub good : GoodRecord resources (record_at s (job_place s i))
  -- TWICE: no held resource "stood in a held list before"
  pub once : (m j k : ℕ) → m < holds_of s i → Before (holds_of s) i m j k → held_of s j k ≡ held_of s i m → ⊥

pub record BookKept (s : List ℕ) : Type 0 where
  pub header : HeaderKept s
  pub each : (i : ℕ) → i < jobs_at s → RecordKept s (resources_at s) i
  -- TAIL: no "bytes after the last job"
  pub tail : job_place s (jobs_at s) ≡ length s
