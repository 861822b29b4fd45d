-- What the writers of a row leave that lay it from a book's bytes.
use Rattle.std.specs.Prelude.{◌≡◌, true, false, List, ℕ, ◌+◌, ◌*◌, ◌<◌, ◌≤◌, ltb, get_or, replicate}
use Rattle.std.proofs.Common.{arith}
use borrow.Author.Tests.{lt-ltb, le-ltb}
use Rattle.laws.specs.Count.{upto}
use Rattle.job.specs.declared.Held.{Held}
use Rattle.job.specs.Job.{held_at}
use Rattle.cursor.specs.Field.{value_in}
use Rattle.opening.specs.Taken.{head_in, job_in}
use Rattle.gus.specs.Waits.{nobody}
use Rattle.planner.specs.Putting.{put, linked, owned}

-- row i, of one who requests r: it is linked to the holder of r, where a job holds it
unfoldable pub waiting_row : List ℕ → List ℕ → List ℕ → ℕ → ℕ → List ℕ → List ℕ
waiting_row s starts holders i r sheet =
    let w = get_or holders r 0 in
    let x = held_at (job_in s (get_or starts w 0)) r in
    elim (ltb r 32) [
      | true ↦ elim (ltb w 32) [ true ↦ linked i w x.hold x.rollback sheet | false ↦ sheet ]
      | false ↦ sheet
    ]

-- row i, from the record at its start
unfoldable pub laid_row : List ℕ → List ℕ → List ℕ → ℕ → List ℕ → List ℕ
laid_row s starts holders i sheet =
    let p = get_or starts i 0 in
    let h = head_in s p in
    let curve = p + 11 + 5 * h.holds in
    let n = value_in s curve 1 in
    waiting_row s starts holders i h.request.resource (owned i h.run h.rollback h.rolling h.request.resource (put 7 i n (put 6 i (curve + 1 + 10 * n) sheet)))

-- row i of a sheet of zeros, where there is no job
unfoldable pub vacant_row : ℕ → List ℕ → List ℕ
vacant_row i sheet = put 4 i nobody (put 8 i nobody sheet)

-- row i of the sheet of a book with n jobs
unfoldable pub row_from : List ℕ → List ℕ → List ℕ → ℕ → ℕ → List ℕ → List ℕ
row_from s starts holders n i sheet = elim (ltb i n) [ true ↦ laid_row s starts holders i sheet | false ↦ vacant_row i sheet ]

-- THE SHEET LAID FROM A BOOK'S BYTES: every row, looked up
abbrev pub laid_sheet : List ℕ → List ℕ → List ℕ → ℕ → List ℕ
laid_sheet s starts holders n = upto (row_from s starts holders n) 32 (replicate 288 0)

module _ (s starts holders : List ℕ) {n i : ℕ} (sheet : List ℕ) where
  pub row_laid : i < n → row_from s starts holders n i sheet ≡ laid_row s starts holders i sheet
  unfolding row_from
  row_laid l = rw (lt-ltb i n l, row_from)

  pub row-vacant : n ≤ i → row_from s starts holders n i sheet ≡ vacant_row i sheet
  unfolding row_from
  row-vacant l = rw (le-ltb i n l, row_from)

module _ (s starts holders : List ℕ) (i r : ℕ) (sheet : List ℕ) where
  pub waiting_none : 32 ≤ r → waiting_row s starts holders i r sheet ≡ sheet
  unfolding waiting_row
  waiting_none l = rw (le-ltb r 32 l, waiting_row)

  pub waiting-free : r < 32 → 32 ≤ get_or holders r 0 → waiting_row s starts holders i r sheet ≡ sheet
  unfolding waiting_row
  waiting-free l h = rw (lt-ltb r 32 l, le-ltb (get_or holders r 0) 32 h, waiting_row)

  pub waiting-held : {w : ℕ} {x : Held} → r < 32 → w ≡ get_or holders r 0 → w < 32 → x ≡ held_at (job_in s (get_or starts w 0)) r → waiting_row s starts holders i r sheet ≡ linked i (get_or holders r 0) x.hold x.rollback sheet
  unfolding waiting_row
  waiting-held l e h q = rw (q, e, lt-ltb r 32 l, lt-ltb (get_or holders r 0) 32 (omega arith), waiting_row)
