-- THE SHEET LAID FROM A BOOK'S BYTES, row by row.
use Rattle.std.specs.Prelude.{◌≡◌, refl, List, ℕ, suc, ◌+◌, ◌*◌, ◌<◌, ◌≤◌, eqb, length, get_or, replicate}
use Rattle.std.proofs.Common.{ap, ◌∙◌, arith}
use Rattle.std.proofs.Math.Decide.{ℕ_discrete, dec_lt}
use Rattle.std.proofs.lemmas.List.{length-replicate, get_or-replicate}
use Rattle.laws.specs.Count.{upto-each}
use Rattle.laws.specs.Inside.{inside}
use Rattle.cursor.specs.Field.{value_at}
use Rattle.book.specs.Format.{book_of}
use Rattle.accepted.proofs.Exactly.{book-back}
use Rattle.job.specs.Job.{no_job}
use Rattle.gus.specs.Waits.{nobody}
use Rattle.opening.specs.Start.{jobs_from}
use Rattle.planner.specs.Places.{no_place, place_for}
use Rattle.planner.specs.Standing.{Standing}
use Rattle.planner.specs.Sheet.{cell}
use Rattle.planner.specs.Row.{Row, RowOf, rows_of}
use Rattle.planner.specs.Shown.{Shown}
use Rattle.planner.specs.RowLaid.{row_from, laid_sheet, row_laid, row-vacant}
use Rattle.planner.specs.RowRight.{Turn, row-turn, vacant-turn}

-- the rows below i are the jobs', and the others still zeros
record Laying (s : List ℕ) (i : ℕ) (sheet : List ℕ) : Type 0 where
  laid : (k : ℕ) → k < i → RowOf (jobs_from (book_of s)) (place_for s (book_of s)) k sheet
  blank : (k : ℕ) → i ≤ k → k < 32 → Row no_job 0 0 0 no_place k sheet

blank-row : {sheet : List ℕ} {i : ℕ} → sheet ≡ replicate 288 0 → i < 32 → Row no_job 0 0 0 no_place i sheet
blank-row {sheet} {i} e l = record {
  size = size;
  run = each 0 (omega arith);
  rollback = each 1 (omega arith);
  hold_is = each 2 (omega arith);
  undo_is = each 3 (omega arith);
  waits_is = inside sheet (9 * i + 4) nobody 0 (omega (arith, size)) ∙ each 4 (omega arith);
  rolling = ap (λ (x : ℕ). eqb x 1) (each 5 (omega arith));
  end = each 6 (omega arith);
  pieces = each 7 (omega arith);
  asks = inside sheet (9 * i + 8) nobody 0 (omega (arith, size)) ∙ each 8 (omega arith);
}
  where
    size : length sheet ≡ 288
    size = ap length e ∙ length-replicate {A = ℕ} 288 0

    each : (k : ℕ) → k < 9 → cell k sheet 0 i ≡ 0
    each k h = ap (λ (t : List ℕ). get_or t (9 * i + k) 0) e ∙ get_or-replicate {A = ℕ} 288 (9 * i + k) 0 0 (omega arith)

laying-begin : (s : List ℕ) → Laying s 0 (replicate 288 0)
laying-begin s = record { laid = λ k h. absurd (omega arith); blank = λ k h l. blank-row refl l }

turned : {s : List ℕ} {i : ℕ} {t : List ℕ} {f : List ℕ → List ℕ} → Turn s i f → Laying s i t → i < 32 → Laying s (suc i) (f t)
turned {i = i} x inv l = record {
  laid = λ k h. elim (ℕ_discrete k i) [
    | yes q ↦ rw q (x.own (inv.blank i (omega arith) l))
    | no q ↦ x.others q (inv.laid k (omega arith))
  ];
  blank = λ k h m. x.others (λ q. omega arith) (inv.blank k (omega arith) m);
}

module _ {s starts holders : List ℕ} {n : ℕ} (st : Standing s starts holders n) where
  laying-next : (i : ℕ) (t : List ℕ) → i < 32 → Laying s i t → Laying s (suc i) (row_from s starts holders n i t)
  laying-next i t l inv = elim (dec_lt i n) [
    | yes h ↦ rw (row_laid s starts holders t h) (turned (row-turn st i (omega (arith, st.jobs_are))) inv l)
    | no h ↦ rw (row-vacant s starts holders {n = n} {i = i} t (omega arith)) (turned (vacant-turn st i (omega (arith, st.jobs_are)) l) inv l)
  ]

  -- the laid sheet is the rows of the book's jobs
  pub laid-shown : Shown s (jobs_from (book_of s)) (laid_sheet s starts holders n)
  laid-shown =
      let all = upto-each (Laying s) (row_from s starts holders n) 32 (replicate 288 0) (laying-begin s) (λ i l inv. laying-next i _ l inv) 32 (omega arith) in
      rows_of (λ k l. all.laid k l)

-- "SIZE": a book's first two bytes say its length, so that its places are numbers of two bytes
pub size_small : (s : List ℕ) → (book_of s).number ≡ 0 → ((i : ℕ) → get_or s i 0 < 256) → length s < 65536
unfolding value_at
size_small s a bytes = omega (arith, (book-back s a).0.header.size, bytes 0, bytes 1)
