-- A ROW LAID FROM A BOOK'S BYTES IS THAT OF ITS JOB, and a place without a job has an empty row.
use Rattle.std.specs.Prelude.{◌≡◌, refl, ◌≢◌, get_or}
use Rattle.std.proofs.Common.{sym, ◌∙◌, arith, lt-ltb, le-ltb}
use Rattle.std.proofs.Math.Path.{ap}
use mathlib.Core.List.{List}
use Prim.Native.Nat.{ℕ, ◌+◌, ◌*◌, ◌<◌, ◌≤◌}
use Rattle.std.proofs.Math.Decide.{ℕ_discrete, dec_lt}
use Rattle.std.proofs.Math.Dec.{eqb}
use Rattle.std.proofs.Math.ListN.{length, length-set}
use Rattle.laws.specs.Inside.{inside}
use Rattle.cursor.specs.Field.{value_at, value_in}
use Rattle.cursor.specs.Value.{value_there}
use Rattle.job.specs.declared.Held.{Held}
use Rattle.job.specs.declared.Job.{Job}
use Rattle.job.specs.Job.{no_job, held_at}
use Rattle.book.specs.Read.{Book}
use Rattle.book.specs.Format.{book_of}
use Rattle.book.specs.Starts.{start_is}
use Rattle.accepted.specs.Layout.{job_place}
use Rattle.accepted.proofs.Spans.{starts-at}
use Rattle.accepted.specs.CurvePlaces.{curve_place_of}
use Rattle.accepted.specs.Good.{Good}
use Rattle.accepted.proofs.Good.{accepted-good}
use Rattle.gus.specs.State.{vacant, job_at}
use Rattle.gus.specs.Waits.{nobody, waits_for}
use Rattle.invariants.specs.Sound.{Sound}
use Rattle.invariants.specs.Waiting.{waits-none}
use Rattle.opening.specs.declared.head.Head.{Head}
use Rattle.opening.specs.Start.{jobs_from}
use Rattle.opening.specs.Taken.{head_in, job_in}
use Rattle.opening.specs.TakenRight.{curve-inside, curve-taken, head-taken}
use Rattle.opening.proofs.TakenRight.{job-taken}
use Rattle.opening.specs.Sound.{job_is, job-past}
use Rattle.opening.proofs.Sound.{sound-from}
use Rattle.opening.proofs.Holders.{holders-agree}
use Rattle.planner.specs.Places.{Place, no_place, place_for, place_inside}
use Rattle.planner.specs.Standing.{Standing}
use Rattle.planner.specs.Sheet.{cell}
use Rattle.planner.specs.Rows.{asked}
use Rattle.planner.specs.Unheld.{held-nobody}
use Rattle.planner.specs.Putting.{put, linked, owned}
use Rattle.planner.specs.Row.{Row, RowOf, row_same, put_same, put-beside, put-row, linked-row, owned-row, linked-own, owned-own}
use Rattle.planner.specs.RowLaid.{waiting_row, laid_row, vacant_row, waiting_none, waiting-free, waiting-held}

-- a turn that makes a row of zeros the row of its job, and leaves every other row
pub record Turn (s : List ℕ) (i : ℕ) (f : List ℕ → List ℕ) : Type 0 where
  pub own : {t : List ℕ} → Row no_job 0 0 0 no_place i t → RowOf (jobs_from (book_of s)) (place_for s (book_of s)) i (f t)
  pub others : {j : Job} {w h u k : ℕ} {place : Place} {t : List ℕ} → k ≢ i → Row j w h u place k t → Row j w h u place k (f t)

module _ {s starts holders : List ℕ} {n : ℕ} (st : Standing s starts holders n) where
  abbrev b : Book
  b = book_of s

  abbrev js : List Job
  js = jobs_from b

  abbrev places : ℕ → Place
  places = place_for s b

  good : Good b
  good = accepted-good s st.accepted

  pub few-jobs : n ≤ 32
  few-jobs = omega (arith, st.jobs_are, good.jobs)

  sound : Sound js
  sound = sound-from good

  pub start : (i : ℕ) → i < b.jobs → get_or starts i 0 ≡ job_place s i
  start i l = ap (λ (t : List ℕ). get_or t i 0) st.starts_are ∙ starts-at s st.accepted i l

  -- the job at the start of record i is job i
  job-here : (i : ℕ) → i < b.jobs → job_in s (get_or starts i 0) ≡ job_at js i
  job-here i l = ap (job_in s) (start i l) ∙ job-taken s st.accepted i l ∙ sym (job_is b i)

  holder : (r : ℕ) → r < 32 → get_or holders r 0 ≡ get_or b.holders r nobody
  holder r l = ap (λ (t : List ℕ). get_or t r 0) st.holders_are ∙ inside b.holders r 0 nobody (omega (arith, good.holders_size))

  -- who waits for nobody
  unlinked : {i : ℕ} {j : Job} {t : List ℕ} → j ≡ job_at js i → waits_for js i ≡ nobody → Row j nobody 0 0 (places i) i t → RowOf js places i t
  unlinked {i} e w r =
      let held = ap (λ (k : ℕ). held_at (job_at js k) (asked js i)) w ∙ held-nobody js sound.size (asked js i) in
      row_same r e (sym w) (ap (λ (h : Held). h.hold) (sym held)) (ap (λ (h : Held). h.rollback) (sym held))

  module _ (i : ℕ) (l : i < b.jobs) where
    abbrev p : ℕ
    p = get_or starts i 0

    abbrev r : ℕ
    r = (head_in s p).request.resource

    abbrev w : ℕ
    w = get_or holders r 0

    below : i < 32
    below = omega (arith, good.jobs)

    requested : r ≡ asked js i
    unfolding job_in
    requested = ap (λ (j : Job). j.request.resource) (job-here i l)

    abbrev curve : ℕ
    curve = p + 11 + 5 * (head_in s p).holds

    abbrev pieces : ℕ
    pieces = value_in s curve 1

    abbrev end : ℕ
    end = curve + 1 + 10 * pieces

    curve-is : curve ≡ curve_place_of b i
    curve-is =
        let first = ap (λ (t : List ℕ). get_or t i 0) st.starts_are ∙ sym (start_is s i l) in
        let holds = ap (λ (k : ℕ). (head_in s k).holds) (start i l) ∙ ap (λ (h : Head). h.holds) (head-taken s st.accepted i l) in
        omega (arith, first, holds)

    counted : pieces ≡ value_at s (curve_place_of b i) 1
    counted = ap (λ (k : ℕ). value_in s k 1) curve-is ∙ value_there s (curve_place_of b i) 1 (omega (arith, place_inside s i l))

    pieces-is : pieces ≡ (places i).pieces
    pieces-is = rw (lt-ltb i b.jobs l) counted

    end_is : end ≡ (places i).end
    end_is = rw (lt-ltb i b.jobs l) (omega (arith, curve-is, counted))

    waits : r < 32 → w ≡ waits_for js i
    waits h = holder r h ∙ holders-agree good r ∙ rw requested

    -- a holder that is not 255 is a job of the book
    among : r < 32 → w ≢ nobody → w < b.jobs
    among h ne = rw (holder r h) (good.held r (λ e. ne (holder r h ∙ e))).stands.job

    linked-right : {t : List ℕ} → r < 32 → w < 32 → Row (job_in s p) nobody 0 0 (places i) i t → RowOf js places i (linked i w (held_at (job_in s (get_or starts w 0)) r).hold (held_at (job_in s (get_or starts w 0)) r).rollback t)
    linked-right h k row =
        let held : held_at (job_in s (get_or starts w 0)) r ≡ held_at (job_at js (waits_for js i)) (asked js i) =
        ap (λ (j : Job). held_at j r) (job-here w (among h (λ e. omega arith)))
        ∙ ap (λ (k : ℕ). held_at (job_at js k) r) (waits h)
        ∙ ap (held_at (job_at js (waits_for js i))) requested in
        row_same (linked-own w _ _ below row) (job-here i l) (waits h) (ap (λ (x : Held). x.hold) held) (ap (λ (x : Held). x.rollback) held)

    waiting-right : {t : List ℕ} → Row (job_in s p) nobody 0 0 (places i) i t → RowOf js places i (waiting_row s starts holders i r t)
    waiting-right {t} row = elim (dec_lt r 32) [
      | yes h ↦ elim (dec_lt w 32) [
        | yes k ↦ rw (waiting-held s starts holders i r t h refl k refl) (linked-right h k row)
        | no k ↦ rw (waiting-free s starts holders i r t h (omega arith)) (unlinked (job-here i l) (sym (waits h) ∙ nobody-holds h (omega arith)) row)
      ]
      | no h ↦ rw (waiting_none s starts holders i r t (omega arith)) (unlinked (job-here i l) (waits-none sound i (omega (arith, requested))) row)
    ]
      where
        nobody-holds : r < 32 → 32 ≤ w → w ≡ nobody
        nobody-holds h k = elim (ℕ_discrete w nobody) [
          | yes e ↦ e
          | no ne ↦ absurd (omega (arith, among h ne, good.jobs))
        ]

    pub row-turn : Turn s i (laid_row s starts holders i)
    unfolding laid_row job_in
    row-turn = record {
      own = λ row. waiting-right (own row);
      others = λ ne row. waiting-other ne (owned-row i _ _ _ _ ne (put-row 7 i _ ne (omega arith) (put-row 6 i _ ne (omega arith) row)));
    }
      where
        own : {t : List ℕ} → Row no_job 0 0 0 no_place i t → Row (job_in s p) nobody 0 0 (places i) i (owned i (job_in s p).run (job_in s p).rollback (job_in s p).rolling (job_in s p).request.resource (put 7 i pieces (put 6 i end t)))
        own {t} row =
            let t' : List ℕ = put 6 i end t in
            let size : length t' ≡ 288 = length-set t (9 * i + 6) end ∙ row.size in
            owned-own (put 7 i pieces t') (job_in s p) (length-set t' (9 * i + 7) pieces ∙ size) below
            (put-beside t' 0 7 i pieces 6 (λ e. omega arith) ∙ put_same t 0 6 i end row.size below (omega arith) ∙ end_is)
            (put_same t' 0 7 i pieces size below (omega arith) ∙ pieces-is)

        waiting-other : {j : Job} {w' h u k : ℕ} {place : Place} {t : List ℕ} → k ≢ i → Row j w' h u place k t → Row j w' h u place k (waiting_row s starts holders i r t)
        waiting-other {t = t} ne row = elim (dec_lt r 32) [
          | yes h ↦ elim (dec_lt w 32) [
            | yes k ↦ rw (waiting-held s starts holders i r t h refl k refl) (linked-row i _ _ _ ne row)
            | no k ↦ rw (waiting-free s starts holders i r t h (omega arith)) row
          ]
          | no h ↦ rw (waiting_none s starts holders i r t (omega arith)) row
        ]

  -- a place without a job
  pub vacant-turn : (i : ℕ) → b.jobs ≤ i → i < 32 → Turn s i (vacant_row i)
  unfolding vacant_row
  vacant-turn i past l = record {
    own = λ {t} row. unlinked (sym (job-past good i past)) (waits-none sound i (omega (arith, ap (λ (j : Job). j.request.resource) (job-past good i past)))) (emptied row);
    others = λ ne row. put-row 4 i _ ne (omega arith) (put-row 8 i _ ne (omega arith) row);
  }
    where
      emptied : {t : List ℕ} → Row no_job 0 0 0 no_place i t → Row vacant nobody 0 0 (places i) i (put 4 i nobody (put 8 i nobody t))
      emptied {t} row =
          let t' : List ℕ = put 8 i nobody t in
          let size : length t' ≡ 288 = length-set t (9 * i + 8) nobody ∙ row.size in
          let kept : (k : ℕ) → k ≢ 4 → k ≢ 8 → cell k (put 4 i nobody t') 0 i ≡ cell k t 0 i = λ k a d. put-beside t' 0 4 i nobody k a ∙ put-beside t 0 8 i nobody k d in
          record {
            size = length-set t' (9 * i + 4) nobody ∙ size;
            run = kept 0 (λ e. omega arith) (λ e. omega arith) ∙ row.run;
            rollback = kept 1 (λ e. omega arith) (λ e. omega arith) ∙ row.rollback;
            hold_is = kept 2 (λ e. omega arith) (λ e. omega arith) ∙ row.hold_is;
            undo_is = kept 3 (λ e. omega arith) (λ e. omega arith) ∙ row.undo_is;
            waits_is = put_same t' nobody 4 i nobody size l (omega arith);
            rolling = ap (λ (x : ℕ). eqb x 1) (kept 5 (λ e. omega arith) (λ e. omega arith)) ∙ row.rolling;
            end = kept 6 (λ e. omega arith) (λ e. omega arith) ∙ row.end ∙ rw (le-ltb i b.jobs past);
            pieces = kept 7 (λ e. omega arith) (λ e. omega arith) ∙ row.pieces ∙ rw (le-ltb i b.jobs past);
            asks = put-beside t' nobody 4 i nobody 8 (λ e. omega arith) ∙ put_same t nobody 8 i nobody row.size l (omega arith);
          }

-- the record of job i is there, in a book of which every place is a number of two bytes
pub record RowThere (s starts holders : List ℕ) (i : ℕ) : Type 0 where
  pub standing : Standing s starts holders (book_of s).jobs
  pub small : length s < 65536
  pub there : i < (book_of s).jobs

module _ {s starts holders : List ℕ} {n : ℕ} (st : Standing s starts holders n) where
  pub row-there : {i : ℕ} → length s < 65536 → i < n → RowThere s starts holders i
  row-there small l = record {
    standing = record { accepted = st.accepted; starts_are = st.starts_are; holders_are = st.holders_are; jobs_are = refl };
    small = small;
    there = omega (arith, st.jobs_are);
  }

module _ {s starts holders : List ℕ} {i : ℕ} (x : RowThere s starts holders i) where
  pub row_below : i < 32
  row_below = below x.standing i x.there

  -- the place of its curve is a number of two bytes
  pub curve-small : {h : Head} → h ≡ head_in s (get_or starts i 0) → get_or starts i 0 + 11 + 5 * h.holds < 65536
  curve-small e =
      let a = x.standing.accepted in
      let l = x.there in
      rw (e, start x.standing i l) (omega (arith, x.small, curve-taken s a i l, curve-inside s a i l))
