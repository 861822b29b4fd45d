-- One row of the sheet: what it has, and which writers leave it as it is.
use Rattle.std.specs.Prelude.{◌≡◌, refl, ◌≢◌, Bool, true, false, List, ℕ, ◌+◌, ◌*◌, ◌<◌, ltb, eqb, length}
use Rattle.std.proofs.Common.{ap, ◌∙◌, arith}
use Rattle.std.proofs.Math.ListN.{get_or, length-set}
use Rattle.std.proofs.Math.Seq.{get_or-set_same, get_or-set_other}
use Rattle.job.specs.declared.Held.{Held}
use Rattle.job.specs.declared.Job.{Job}
use Rattle.job.specs.Held.{free}
use Rattle.job.specs.Job.{hold_of, rollback_of}
use Rattle.gus.specs.State.{job_at}
use Rattle.gus.specs.Waits.{nobody, waits_for}
use Rattle.gus.specs.Victims.{sent_back}
use Rattle.planner.specs.Sheet.{cell, run_in, rollback_in, hold_in, undo_in, waits_in, rolling_in, end_in, pieces_in, asks_in}
use Rattle.planner.specs.Places.{Place}
use Rattle.planner.specs.Rows.{asked, Rows}
use Rattle.planner.specs.Putting.{put, linked, mode_of, owned, relinked_row, relinked_at, sent_row}

-- row i is of this job, with whom it waits for and how long that one needs what it requests, and with the place of its curve
pub record Row (j : Job) (waits hold undo : ℕ) (place : Place) (i : ℕ) (sheet : List ℕ) : Type 0 where
  pub size : length sheet ≡ 288
  pub run : run_in sheet i ≡ j.run
  pub rollback : rollback_in sheet i ≡ j.rollback
  pub hold_is : hold_in sheet i ≡ hold
  pub undo_is : undo_in sheet i ≡ undo
  pub waits_is : waits_in sheet i ≡ waits
  pub rolling : rolling_in sheet i ≡ j.rolling
  pub end : end_in sheet i ≡ place.end
  pub pieces : pieces_in sheet i ≡ place.pieces
  pub asks : asks_in sheet i ≡ j.request.resource

pub row_same : {j j' : Job} {w w' h h' u u' i : ℕ} {place : Place} {sheet : List ℕ} → Row j w h u place i sheet → j ≡ j' → w ≡ w' → h ≡ h' → u ≡ u' → Row j' w' h' u' place i sheet
row_same r a b c d = record {
  size = r.size;
  run = r.run ∙ ap (λ (x : Job). x.run) a;
  rollback = r.rollback ∙ ap (λ (x : Job). x.rollback) a;
  hold_is = r.hold_is ∙ c;
  undo_is = r.undo_is ∙ d;
  waits_is = r.waits_is ∙ b;
  rolling = r.rolling ∙ ap (λ (x : Job). x.rolling) a;
  end = r.end;
  pieces = r.pieces;
  asks = r.asks ∙ ap (λ (x : Job). x.request.resource) a;
}

module _ (sheet : List ℕ) (z : ℕ) where
  pub put_same : (k i n : ℕ) → length sheet ≡ 288 → i < 32 → k < 9 → cell k (put k i n sheet) z i ≡ n
  put_same k i n size below l = get_or-set_same sheet (9 * i + k) n z (omega arith)

  -- another number of the same row
  pub put-beside : (k i n m : ℕ) → m ≢ k → cell m (put k i n sheet) z i ≡ cell m sheet z i
  put-beside k i n m ne = get_or-set_other sheet (9 * i + k) (9 * i + m) n z (λ e. ne (omega arith))

  -- another row
  pub put-away : (k a n m i : ℕ) → i ≢ a → k < 9 → m < 9 → cell m (put k a n sheet) z i ≡ cell m sheet z i
  put-away k a n m i ne l h = get_or-set_other sheet (9 * a + k) (9 * i + m) n z (λ e. ne (omega arith))

  linked-waits : (i w h u : ℕ) → length sheet ≡ 288 → i < 32 → cell 4 (linked i w h u sheet) z i ≡ w
  unfolding linked
  linked-waits i w h u size below =
      get_or-set_other (put 2 i h (put 4 i w sheet)) (9 * i + 3) (9 * i + 4) u z (λ e. omega arith)
      ∙ get_or-set_other (put 4 i w sheet) (9 * i + 2) (9 * i + 4) h z (λ e. omega arith)
      ∙ put_same 4 i w size below (omega arith)

  -- the numbers of the row that are no link
  linked-beside : (i w h u m : ℕ) → m ≢ 2 → m ≢ 3 → m ≢ 4 → cell m (linked i w h u sheet) z i ≡ cell m sheet z i
  unfolding linked
  linked-beside i w h u m a b c =
      get_or-set_other (put 2 i h (put 4 i w sheet)) (9 * i + 3) (9 * i + m) u z (λ e. b (omega arith))
      ∙ get_or-set_other (put 4 i w sheet) (9 * i + 2) (9 * i + m) h z (λ e. a (omega arith))
      ∙ put-beside 4 i w m c

  linked-hold : (i w h u : ℕ) → length sheet ≡ 288 → i < 32 → cell 2 (linked i w h u sheet) z i ≡ h
  unfolding linked
  linked-hold i w h u size below =
      get_or-set_other (put 2 i h (put 4 i w sheet)) (9 * i + 3) (9 * i + 2) u z (λ e. omega arith)
      ∙ get_or-set_same (put 4 i w sheet) (9 * i + 2) h z (rw length-set (omega arith))

  linked-undo : (i w h u : ℕ) → length sheet ≡ 288 → i < 32 → cell 3 (linked i w h u sheet) z i ≡ u
  unfolding linked
  linked-undo i w h u size below = get_or-set_same (put 2 i h (put 4 i w sheet)) (9 * i + 3) u z (simp length-set (omega arith))

linked-size : (i w h u : ℕ) (sheet : List ℕ) → length (linked i w h u sheet) ≡ length sheet
unfolding linked
linked-size i w h u sheet = simp length-set

module _ {j : Job} {w h u i : ℕ} {place : Place} where
  -- a number put into another row
  pub put-row : {sheet : List ℕ} (k a n : ℕ) → i ≢ a → k < 9 → Row j w h u place i sheet → Row j w h u place i (put k a n sheet)
  put-row {sheet} k a n ne l r = record {
    size = length-set sheet (9 * a + k) n ∙ r.size;
    run = put-away sheet 0 k a n 0 i ne l (omega arith) ∙ r.run;
    rollback = put-away sheet 0 k a n 1 i ne l (omega arith) ∙ r.rollback;
    hold_is = put-away sheet 0 k a n 2 i ne l (omega arith) ∙ r.hold_is;
    undo_is = put-away sheet 0 k a n 3 i ne l (omega arith) ∙ r.undo_is;
    waits_is = put-away sheet nobody k a n 4 i ne l (omega arith) ∙ r.waits_is;
    rolling = ap (λ (x : ℕ). eqb x 1) (put-away sheet 0 k a n 5 i ne l (omega arith)) ∙ r.rolling;
    end = put-away sheet 0 k a n 6 i ne l (omega arith) ∙ r.end;
    pieces = put-away sheet 0 k a n 7 i ne l (omega arith) ∙ r.pieces;
    asks = put-away sheet nobody k a n 8 i ne l (omega arith) ∙ r.asks;
  }

  pub linked-row : {sheet : List ℕ} (a w' h' u' : ℕ) → i ≢ a → Row j w h u place i sheet → Row j w h u place i (linked a w' h' u' sheet)
  unfolding linked
  linked-row a w' h' u' ne r = put-row 3 a u' ne (omega arith) (put-row 2 a h' ne (omega arith) (put-row 4 a w' ne (omega arith) r))

  pub owned-row : {sheet : List ℕ} (a run rollback : ℕ) (rolling : Bool) (asks : ℕ) → i ≢ a → Row j w h u place i sheet → Row j w h u place i (owned a run rollback rolling asks sheet)
  unfolding owned
  owned-row a run rollback rolling asks ne r = linked-row a nobody 0 0 ne (put-row 8 a asks ne (omega arith) (put-row 5 a (mode_of rolling) ne (omega arith) (put-row 1 a rollback ne (omega arith) (put-row 0 a run ne (omega arith) r))))

  pub sent-row : {sheet : List ℕ} (a : ℕ) → i ≢ a → Row j w h u place i sheet → Row j w h u place i (sent_row a sheet)
  unfolding sent_row
  sent-row a ne r = linked-row a nobody 0 0 ne (put-row 8 a nobody ne (omega arith) (put-row 5 a 1 ne (omega arith) r))

  pub relinked-row : {sheet : List ℕ} (job : ℕ) (held : List Held) (a : ℕ) → i ≢ a → Row j w h u place i sheet → Row j w h u place i (relinked_at job held a sheet)
  unfolding relinked_at relinked_row
  relinked-row {sheet} job held a ne r = by (ltb (asks_in sheet a) 32) (ltb 0 x.hold) (eqb (cell 4 sheet 0 a) job)
    where
      x : Held
      x = get_or held (asks_in sheet a) free

      by : (b c d : Bool) → Row j w h u place i (elim b [
        | true ↦ elim c [ true ↦ linked a job x.hold x.rollback sheet | false ↦ elim d [ true ↦ linked a nobody 0 0 sheet | false ↦ sheet ] ]
        | false ↦ sheet
      ])
      by true true d = linked-row a job x.hold x.rollback ne r
      by true false true = linked-row a nobody 0 0 ne r
      by true false false = r
      by false c d = r

  -- the row itself, linked anew
  pub linked-own : {sheet : List ℕ} (w' h' u' : ℕ) → i < 32 → Row j w h u place i sheet → Row j w' h' u' place i (linked i w' h' u' sheet)
  linked-own {sheet} w' h' u' l r = record {
    size = linked-size i w' h' u' sheet ∙ r.size;
    run = linked-beside sheet 0 i w' h' u' 0 (λ e. omega arith) (λ e. omega arith) (λ e. omega arith) ∙ r.run;
    rollback = linked-beside sheet 0 i w' h' u' 1 (λ e. omega arith) (λ e. omega arith) (λ e. omega arith) ∙ r.rollback;
    hold_is = linked-hold sheet 0 i w' h' u' r.size l;
    undo_is = linked-undo sheet 0 i w' h' u' r.size l;
    waits_is = linked-waits sheet nobody i w' h' u' r.size l;
    rolling = ap (λ (x : ℕ). eqb x 1) (linked-beside sheet 0 i w' h' u' 5 (λ e. omega arith) (λ e. omega arith) (λ e. omega arith)) ∙ r.rolling;
    end = linked-beside sheet 0 i w' h' u' 6 (λ e. omega arith) (λ e. omega arith) (λ e. omega arith) ∙ r.end;
    pieces = linked-beside sheet 0 i w' h' u' 7 (λ e. omega arith) (λ e. omega arith) (λ e. omega arith) ∙ r.pieces;
    asks = linked-beside sheet nobody i w' h' u' 8 (λ e. omega arith) (λ e. omega arith) (λ e. omega arith) ∙ r.asks;
  }

mode-is : (b : Bool) → eqb (mode_of b) 1 ≡ b
mode-is true = refl
mode-is false = refl

-- the row of a job written anew, linked to nobody
pub owned-own : (sheet : List ℕ) {i : ℕ} {place : Place} (j : Job) → length sheet ≡ 288 → i < 32 → end_in sheet i ≡ place.end → pieces_in sheet i ≡ place.pieces → Row j nobody 0 0 place i (owned i j.run j.rollback j.rolling j.request.resource sheet)
unfolding owned
owned-own sheet {i} {place} j size l e n = linked-own nobody 0 0 l own
  where
    one : List ℕ
    one = put 0 i j.run sheet

    two : List ℕ
    two = put 1 i j.rollback one

    three : List ℕ
    three = put 5 i (mode_of j.rolling) two

    four : List ℕ
    four = put 8 i j.request.resource three

    beside : (m : ℕ) → m ≢ 8 → m ≢ 5 → m ≢ 1 → m ≢ 0 → cell m four 0 i ≡ cell m sheet 0 i
    beside m a b c d = put-beside three 0 8 i j.request.resource m a ∙ put-beside two 0 5 i (mode_of j.rolling) m b ∙ put-beside one 0 1 i j.rollback m c ∙ put-beside sheet 0 0 i j.run m d

    own : Row j (waits_in four i) (hold_in four i) (undo_in four i) place i four
    own = record {
      size = simp length-set size;
      run =
          put-beside three 0 8 i j.request.resource 0 (λ q. omega arith)
          ∙ put-beside two 0 5 i (mode_of j.rolling) 0 (λ q. omega arith)
          ∙ put-beside one 0 1 i j.rollback 0 (λ q. omega arith)
          ∙ put_same sheet 0 0 i j.run size l (omega arith);
      rollback =
          put-beside three 0 8 i j.request.resource 1 (λ q. omega arith)
          ∙ put-beside two 0 5 i (mode_of j.rolling) 1 (λ q. omega arith)
          ∙ put_same one 0 1 i j.rollback (length-set sheet (9 * i + 0) j.run ∙ size) l (omega arith);
      hold_is = refl;
      undo_is = refl;
      waits_is = refl;
      rolling = ap (λ (x : ℕ). eqb x 1) (put-beside three 0 8 i j.request.resource 5 (λ q. omega arith) ∙ put_same two 0 5 i (mode_of j.rolling) (simp length-set size) l (omega arith)) ∙ mode-is j.rolling;
      end = beside 6 (λ q. omega arith) (λ q. omega arith) (λ q. omega arith) (λ q. omega arith) ∙ e;
      pieces = beside 7 (λ q. omega arith) (λ q. omega arith) (λ q. omega arith) (λ q. omega arith) ∙ n;
      asks = put_same three nobody 8 i j.request.resource (simp length-set size) l (omega arith);
    }

-- the row of a victim
pub sent-own : {sheet : List ℕ} {j : Job} {w h u i : ℕ} {place : Place} → i < 32 → Row j w h u place i sheet → Row (sent_back j) nobody 0 0 place i (sent_row i sheet)
unfolding sent_row
sent-own {sheet} {j} {w} {h} {u} {i} {place} l r = linked-own nobody 0 0 l own
  where
    one : List ℕ
    one = put 5 i 1 sheet

    size : length one ≡ 288
    size = length-set sheet (9 * i + 5) 1 ∙ r.size

    beside : (z m : ℕ) → m ≢ 8 → m ≢ 5 → cell m (put 8 i nobody one) z i ≡ cell m sheet z i
    beside z m a b = put-beside one z 8 i nobody m a ∙ put-beside sheet z 5 i 1 m b

    own : Row (sent_back j) w h u place i (put 8 i nobody one)
    own = record {
      size = length-set one (9 * i + 8) nobody ∙ size;
      run = beside 0 0 (λ q. omega arith) (λ q. omega arith) ∙ r.run;
      rollback = beside 0 1 (λ q. omega arith) (λ q. omega arith) ∙ r.rollback;
      hold_is = beside 0 2 (λ q. omega arith) (λ q. omega arith) ∙ r.hold_is;
      undo_is = beside 0 3 (λ q. omega arith) (λ q. omega arith) ∙ r.undo_is;
      waits_is = beside nobody 4 (λ q. omega arith) (λ q. omega arith) ∙ r.waits_is;
      rolling = ap (λ (x : ℕ). eqb x 1) (put-beside one 0 8 i nobody 5 (λ q. omega arith) ∙ put_same sheet 0 5 i 1 r.size l (omega arith));
      end = beside 0 6 (λ q. omega arith) (λ q. omega arith) ∙ r.end;
      pieces = beside 0 7 (λ q. omega arith) (λ q. omega arith) ∙ r.pieces;
      asks = put_same one nobody 8 i nobody size l (omega arith);
    }

-- row i of the jobs
abbrev pub RowOf : List Job → (ℕ → Place) → ℕ → List ℕ → Type 0
RowOf js places i = Row (job_at js i) (waits_for js i) (hold_of (job_at js (waits_for js i)) (asked js i)) (rollback_of (job_at js (waits_for js i)) (asked js i)) (places i) i

module _ {js : List Job} {places : ℕ → Place} {sheet : List ℕ} where
  pub row_of : Rows js places sheet → (i : ℕ) → i < 32 → RowOf js places i sheet
  row_of r i l = record {
    size = r.size;
    run = r.run i l;
    rollback = r.rollback i l;
    hold_is = r.hold i l;
    undo_is = r.undo i l;
    waits_is = r.waits i l;
    rolling = r.rolling i l;
    end = r.end i l;
    pieces = r.pieces i l;
    asks = r.asks i l;
  }

  pub rows_of : ((i : ℕ) → i < 32 → RowOf js places i sheet) → Rows js places sheet
  rows_of row = record {
    size = (row 0 (omega arith)).size;
    run = λ i l. (row i l).run;
    rollback = λ i l. (row i l).rollback;
    hold = λ i l. (row i l).hold_is;
    undo = λ i l. (row i l).undo_is;
    waits = λ i l. (row i l).waits_is;
    rolling = λ i l. (row i l).rolling;
    end = λ i l. (row i l).end;
    pieces = λ i l. (row i l).pieces;
    asks = λ i l. (row i l).asks;
  }
