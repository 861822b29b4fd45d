-- `book::pieces::pieces_judged` meets its contract.
use Prim.Native.Nat.{ℕ, ◌+◌, ◌<◌}
use native.Mathlib.Omega.{arith}
use mathlib.Core.Path.{◌≡◌, refl, ap, sym, ◌∙◌}
use mathlib.Core.List.{List}
use lib.ListN.{replicate}
use Rattle.std.specs.Prelude.{Err, Ok}
use Rattle.laws.specs.Count.{upto}
use Rattle.curve.specs.declared.Piece.{Piece}
use Rattle.curve.specs.Worth.{no_piece}
use Rattle.cursor.specs.Reading.{Reading}
use Rattle.cursor.specs.declared.FieldRead.{FieldRead}
use Rattle.cursor.specs.declared.Refusal.{Refusal}
use Rattle.cursor.specs.Refusal.{RANGE}
use Rattle.cursor.specs.Field.{field_of}
use Rattle.cursor.specs.Step.{stands_at}
use Rattle.cursor.specs.Answer.{got, Refused}
use Rattle.cursor.proofs.Says.{field-says, at_ok, at_err}
use Rattle.book.specs.Read.{PieceList}
use Rattle.book.specs.Format.{start_read, piece_read, piece_next, pieces_read}
use Rattle.book.specs.Judging.{PieceJudged, PiecesJudged, pieces_seen, judge-begin, judge-next, judge-ended}
use Rattle.book.proofs.Stops.{by-err, upto-stays, upto-stops, pieces-stay}
use Rattle.book.proofs.pieces.pieces_judged.Goals as goal

-- the lines of `pieces_read`, each said of what the code has read by then
module _ (s : List ℕ) (at : ℕ) where
  abbrev count_read : Reading
  count_read = field_of s 1 1 8 RANGE (stands_at at)

  by-count : {d : Refusal} → Refused count_read d → PiecesJudged s at (Err d)
  unfolding pieces_read
  by-count met = upto-stays (piece_next s) (λ c. c.reading) (pieces-stay s) _ _ met

  -- a piece after a field that was read
  piece-after : (low : ℕ) (last : Piece) (read : FieldRead) → piece_read s low last (got read) ≡ piece_read s low last (stands_at read.next)
  unfolding piece_read start_read field_of
  piece-after low last read = refl

  piece-stops : (i : ℕ) {read : FieldRead} {last : Piece} {low : ℕ} {d : Refusal} → Refused (piece_read s low last (stands_at read.next)).reading d → (c : PieceList) → (got read, last, low) ≡ pieces_seen c → Refused (piece_next s i c).reading d
  unfolding piece_next
  piece-stops i {read} {last} {low} met c seen = (ap (λ v. (piece_read s v.2 v.1 v.0).reading) (sym seen) ∙ ap (λ x. x.reading) (piece-after low last read) ∙ met.0, met.1)

  next-piece : (i : ℕ) {read o : FieldRead} {last p : Piece} {low : ℕ} → PieceJudged s low last read.next (Ok (p, o)) → (c : PieceList) → (got read, last, low) ≡ pieces_seen c → (got o, p, p.start + 1) ≡ pieces_seen (piece_next s i c)
  unfolding piece_next
  next-piece i {read} {o} {last} {p} {low} j c seen =
      (λ k. ((sym j.0) k, (sym j.1) k, ((sym j.1) k).start + 1))
      ∙ (λ k. let x = sym (piece-after low last read) k in (x.reading, x.piece, x.piece.start + 1))
      ∙ ap (λ v. let x = piece_read s v.2 v.1 v.0 in (x.reading, x.piece, x.piece.start + 1)) seen

  module _ {f : FieldRead} (count : count_read ≡ got f) where
    abbrev begun : PieceList
    begun = record { reading = got f; count = f.value; pieces = replicate 8 no_piece; last = no_piece; low = 0 }

    by-piece : (i : ℕ) {d : Refusal} → i < f.value → Refused (piece_next s i (upto (piece_next s) i begun)).reading d → PiecesJudged s at (Err d)
    unfolding pieces_read
    by-piece i h met = rw count (upto-stops (piece_next s) (λ c. c.reading) (pieces-stay s) i f.value begun h met)

    ended : {read : FieldRead} {last : Piece} {low : ℕ} → (got read, last, low) ≡ pieces_seen (upto (piece_next s) f.value begun) → PiecesJudged s at (Ok (last, read))
    unfolding pieces_read
    ended seen = rw count (ap (λ v. v.0) (sym seen), ap (λ v. v.1) (sym seen))

pub returns-in_err-count : goal.returns-in_err-count
returns-in_err-count c =
    let a = c.args in
    rw (by-err _ c.from_residual.ensures.1) (by-count a.s.now a.at (at_err 8 (field-says a.s.now 1 1 8 RANGE (omega arith) a.at c.field.ensures) c.in_err-count.was))

pub loop-init : goal.loop-init
loop-init c = judge-begin

pub loop-preserved : goal.loop-preserved
loop-preserved c = judge-next c.loop.invariant c.loop-test.true (next-piece c.args.s.now c.args.at _ c.in_ok-last.ensures)

pub returns-in_err-last : goal.returns-in_err-last
returns-in_err-last c =
    let a = c.args in
    let count = (at_ok 8 (field-says a.s.now 1 1 8 RANGE (omega arith) a.at c.field.ensures) c.in_ok-count.was).0 in
    rw (by-err _ c.from_residual-in_err-last.ensures.1)
    (by-piece a.s.now a.at count c.loop.counter c.loop-test.true (piece-stops a.s.now a.at c.loop.counter c.in_err-last.ensures _ c.loop.invariant.so_far))

pub returns : goal.returns
returns c =
    let a = c.args in
    let count = (at_ok 8 (field-says a.s.now 1 1 8 RANGE (omega arith) a.at c.field.ensures) c.in_ok-count.was).0 in
    ended a.s.now a.at count (judge-ended c.loop.invariant c.loop-test.false)
