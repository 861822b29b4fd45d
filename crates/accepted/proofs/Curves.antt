-- What rests on specs/Curves.antt.
use Rattle.std.specs.Prelude.{ℕ, suc, ◌+◌, ◌<◌, ◌≡◌, List}
use Rattle.std.proofs.Common.{arith}
use Rattle.std.proofs.Math.Path.{refl}
use Rattle.laws.specs.Count.{upto}
use Rattle.curve.specs.declared.Piece.{Piece}
use Rattle.curve.specs.Layout.{piece_place}
use Rattle.cursor.specs.Reading.{Reading}
use Rattle.book.specs.Read.{PieceList}
use Rattle.cursor.specs.Refusal.{RANGE}
use Rattle.cursor.specs.Field.{value_at, got_at}
use Rattle.book.specs.Format.{start_read, signed_read, piece_read, piece_next, pieces_read, curve_read}
use Rattle.accepted.specs.Fields.{Onward, Passes, onward, field_back}
use Rattle.accepted.specs.Sticks.{unrefused-before, loop-sticks, loop-sticks-all}
use Rattle.accepted.proofs.Sticks.{signed-sticks, end-sticks}
use Rattle.accepted.proofs.Sticks.{piece-next-sticks}
use Rattle.accepted.specs.SignedFields.{signed-got, signed_back}
use Rattle.accepted.specs.Curves.{CurvePasses, PiecePasses, Pieced, end_back, last_of, list_start, low_of, pieced, pieces-got, read, start-got, start_back}

module _ (s : List ℕ) (low : ℕ) (last : Piece) (r : Reading) (p : ℕ) (o : Onward r p) where
  piece_back : (piece_read s low last r).reading.number ≡ 0 → PiecePasses s low last p
  unfolding piece_read
  piece_back h =
      let a = start_read s low last r in
      let b = signed_read s 4 1000000 4294967295 a in
      let hb : b.number ≡ 0 = unrefused-before (signed-sticks s 2 1000 65535 b) h in
      let ha : a.number ≡ 0 = unrefused-before (signed-sticks s 4 1000000 4294967295 a) hb in
      let k1 = (start_back s low last r p o) ha in
      let e1 = (start-got s low last r p o) k1.0 k1.1 in
      let k2 = signed_back s 4 1000000 4294967295 (omega arith) (got_at p 4 (value_at s p 4)) (p + 4) (onward refl refl) (rw e1 at hb) in
      let e2 = signed-got s 4 1000000 4294967295 (omega arith) (got_at p 4 (value_at s p 4)) (p + 4) (onward refl refl) k2.0 k2.1 k2.2 in
      let k3 = signed_back s 2 1000 65535 (omega arith) (got_at (p + 4) 4 (value_at s (p + 4) 4)) (p + 8) (onward refl (omega arith)) (rw (e1, e2) at h) in
      record { start = k1.0; before = k1.1; fits = omega (arith, k3.0); value_wide = k2.1; value = k2.2; slope_wide = k3.1; slope = k3.2 }

module _ (s : List ℕ) (p : ℕ) where
  -- a piece passes where the reading goes on after it
  piece-passes : ((read s p) (value_at s p 1)).reading.number ≡ 0 → (m : ℕ) → m < value_at s p 1 → Pieced s p m ((read s p) m) → PiecePasses s (low_of s p m) (last_of s p m) (piece_place p m)
  unfolding upto piece_next
  piece-passes h m lt l =
      let g = unrefused-before (loop-sticks (λ (x : PieceList). x.reading) (piece_next s) (piece-next-sticks s) (list_start s p) (suc m) (value_at s p 1) lt) h in
      piece_back s (low_of s p m) (last_of s p m) ((read s p) m).reading (piece_place p m) l.going (rw (l.low, l.last) at g)

  module _ (r : Reading) (o : Onward r p) where
    pieces-back : (pieces_read s r).reading.number ≡ 0 → Passes s 1 1 8 p
    unfolding pieces_read
    pieces-back h = field_back s 1 1 8 RANGE r p o (omega arith) (unrefused-before (loop-sticks-all (λ (x : PieceList). x.reading) (piece_next s) (piece-next-sticks s) _ _) h)

-- the curve is read exactly when its fields pass
module _ (s : List ℕ) (r : Reading) (p : ℕ) (o : Onward r p) where
  pub curve-back : (curve_read s r).reading.number ≡ 0 → CurvePasses s p
  unfolding curve_read
  curve-back h =
      let n = value_at s p 1 in
      let c = pieces_read s r in
      let hc : c.reading.number ≡ 0 = unrefused-before (end-sticks s c.last c.reading) h in
      let k = pieces-back s p r o hc in
      let e = pieces-got s p r o k in
      let each = piece-passes s p (rw e at hc) in
      let l = pieced s p each n (omega arith) in
      let z = end_back s (last_of s p n) (read s p n).reading (piece_place p n) l.going (rw (e, l.last) at h) in
      record { count = k; each = λ m lt. each m lt (pieced s p each m (omega arith)); end = z.0; last = z.1 }
