-- A curve passes exactly when it keeps its rules.
use Rattle.std.specs.Prelude.{ℕ, zero, suc, ◌+◌, ◌-◌, ◌<◌, ◌≤◌, ◌≡◌, List, length, replicate, nat_abs}
use Rattle.std.proofs.Common.{arith, sym, ◌∙◌, inl, inr}
use Rattle.std.proofs.Math.Path.{refl}
use borrow.Author.Tests.{lt-ltb, le-ltb, le-leb, leb-true}
use Rattle.laws.specs.Count.{upto, upto-each}
use Rattle.laws.specs.Search.{lt-or-le}
use Rattle.laws.specs.Listed.{listed, listed-none, listed_next, listed_at, length-listed}
use Rattle.curve.specs.declared.Piece.{Piece}
use Rattle.curve.specs.Worth.{no_piece, line_at}
use Rattle.curve.specs.Layout.{signed_of, piece_place, piece_at, curve_at, curve_end}
use Rattle.curve.specs.Bound.{Allowed, piece_of}
use Rattle.cursor.specs.Reading.{Reading}
use Rattle.book.specs.Read.{PieceList}
use Rattle.cursor.specs.Refusal.{RANGE}
use Rattle.cursor.specs.Field.{value_at, got_at}
use Rattle.book.specs.Rules.{line_ok}
use Rattle.book.specs.Format.{start_read, piece_read, piece_next, pieces_read, end_read, curve_read}
use Rattle.accepted.specs.Fields.{Onward, Passes, onward, field-got, ruled-got, ruled-back}
use Rattle.accepted.specs.Layout.{Bytes, two_bytes, four_bytes}
use Rattle.accepted.specs.Rules.{AllowedCurve}
use Rattle.accepted.specs.SignedFields.{signed-got}

-- ---- one piece, after the piece `last`: its fields pass
pub record PiecePasses (s : List ℕ) (low : ℕ) (last : Piece) (p : ℕ) : Type 0 where
  pub start : Passes s 4 low 2147483647 p
  pub before : nat_abs (line_at last (value_at s p 4 - 1)) ≤ 1000000
  pub fits : p + 10 ≤ length s
  pub value_wide : value_at s (p + 4) 4 ≤ 4294967295
  pub value : nat_abs (signed_of 4294967295 (value_at s (p + 4) 4)) ≤ 1000000
  pub slope_wide : value_at s (p + 8) 2 ≤ 65535
  pub slope : nat_abs (signed_of 65535 (value_at s (p + 8) 2)) ≤ 1000

module _ (s : List ℕ) (low : ℕ) (last : Piece) (r : Reading) (p : ℕ) (o : Onward r p) where
  pub start-got : Passes s 4 low 2147483647 p → nat_abs (line_at last (value_at s p 4 - 1)) ≤ 1000000 → start_read s low last r ≡ got_at p 4 (value_at s p 4)
  unfolding start_read line_ok
  start-got k h = ruled-got s 4 low 2147483647 RANGE (λ v. line_ok last (v - 1)) r p o k (le-leb _ _ h)

  pub start_back : (start_read s low last r).number ≡ 0 → Passes s 4 low 2147483647 p × (nat_abs (line_at last (value_at s p 4 - 1)) ≤ 1000000)
  unfolding start_read line_ok
  start_back h = let k = ruled-back s 4 low 2147483647 RANGE (λ v. line_ok last (v - 1)) r p o (omega arith) h in (k.0, leb-true _ _ k.1)

  piece-got : PiecePasses s low last p → piece_read s low last r ≡ record { reading = got_at (p + 8) 2 (value_at s (p + 8) 2); piece = piece_at s p }
  unfolding piece_read
  piece-got k =
      let e1 = start-got k.start k.before in
      let e2 = signed-got s 4 1000000 4294967295 (omega arith) (got_at p 4 (value_at s p 4)) (p + 4) (onward refl refl) (omega arith) k.value_wide k.value in
      let e3 = signed-got s 2 1000 65535 (omega arith) (got_at (p + 4) 4 (value_at s (p + 4) 4)) (p + 8) (onward refl (omega arith)) (omega arith) k.slope_wide k.slope in
      rw (e1, e2, e3)

-- ---- the curve whose count stands at p: the piece before piece k, and the least start of piece k
abbrev pub last_of : List ℕ → ℕ → ℕ → Piece
last_of s p zero = no_piece
last_of s p (suc k) = piece_at s (piece_place p k)

abbrev pub low_of : List ℕ → ℕ → ℕ → ℕ
low_of s p zero = 0
low_of s p (suc k) = value_at s (piece_place p k) 4 + 1

-- its fields pass
pub record CurvePasses (s : List ℕ) (p : ℕ) : Type 0 where
  pub count : Passes s 1 1 8 p
  pub each : (k : ℕ) → k < value_at s p 1 → PiecePasses s (low_of s p k) (last_of s p k) (piece_place p k)
  pub end : Passes s 4 (last_of s p (value_at s p 1)).start 2147483647 (piece_place p (value_at s p 1))
  pub last : nat_abs (line_at (last_of s p (value_at s p 1)) (value_at s (piece_place p (value_at s p 1)) 4)) ≤ 1000000

-- its first m pieces are read
pub record Pieced (s : List ℕ) (p m : ℕ) (c : PieceList) : Type 0 where
  pub going : Onward c.reading (piece_place p m)
  pub count : c.count ≡ value_at s p 1
  pub pieces : c.pieces ≡ listed 8 no_piece (λ k. piece_at s (piece_place p k)) m
  pub last : c.last ≡ last_of s p m
  pub low : c.low ≡ low_of s p m

module _ (s : List ℕ) (p : ℕ) where
  -- one more
  pieced-more : (m : ℕ) (c : PieceList) → Pieced s p m c → PiecePasses s (low_of s p m) (last_of s p m) (piece_place p m) → Pieced s p (suc m) (piece_next s m c)
  unfolding piece_next
  pieced-more m c l k =
      rw (l.low, l.last, piece-got s (low_of s p m) (last_of s p m) c.reading (piece_place p m) l.going k)
      (record {
        going = onward refl (omega arith);
        count = l.count;
        pieces = rw l.pieces (sym (listed_next 8 no_piece (λ n. piece_at s (piece_place p n)) m));
        last = refl;
        low = refl;
      })

  abbrev pub list_start : PieceList
  list_start = record { reading = got_at p 1 (value_at s p 1); count = value_at s p 1; pieces = replicate 8 no_piece; last = no_piece; low = 0 }

  abbrev pub read : ℕ → PieceList
  read m = upto (piece_next s) m list_start

  pieced-first : Pieced s p 0 list_start
  pieced-first = record { going = onward refl (omega arith); count = refl; pieces = sym (listed-none 8 no_piece (λ k. piece_at s (piece_place p k))); last = refl; low = refl }

  pub pieced : ((m : ℕ) → m < value_at s p 1 → Pieced s p m (read m) → PiecePasses s (low_of s p m) (last_of s p m) (piece_place p m)) → (m : ℕ) → m ≤ value_at s p 1 → Pieced s p m (read m)
  pieced k = upto-each (Pieced s p) (piece_next s) (value_at s p 1) list_start pieced-first (λ m lt l. pieced-more m (read m) l (k m lt l))

  module _ (r : Reading) (o : Onward r p) where
    pub pieces-got : Passes s 1 1 8 p → pieces_read s r ≡ read (value_at s p 1)
    unfolding pieces_read
    pieces-got k = rw (field-got s 1 1 8 RANGE r p o k)

module _ (s : List ℕ) (last : Piece) (r : Reading) (p : ℕ) (o : Onward r p) where
  end-got : Passes s 4 last.start 2147483647 p → nat_abs (line_at last (value_at s p 4)) ≤ 1000000 → end_read s last r ≡ got_at p 4 (value_at s p 4)
  unfolding end_read line_ok
  end-got k h = ruled-got s 4 last.start 2147483647 RANGE (λ v. line_ok last v) r p o k (le-leb _ _ h)

  pub end_back : (end_read s last r).number ≡ 0 → Passes s 4 last.start 2147483647 p × (nat_abs (line_at last (value_at s p 4)) ≤ 1000000)
  unfolding end_read line_ok
  end_back h = let k = ruled-back s 4 last.start 2147483647 RANGE (λ v. line_ok last v) r p o (omega arith) h in (k.0, leb-true _ _ k.1)

-- the curve is read exactly when its fields pass
module _ (s : List ℕ) (r : Reading) (p : ℕ) (o : Onward r p) where
  pub curve-got : CurvePasses s p → curve_read s r ≡ record { reading = got_at (piece_place p (value_at s p 1)) 4 (curve_at s p).end; curve = curve_at s p }
  unfolding curve_read
  curve-got k =
      let c = read s p (value_at s p 1) in
      let l = pieced s p (λ m lt x. k.each m lt) (value_at s p 1) (omega arith) in
      rw (pieces-got s p r o k.count, l.last, l.pieces, l.count, end-got s (last_of s p (value_at s p 1)) c.reading (piece_place p (value_at s p 1)) l.going k.end k.last)

-- ---- and its fields pass exactly when the curve is allowed
pub record CurveKept (s : List ℕ) (p : ℕ) : Type 0 where
  pub fits : curve_end s p ≤ length s
  pub good : AllowedCurve (curve_at s p)

module _ (s : List ℕ) (p : ℕ) where
  piece_is : value_at s p 1 ≤ 8 → (k : ℕ) → k < value_at s p 1 → piece_of (curve_at s p) k ≡ piece_at s (piece_place p k)
  piece_is few k h = listed_at 8 no_piece (λ n. piece_at s (piece_place p n)) (value_at s p 1) k few h

  last-is : value_at s p 1 ≤ 8 → 1 ≤ value_at s p 1 → piece_of (curve_at s p) (value_at s p 1 - 1) ≡ last_of s p (value_at s p 1)
  last-is few some = piece_is few (value_at s p 1 - 1) (omega arith) ∙ before (value_at s p 1) some
    where
      before : (n : ℕ) → 1 ≤ n → piece_at s (piece_place p (n - 1)) ≡ last_of s p n
      before zero h = absurd (omega arith)
      before (suc k) h = let e : suc k - 1 ≡ k = omega arith in rw e

  curve-allowed : CurvePasses s p → Allowed (curve_at s p)
  curve-allowed k =
      let few = k.count.most in
      let some = k.count.least in
      record {
        some = some;
        few = few;
        rising = λ i h. rw (piece_is few i (omega arith), piece_is few (suc i) h) (omega (arith, (k.each (suc i) h).start.least));
        lasting = rw (last-is few some) k.end.least;
        at_start = λ i h. rw (piece_is few i h) (k.each i h).value;
        at_end = λ i h. elim (lt-or-le (suc i) (value_at s p 1)) [
          | inl l ↦ rw (lt-ltb (suc i) (value_at s p 1) l, piece_is few i h, piece_is few (suc i) l) (k.each (suc i) l).before
          | inr l ↦
              let e : i ≡ value_at s p 1 - 1 = omega arith in
              rw (le-ltb (suc i) (value_at s p 1) l, e, last-is few some) k.last
        ];
      }

  pub curve-good : CurvePasses s p → CurveKept s p
  curve-good k =
      let few = k.count.most in
      record {
        fits = k.end.fits;
        good = record {
          allowed = curve-allowed k;
          size = length-listed 8 no_piece (λ n. piece_at s (piece_place p n)) (value_at s p 1);
          soon = λ i h. rw (piece_is few i h) (k.each i h).start.most;
          gentle = λ i h. rw (piece_is few i h) (k.each i h).slope;
          end_soon = k.end.most;
        };
      }

  piece-kept : Bytes s → CurveKept s p → (k : ℕ) → k < value_at s p 1 → Passes s 4 (low_of s p k) 2147483647 (piece_place p k) → nat_abs (line_at (last_of s p k) (value_at s (piece_place p k) 4 - 1)) ≤ 1000000 → PiecePasses s (low_of s p k) (last_of s p k) (piece_place p k)
  piece-kept b c k h start before =
      let few = c.good.allowed.few in
      record {
        start = start;
        before = before;
        fits = omega (arith, c.fits);
        value_wide = four_bytes b (piece_place p k + 4);
        value = rw (piece_is few k h) at (c.good.allowed.at_start k h);
        slope_wide = two_bytes b (piece_place p k + 8);
        slope = rw (piece_is few k h) at (c.good.gentle k h);
      }

  start-kept : CurveKept s p → (k : ℕ) → k < value_at s p 1 → Passes s 4 (low_of s p k) 2147483647 (piece_place p k) × (nat_abs (line_at (last_of s p k) (value_at s (piece_place p k) 4 - 1)) ≤ 1000000)
  start-kept c zero h =
      let few = c.good.allowed.few in
      (record { fits = omega (arith, c.fits); least = omega arith; most = rw (piece_is few 0 h) at (c.good.soon 0 h) }, omega arith)
  start-kept c (suc k) h =
      let few = c.good.allowed.few in
      let l : k < value_at s p 1 = omega arith in (
        record {
          fits = omega (arith, c.fits);
          least = omega (arith, rw (piece_is few k l, piece_is few (suc k) h) at (c.good.allowed.rising k h));
          most = rw (piece_is few (suc k) h) at (c.good.soon (suc k) h);
        },
        rw (lt-ltb (suc k) (value_at s p 1) h, piece_is few k l, piece_is few (suc k) h) at (c.good.allowed.at_end k l),
      )

  pub curve-passes : Bytes s → CurveKept s p → CurvePasses s p
  curve-passes b c =
      let few = c.good.allowed.few in
      let some = c.good.allowed.some in
      let n = value_at s p 1 in
      let e : suc (n - 1) ≡ n = omega arith in
      let at_last = c.good.allowed.at_end (n - 1) (omega arith) in
      record {
        count = record { fits = omega (arith, c.fits); least = some; most = few };
        each = λ k h. let z = start-kept c k h in piece-kept b c k h z.0 z.1;
        end = record { fits = c.fits; least = rw (last-is few some) at c.good.allowed.lasting; most = c.good.end_soon };
        last = rw (le-ltb (suc (n - 1)) n (omega arith), last-is few some) at at_last;
      }
