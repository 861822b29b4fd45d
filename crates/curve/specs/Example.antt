-- A curve worked out: from 10 on it falls from 100 by 2 a millisecond, from 20 on it rises from 7 by 1, and it ends at 30.
use Rattle.std.specs.Prelude.{◌≡◌, refl, true, false, List, [], ◌∷◌, map, ℕ, zero, suc, ◌<◌, pos, negsuc, take, replicate, None, Some}
use Rattle.std.proofs.Common.{arith}
use Rattle.laws.specs.Count.{upto}
use Rattle.laws.specs.Listed.{listed}
use Rattle.cursor.specs.Field.{value_at}
use Rattle.curve.specs.Curve.{Curve}
use Rattle.curve.specs.Worth.{no_piece, line_at, worth_in, worth_at, defined, amount}
use Rattle.curve.specs.Layout.{signed_of, curve_at}
use Rattle.curve.specs.Question.{stands_at, worth_from}
use Rattle.curve.specs.Before.{worth_back, worth_before}
use Rattle.curve.specs.Bound.{InRange, piece_of, end_of, Allowed}

abbrev sample : Curve
sample = record {
  pieces = record { start = 10; value = pos 100; slope = negsuc 1 } ∷ record { start = 20; value = pos 7; slope = pos 1 } ∷ replicate 6 no_piece;
  count = 2;
  end = 30;
}

-- before the first start, at it, inside, 1 ms before the next start, at it, at termination, after it
sample-worth : map (worth_at sample) (9 ∷ 10 ∷ 13 ∷ 19 ∷ 20 ∷ 30 ∷ 31 ∷ []) ≡ None ∷ Some (pos 100) ∷ Some (pos 94) ∷ Some (pos 82) ∷ Some (pos 7) ∷ Some (pos 17) ∷ None ∷ []
unfolding worth_at worth_in
sample-worth = refl

-- none is not a worth of 0, and where it has to be a number it counts as 0
none-is-not-zero : map defined (None ∷ Some (pos 0) ∷ Some (negsuc 4) ∷ []) ≡ false ∷ true ∷ true ∷ []
none-is-not-zero = refl

none-counts : map amount (None ∷ Some (pos 0) ∷ Some (negsuc 4) ∷ []) ≡ pos 0 ∷ pos 0 ∷ negsuc 4 ∷ []
none-counts = refl

-- the rules allow it
sample-allowed : Allowed sample
sample-allowed = record {
  some = omega arith;
  few = omega arith;
  rising = rising;
  lasting = omega arith;
  at_start = at_start;
  at_end = at_end;
}
  where
    rising : (i : ℕ) → suc i < 2 → (piece_of sample i).start < (piece_of sample (suc i)).start
    rising zero l = omega arith
    rising (suc i) l = absurd (omega arith)

    at_start : (i : ℕ) → i < 2 → InRange (piece_of sample i).value
    at_start zero l = omega arith
    at_start (suc zero) l = omega arith
    at_start (suc (suc i)) l = absurd (omega arith)

    at_end : (i : ℕ) → i < 2 → InRange (line_at (piece_of sample i) (end_of sample i))
    at_end zero l = omega arith
    at_end (suc zero) l = omega arith
    at_end (suc (suc i)) l = absurd (omega arith)

-- the same curve in bytes, after two bytes that are not its own
abbrev bytes : List ℕ
bytes =
    7 ∷ 7 ∷ 2
    ∷ 0 ∷ 0 ∷ 0 ∷ 10 ∷ 0 ∷ 0 ∷ 0 ∷ 100 ∷ 255 ∷ 254
    ∷ 0 ∷ 0 ∷ 0 ∷ 20 ∷ 0 ∷ 0 ∷ 0 ∷ 7 ∷ 0 ∷ 1
    ∷ 0 ∷ 0 ∷ 0 ∷ 30 ∷ []

stands-there : curve_at bytes 2 ≡ sample
unfolding listed upto value_at signed_of
stands-there = refl

-- asked where it stands, a byte too early (a count of 7, which the bytes are too few for), past the end; and cut by a byte
asked : map (λ p. worth_from bytes p 13) (2 ∷ 1 ∷ 27 ∷ []) ≡ Some (pos 94) ∷ None ∷ None ∷ []
unfolding worth_from stands_at worth_at worth_in listed upto value_at signed_of
asked = refl

cut : worth_from (take 26 bytes) 2 13 ≡ None
unfolding worth_from stands_at worth_at worth_in listed upto value_at signed_of
cut = refl

-- asked at its termination with both its pieces, with the last alone, with none; and a byte too far on, where it is cut
asked-back : map (λ n. worth_before bytes 23 n 13) (2 ∷ 1 ∷ 0 ∷ []) ≡ Some (pos 94) ∷ None ∷ None ∷ []
unfolding worth_before worth_back value_at signed_of
asked-back = refl

cut-back : worth_before bytes 24 2 13 ≡ None
unfolding worth_before worth_back value_at signed_of
cut-back = refl

-- and where the bytes begin before its pieces do
short_back : worth_before bytes 3 1 0 ≡ None
unfolding worth_before worth_back value_at signed_of
short_back = refl
