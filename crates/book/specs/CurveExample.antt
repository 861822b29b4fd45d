-- The bytes of one curve asked for their worth, computed.
use Rattle.std.specs.Prelude.{ℕ, ◌≡◌, refl, List, [], ◌∷◌, ◌++◌, map, pos, negsuc, take, None, Some}
use Rattle.laws.specs.Count.{upto}
use Rattle.laws.specs.Listed.{listed}
use Rattle.cursor.specs.Refusal.{CUT, RANGE, TAIL}
use Rattle.cursor.specs.Field.{value_at, judged, read_at, field_of, rule_of}
use Rattle.curve.specs.Worth.{worth_in, worth_at}
use Rattle.curve.specs.Layout.{signed_of}
use Rattle.curve.specs.Question.{stands_at, worth_from}
use Rattle.book.specs.Rules.{around_ok, line_ok}
use Rattle.book.specs.Format.{start_read, signed_read, piece_read, piece_next, pieces_read, end_read, curve_read, tail_read}
use Rattle.book.specs.CurveWorth.{curve_worth}

-- from 10 on it falls from 5 by 2 a millisecond, and it ends at 20
abbrev falling : List ℕ
falling = 1 ∷ 0 ∷ 0 ∷ 0 ∷ 10 ∷ 0 ∷ 0 ∷ 0 ∷ 5 ∷ 255 ∷ 254 ∷ 0 ∷ 0 ∷ 0 ∷ 20 ∷ []

-- before the start, at it, inside, at termination, after it
worths : map (λ t. (curve_worth falling t).worth) (9 ∷ 10 ∷ 13 ∷ 20 ∷ 21 ∷ []) ≡ None ∷ Some (pos 5) ∷ Some (negsuc 0) ∷ Some (negsuc 14) ∷ None ∷ []
unfolding curve_worth curve_read pieces_read piece_next piece_read start_read signed_read end_read tail_read field_of rule_of read_at judged value_at upto around_ok line_ok signed_of worth_from stands_at worth_at worth_in listed
worths = refl

unfoldable told : List ℕ → List ℕ
told s = let w = curve_worth s 13 in w.number ∷ w.place ∷ []

-- the curve itself; no bytes; no piece; nine pieces; a last byte that is missing; one too many; a termination before the start
refusals : map told (falling ∷ [] ∷ (0 ∷ []) ∷ (9 ∷ []) ∷ take 14 falling ∷ (falling ++ (7 ∷ [])) ∷ (take 14 falling ++ (9 ∷ [])) ∷ [])
    ≡ (0 ∷ 0 ∷ []) ∷ (CUT ∷ 0 ∷ []) ∷ (RANGE ∷ 0 ∷ []) ∷ (RANGE ∷ 0 ∷ []) ∷ (CUT ∷ 11 ∷ []) ∷ (TAIL ∷ 15 ∷ []) ∷ (RANGE ∷ 11 ∷ []) ∷ []
unfolding told curve_worth curve_read pieces_read piece_next piece_read start_read signed_read end_read tail_read field_of rule_of read_at judged value_at upto around_ok line_ok signed_of
refusals = refl
