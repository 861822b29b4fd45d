-- What bytes that are no curve are refused with: CUT, RANGE or TAIL, at a place in those bytes, or at most their end for CUT.
use Rattle.std.specs.Prelude.{ℕ, ◌-◌, ◌<◌, ◌≡◌, refl, Bool, true, false, cond, List, ltb, length}
use Rattle.std.proofs.Common.{arith, lt-ltb, le-ltb}
use Rattle.std.proofs.Math.Logic.{inl, inr}
use Rattle.laws.specs.Count.{upto-each}
use Rattle.laws.specs.Search.{lt-or-le}
use Rattle.cursor.specs.Reading.{Reading}
use Rattle.cursor.specs.Refusal.{CUT, RANGE, TAIL}
use Rattle.cursor.specs.Field.{value_at, judged, read_at, refused_at, got_at, field_of, rule_of}
use Rattle.book.specs.Read.{PieceList}
use Rattle.book.specs.Format.{start_read, signed_read, piece_read, piece_next, pieces_read, end_read, curve_read, tail_read}
use Rattle.book.specs.CurveWorth.{alone_read, curve_worth}

pub data CurveRefusal (number : ℕ) : Type 0 where
  cut : number ≡ CUT → CurveRefusal number
  range : number ≡ RANGE → CurveRefusal number
  tail : number ≡ TAIL → CurveRefusal number

-- a reading that is refused, if at all, with one of these
record Told (r : Reading) : Type 0 where
  number : 0 < r.number → CurveRefusal r.number

either-told : (b : Bool) {x y : Reading} → Told x → Told y → Told (cond b x y)
either-told true p q = p
either-told false p q = q

refused-told : {number place : ℕ} → CurveRefusal number → Told (refused_at number place)
refused-told c = record { number = λ l. c }

again-told : {r : Reading} {place : ℕ} → Told r → Told (refused_at r.number place)
again-told k = record { number = k.number }

module _ (s : List ℕ) (n low high : ℕ) (r : Reading) where
  field_told : Told r → Told (field_of s n low high RANGE r)
  unfolding field_of read_at judged
  field_told k =
      let out : Told (refused_at RANGE r.next) = refused-told (range refl) in
      let short : Told (refused_at CUT r.next) = refused-told (cut refl) in
      either-told (ltb 0 r.number) (again-told {r = r} k)
      (either-told (ltb (length s) n) short
      (either-told (ltb (length s - n) r.next) short
      (either-told (ltb (value_at s r.next n) low) out
      (either-told (ltb high (value_at s r.next n)) out (record { number = λ l. absurd (omega arith) })))))

rule_told : (ok : Bool) (number place : ℕ) (r : Reading) → CurveRefusal number → Told r → Told (rule_of ok number place r)
unfolding rule_of
rule_told ok number place r c k = either-told (ltb 0 r.number) (again-told {r = r} k) (either-told ok k (refused-told c))

-- a field, and a rule on it
ruled-told : (s : List ℕ) (n low high : ℕ) (ok : Bool) (r : Reading) → Told r → let a = field_of s n low high RANGE r in Told (rule_of ok RANGE a.place a)
ruled-told s n low high ok r k = let a = field_of s n low high RANGE r in rule_told ok RANGE a.place a (range refl) (field_told s n low high r k)

module _ (s : List ℕ) where
  piece-told : (i : ℕ) (c : PieceList) → Told c.reading → Told (piece_next s i c).reading
  unfolding piece_next piece_read start_read signed_read
  piece-told i c k = ruled-told s 2 0 65535 _ _ (ruled-told s 4 0 4294967295 _ _ (ruled-told s 4 c.low 2147483647 _ c.reading k))

  pieces-told : (r : Reading) → Told r → Told (pieces_read s r).reading
  unfolding pieces_read
  pieces-told r k =
      let n = (field_of s 1 1 8 RANGE r).value in
      upto-each (λ (i : ℕ) (c : PieceList). Told c.reading) (piece_next s) n _ (field_told s 1 1 8 r k) (λ m h z. piece-told m _ z) n (omega arith)

  alone-told : Told (alone_read s)
  unfolding curve_read end_read tail_read
  alone-told = rule_told _ TAIL _ _ (tail refl) (ruled-told s 4 _ 2147483647 _ _ (pieces-told (got_at 0 0 0) (record { number = λ l. absurd (omega arith) })))

  module _ (t : ℕ) where
    -- THE NUMBER OF A REFUSAL
    pub curve-refusal : 0 < (curve_worth s t).number → CurveRefusal (curve_worth s t).number
    unfolding curve_worth
    curve-refusal h = elim (lt-or-le 0 (alone_read s).number) [
      | inl l ↦ rw (lt-ltb 0 (alone_read s).number l) (alone-told.number l)
      | inr l ↦ absurd (omega (arith, rw (le-ltb 0 (alone_read s).number l) at h))
    ]
