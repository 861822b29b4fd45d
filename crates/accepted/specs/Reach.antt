-- How far a refusal of the reader goes: its number is at most 9, and its place lies in the 9 bytes of the header and at most 256 of each record.
use Rattle.std.specs.Prelude.{ℕ, suc, ◌+◌, ◌*◌, ◌-◌, ◌≤◌, ◌≡◌, refl, Bool, true, false, cond, List, length, ltb, leb, eqb}
use native.Mathlib.Omega.{arith}
use Rattle.std.proofs.Common.{ltb-false}
use Rattle.laws.specs.Count.{upto, upto-each}
use Rattle.cursor.specs.Reading.{Reading, HeaderRead}
use Rattle.book.specs.Read.{Book, HeldList, PieceList, Records, CurveWorth}
use Rattle.cursor.specs.Refusal.{SIZE, VERSION, COUNT, RANGE, TWICE, MODE, TAIL}
use Rattle.cursor.specs.Field.{value_at, judged, read_at, refused_at, got_at, field_of, rule_of}
use Rattle.book.specs.Rules.{rollback_ok, request_ok, around_ok, line_ok}
use Rattle.cursor.specs.Header.{header_of}
use Rattle.cursor.specs.Outcome.{by-test}
use Rattle.book.specs.Format.{rollback_read, requested_resource, requested_rollback, request_read, unheld_read, held_resource, entry_read, entry_next, held_read, start_read, signed_read, piece_read, piece_next, pieces_read, end_read, curve_read, record_read, record_next, records_read, no_records, tail_read, book_of, refused_book, accepted_book}
use Rattle.book.specs.CurveWorth.{alone_read, curve_worth}
use Rattle.accepted.specs.Fields.{ruled_of}

-- a reading within the first m bytes
record Reaches (m : ℕ) (r : Reading) : Type 0 where
  number : r.number ≤ 9
  place : r.place ≤ m
  next : r.next ≤ m

reaches_more : {j k : ℕ} {r : Reading} → j ≤ k → Reaches j r → Reaches k r
reaches_more h g = record { number = g.number; place = omega arith; next = omega arith }

refused-reaches : {m number place : ℕ} → number ≤ 9 → place ≤ m → Reaches m (refused_at number place)
refused-reaches c h = record { number = c; place = h; next = omega arith }

either-reaches : {m : ℕ} (b : Bool) {x y : Reading} → Reaches m x → Reaches m y → Reaches m (cond b x y)
either-reaches true p q = p
either-reaches false p q = q

module _ (s : List ℕ) (n low high number : ℕ) {m : ℕ} {r : Reading} where
  field_reaches : number ≤ 9 → Reaches m r → Reaches (m + n) (field_of s n low high number r)
  unfolding field_of read_at judged
  field_reaches c g =
      let cut : Reaches (m + n) (refused_at 5 r.next) = refused-reaches (omega arith) (omega arith) in
      let out : Reaches (m + n) (refused_at number r.next) = refused-reaches c (omega arith) in
      either-reaches (ltb 0 r.number) (refused-reaches g.number (omega arith))
      (either-reaches (ltb (length s) n) cut
      (either-reaches (ltb (length s - n) r.next) cut
      (either-reaches (ltb (value_at s r.next n) low) out
      (either-reaches (ltb high (value_at s r.next n)) out
      (record { number = omega arith; place = omega arith; next = omega arith })))))

rule-reaches : (ok : Bool) (number place : ℕ) {m : ℕ} {r : Reading} → number ≤ 9 → place ≤ m → Reaches m r → Reaches m (rule_of ok number place r)
unfolding rule_of
rule-reaches ok number place {m} {r} c h g =
    either-reaches (ltb 0 r.number) (refused-reaches g.number g.place) (either-reaches ok g (refused-reaches c h))

ruled-reaches : (s : List ℕ) (n low high number : ℕ) (ok : ℕ → Bool) {m : ℕ} {r : Reading} → number ≤ 9 → Reaches m r → Reaches (m + n) (ruled_of s n low high number ok r)
ruled-reaches s n low high number ok {m} {r} c g =
    let a = field_reaches s n low high number c g in
    rule-reaches (ok (field_of s n low high number r).value) number (field_of s n low high number r).place c a.place a

-- a field's value is at most its bound, and a refused one is 0
record Most (high : ℕ) (r : Reading) : Type 0 where
  value : r.value ≤ high

either-most : {high : ℕ} (b : Bool) {x y : Reading} → Most high x → Most high y → Most high (cond b x y)
either-most true p q = p
either-most false p q = q

field-most : (s : List ℕ) (n low high number : ℕ) (r : Reading) → Most high (field_of s n low high number r)
unfolding field_of read_at judged
field-most s n low high number r =
    either-most (ltb 0 r.number) none
    (either-most (ltb (length s) n) none
    (either-most (ltb (length s - n) r.next) none
    (either-most (ltb (value_at s r.next n) low) none
    (got (ltb high (value_at s r.next n)) refl))))
  where
    none : {number place : ℕ} → Most high (refused_at number place)
    none = record { value = omega arith }

    got : (b : Bool) → ltb high (value_at s r.next n) ≡ b → Most high (cond b (refused_at number r.next) (got_at r.next n (value_at s r.next n)))
    got true e = none
    got false e = record { value = ltb-false high (value_at s r.next n) e }

-- a loop whose turns take at most `step` bytes each
loop-reaches : {B : Type 0} (g : B → Reading) (f : ℕ → B → B) (step : ℕ) {m : ℕ} → ((i k : ℕ) (x : B) → Reaches k (g x) → Reaches (k + step) (g (f i x))) → (n : ℕ) (b : B) → Reaches m (g b) → Reaches (m + step * n) (g (upto f n b))
loop-reaches {B} g f step {m} turn n b k =
    upto-each (λ (i : ℕ) (x : B). Reaches (m + step * i) (g x)) f n b (reaches_more (omega arith) k)
    (λ i h z. reaches_more (grown i) (turn i (m + step * i) (upto f i b) z)) n (omega arith)
  where
    grown : (i : ℕ) → m + step * i + step ≤ m + step * suc i
    grown i = omega arith

-- ---- the stages of the format, in book order
rollback-reaches : (s : List ℕ) {m : ℕ} {r : Reading} → Reaches m r → Reaches (m + 2) (rollback_read s r)
unfolding rollback_read
rollback-reaches s k = ruled-reaches s 2 1 65535 RANGE rollback_ok (omega arith) k

request-reaches : (s : List ℕ) (resources run : ℕ) {m : ℕ} {r : Reading} → Reaches m r → Reaches (m + 1 + 2 + 2) (request_read s resources run r).reading
unfolding request_read requested_resource requested_rollback
request-reaches s resources run k =
    ruled-reaches s 2 _ _ RANGE rollback_ok (omega arith)
    (field_reaches s 2 _ _ RANGE (omega arith)
    (ruled-reaches s 1 0 255 RANGE (λ v. request_ok v resources) (omega arith) k))

held-resource-reaches : (s : List ℕ) (resources : ℕ) (holders : List ℕ) {m : ℕ} {r : Reading} → Reaches m r → Reaches (m + 1) (held_resource s resources holders r)
unfolding held_resource unheld_read
held-resource-reaches s resources holders k =
    let a = ruled-reaches s 1 0 255 RANGE (λ v. ltb v resources) (omega arith) k in
    rule-reaches _ TWICE _ (omega arith) a.place a

module _ (s : List ℕ) (job resources run rollback : ℕ) where
  entry-reaches : (i m : ℕ) (h : HeldList) → Reaches m h.reading → Reaches (m + 5) (entry_next s job resources run rollback i h).reading
  unfolding entry_next entry_read
  entry-reaches i m h k =
      reaches_more (omega arith)
      (field_reaches s 2 _ _ RANGE (omega arith)
      (field_reaches s 2 _ _ RANGE (omega arith)
      (held-resource-reaches s resources h.holders k)))

  held-reaches : (holders : List ℕ) {m : ℕ} {r : Reading} → Reaches m r → Reaches (m + 161) (held_read s job resources run rollback holders r).reading
  unfolding held_read
  held-reaches holders {m} {r} k =
      reaches_more (omega (arith, (field-most s 1 0 32 RANGE r).value))
      (loop-reaches (λ (x : HeldList). x.reading) (entry_next s job resources run rollback) 5 entry-reaches _ _ (field_reaches s 1 0 32 RANGE (omega arith) k))

piece-reaches : (s : List ℕ) (i m : ℕ) (c : PieceList) → Reaches m c.reading → Reaches (m + 10) (piece_next s i c).reading
unfolding piece_next piece_read start_read signed_read
piece-reaches s i m c k =
    reaches_more (omega arith)
    (ruled-reaches s 2 _ _ RANGE (λ v. around_ok v 1000 65535) (omega arith)
    (ruled-reaches s 4 _ _ RANGE (λ v. around_ok v 1000000 4294967295) (omega arith)
    (ruled-reaches s 4 _ _ RANGE (λ v. line_ok c.last (v - 1)) (omega arith) k)))

pieces-reaches : (s : List ℕ) {m : ℕ} {r : Reading} → Reaches m r → Reaches (m + 81) (pieces_read s r).reading
unfolding pieces_read
pieces-reaches s {m} {r} k =
    reaches_more (omega (arith, (field-most s 1 1 8 RANGE r).value))
    (loop-reaches (λ (x : PieceList). x.reading) (piece_next s) 10 (piece-reaches s) _ _ (field_reaches s 1 1 8 RANGE (omega arith) k))

curve-reaches : (s : List ℕ) {m : ℕ} {r : Reading} → Reaches m r → Reaches (m + 81 + 4) (curve_read s r).reading
unfolding curve_read end_read
curve-reaches s {m} {r} k = ruled-reaches s 4 (pieces_read s r).last.start 2147483647 RANGE (λ v. line_ok (pieces_read s r).last v) (omega arith) (pieces-reaches s k)

record-reaches : (s : List ℕ) (resources i m : ℕ) (b : Records) → Reaches m b.reading → Reaches (m + 256) (record_next s resources i b).reading
unfolding record_next record_read
record-reaches s resources i m b k =
    rule-reaches _ MODE _ (omega arith) (omega arith)
    (reaches_more (omega arith)
    (curve-reaches s
    (held-reaches s i resources _ _ b.holders
    (request-reaches s resources _
    (rollback-reaches s
    (field_reaches s 2 1 60000 RANGE (omega arith)
    (field_reaches s 1 0 1 RANGE (omega arith) k)))))))

header-reaches : (s : List ℕ) → Reaches 9 (header_of s).reading
unfolding header_of
header-reaches s =
    reaches_more (omega arith)
    (field_reaches s 4 _ _ RANGE (omega arith)
    (field_reaches s 1 _ _ COUNT (omega arith)
    (field_reaches s 1 _ _ COUNT (omega arith)
    (field_reaches s 1 _ _ VERSION (omega arith)
    (field_reaches s 2 _ _ SIZE (omega arith)
    (rule-reaches (leb 9 (length s)) SIZE 0 {m = 0} {r = got_at 0 0 0} (omega arith) (omega arith) (record { number = omega arith; place = omega arith; next = omega arith })))))))

header-jobs : (s : List ℕ) → (header_of s).jobs ≤ 32
unfolding header_of
header-jobs s = (field-most s 1 0 32 COUNT _).value

-- THE REACH OF A REFUSAL, whatever the bytes
pub record Near (b : Book) : Type 0 where
  pub number : b.number ≤ 9
  pub place : b.place ≤ 8201

near-refused : {number place : ℕ} → number ≤ 9 → place ≤ 8201 → Near (refused_book number place)
unfolding refused_book
near-refused c h = record { number = c; place = h }

near-accepted : (h : HeaderRead) (b : Records) → Near (accepted_book h b)
unfolding accepted_book
near-accepted h b = record { number = omega arith; place = omega arith }

pub refusal-near : (s : List ℕ) → Near (book_of s)
unfolding book_of records_read no_records tail_read
refusal-near s =
    let h = header_of s in
    let b = records_read s h.jobs h.resources h.reading in
    let last = tail_read s b.reading in
    let read = loop-reaches (λ (x : Records). x.reading) (record_next s h.resources) 256 (record-reaches s h.resources) h.jobs (no_records h.reading) (header-reaches s) in
    let end = rule-reaches (eqb b.reading.next (length s)) TAIL b.reading.next (omega arith) read.next read in
    by (ltb 0 last.number) (near-refused end.number (omega (arith, end.place, header-jobs s))) (near-accepted h b)
  where
    by : (b : Bool) {x y : Book} → Near x → Near y → Near (cond b x y)
    by true p q = p
    by false p q = q

-- and of a curve that stands alone: it has at most 85 bytes
pub worth-near : (s : List ℕ) (t : ℕ) → (curve_worth s t).place ≤ 85
unfolding curve_worth tail_read
worth-near s t =
    let r : Reading = got_at 0 0 0 in
    let read = curve-reaches s {m = 0} {r = r} (record { number = omega arith; place = omega arith; next = omega arith }) in
    let end = rule-reaches (eqb (curve_read s r).reading.next (length s)) TAIL (curve_read s r).reading.next (omega arith) read.next read in
    by-test (ltb 0 (alone_read s).number) _ _ (λ (x : CurveWorth). x.place ≤ 85) (λ e. omega (arith, end.place)) (λ e. omega arith)
