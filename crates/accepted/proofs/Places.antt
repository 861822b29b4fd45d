-- What rests on specs/Places.antt.
use Rattle.std.specs.Prelude.{ℕ, ◌-◌, ◌<◌, ◌≤◌, ◌≡◌, refl, Bool, List, get_or, ltb, leb, eqb}
use Rattle.std.proofs.Common.{arith}
use Rattle.std.proofs.Math.ListN.{length}
use Rattle.cursor.specs.Reading.{Reading}
use Rattle.book.specs.Read.{HeldList, PieceList, Records}
use Rattle.cursor.specs.Refusal.{SIZE, VERSION, COUNT, RANGE, TWICE, MODE}
use Rattle.cursor.specs.Field.{got_at, field_of}
use Rattle.book.specs.Rules.{rollback_ok, request_ok, around_ok, line_ok, mode_ok}
use Rattle.cursor.specs.Header.{header_of}
use Rattle.book.specs.Format.{rollback_read, requested_resource, requested_rollback, request_read, unheld_read, held_resource, entry_read, entry_next, held_read, start_read, signed_read, piece_read, piece_next, pieces_read, end_read, curve_read, record_read, record_next, records_read, no_records, book_of, accepted_book}
use Rattle.accepted.specs.Fields.{field-passed, ruled_of}
use Rattle.accepted.specs.Sticks.{Sticks, sticks-then, unrefused-before, field-sticks}
use Rattle.accepted.proofs.Sticks.{rollback-sticks, request-sticks, held-sticks, curve-sticks}
use Rattle.accepted.specs.Places.{Inside, Placed, before-end, book-placed, field-inside, field-place, got-inside, loop-inside, rule-inside, ruled-place, tail-inside}

module _ (s : List ℕ) (n low high number : ℕ) (ok : ℕ → Bool) (some : 1 ≤ n) (c : 0 < number) (r : Reading) where
  ruled-inside : Inside s r → Inside s (ruled_of s n low high number ok r)
  ruled-inside k =
      let a = field_of s n low high number r in
      rule-inside s (ok a.value) number a.place c a (field-inside s n low high number some c r k) (λ g e. before-end s number a.place ((field-place s n low high number ok some c r) g))

-- ---- the stages of the format, in book order
rollback-inside : (s : List ℕ) (r : Reading) → Inside s r → Inside s (rollback_read s r)
unfolding rollback_read
rollback-inside s r = ruled-inside s 2 1 65535 RANGE rollback_ok (omega arith) (omega arith) r

request-inside : (s : List ℕ) (resources run : ℕ) (r : Reading) → Inside s r → Inside s (request_read s resources run r).reading
unfolding request_read requested_resource requested_rollback
request-inside s resources run r k =
    ruled-inside s 2 _ _ RANGE rollback_ok (omega arith) (omega arith) _
    (field-inside s 2 _ _ RANGE (omega arith) (omega arith) _
    (ruled-inside s 1 0 255 RANGE (λ v. request_ok v resources) (omega arith) (omega arith) r k))

held-resource-inside : (s : List ℕ) (resources : ℕ) (holders : List ℕ) (r : Reading) → Inside s r → Inside s (held_resource s resources holders r)
unfolding held_resource unheld_read
held-resource-inside s resources holders r k =
    let below : ℕ → Bool = λ v. ltb v resources in
    let a = ruled_of s 1 0 255 RANGE below r in
    rule-inside s (eqb (get_or holders a.value 0) 255) TWICE a.place (omega arith) a (ruled-inside s 1 0 255 RANGE below (omega arith) (omega arith) r k)
    (λ g e. before-end s TWICE a.place (ruled-place s 1 0 255 RANGE below (omega arith) (omega arith) r g))

module _ (s : List ℕ) (job resources run rollback : ℕ) where
  entry-inside : (i : ℕ) (h : HeldList) → Inside s h.reading → Inside s (entry_next s job resources run rollback i h).reading
  unfolding entry_next entry_read
  entry-inside i h k =
      field-inside s 2 _ _ RANGE (omega arith) (omega arith) _
      (field-inside s 2 _ _ RANGE (omega arith) (omega arith) _
      (held-resource-inside s resources h.holders h.reading k))

  held-inside : (holders : List ℕ) (r : Reading) → Inside s r → Inside s (held_read s job resources run rollback holders r).reading
  unfolding held_read
  held-inside holders r k = loop-inside s (λ (x : HeldList). x.reading) (entry_next s job resources run rollback) entry-inside _ _ (field-inside s 1 0 32 RANGE (omega arith) (omega arith) r k)

piece_inside : (s : List ℕ) (i : ℕ) (c : PieceList) → Inside s c.reading → Inside s (piece_next s i c).reading
unfolding piece_next piece_read start_read signed_read
piece_inside s i c k =
    ruled-inside s 2 _ _ RANGE (λ v. around_ok v 1000 65535) (omega arith) (omega arith) _
    (ruled-inside s 4 _ _ RANGE (λ v. around_ok v 1000000 4294967295) (omega arith) (omega arith) _
    (ruled-inside s 4 _ _ RANGE (λ v. line_ok c.last (v - 1)) (omega arith) (omega arith) c.reading k))

pieces-inside : (s : List ℕ) (r : Reading) → Inside s r → Inside s (pieces_read s r).reading
unfolding pieces_read
pieces-inside s r k = loop-inside s (λ (x : PieceList). x.reading) (piece_next s) (piece_inside s) _ _ (field-inside s 1 1 8 RANGE (omega arith) (omega arith) r k)

pub curve-inside : (s : List ℕ) (r : Reading) → Inside s r → Inside s (curve_read s r).reading
unfolding curve_read end_read
curve-inside s r k =
    let c = pieces_read s r in
    ruled-inside s 4 c.last.start 2147483647 RANGE (λ v. line_ok c.last v) (omega arith) (omega arith) c.reading (pieces-inside s r k)

module _ (s : List ℕ) (resources i : ℕ) (b : Records) where
  record-inside : Inside s b.reading → Inside s (record_next s resources i b).reading
  unfolding record_next record_read
  record-inside k =
      let r = b.reading in
      let mode = field_of s 1 0 1 RANGE r in
      let run = field_of s 2 1 60000 RANGE mode in
      let rollback = rollback_read s run in
      let asked = request_read s resources run.value rollback in
      let list = held_read s i resources run.value rollback.value b.holders asked.reading in
      let worth = curve_read s list.reading in
      let sticks : Sticks mode worth.reading =
      sticks-then (field-sticks s 2 1 60000 RANGE mode)
      (sticks-then (rollback-sticks s run)
      (sticks-then (request-sticks s resources run.value rollback)
      (sticks-then (held-sticks s i resources run.value rollback.value b.holders asked.reading) (curve-sticks s list.reading)))) in
      let inside =
      curve-inside s _
      (held-inside s i resources _ _ b.holders _
      (request-inside s resources _ _
      (rollback-inside s _
      (field-inside s 2 1 60000 RANGE (omega arith) (omega arith) mode
      (field-inside s 1 0 1 RANGE (omega arith) (omega arith) r k))))) in
      rule-inside s (mode_ok mode.value rollback.value asked.request.resource) MODE r.next (omega arith) worth.reading inside
      (λ g e. before-end s MODE r.next (first (unrefused-before sticks g)))
    where
      -- a record that has a mode has a first byte
      first : (field_of s 1 0 1 RANGE b.reading).number ≡ 0 → b.reading.next < length s
      first h = omega (arith, (field-passed s 1 0 1 RANGE b.reading (omega arith) h).passes.fits)

records-inside : (s : List ℕ) (jobs resources : ℕ) (r : Reading) → Inside s r → Inside s (records_read s jobs resources r).reading
unfolding records_read no_records
records-inside s jobs resources r k = loop-inside s (λ (x : Records). x.reading) (record_next s resources) (record-inside s resources) jobs _ k

header-inside : (s : List ℕ) → Inside s (header_of s).reading
unfolding header_of
header-inside s =
    field-inside s 4 _ _ RANGE (omega arith) (omega arith) _
    (field-inside s 1 _ _ COUNT (omega arith) (omega arith) _
    (field-inside s 1 _ _ COUNT (omega arith) (omega arith) _
    (field-inside s 1 _ _ VERSION (omega arith) (omega arith) _
    (field-inside s 2 _ _ SIZE (omega arith) (omega arith) _
    (rule-inside s (leb 9 (length s)) SIZE 0 (omega arith) (got_at 0 0 0) (got-inside s 0 0 0 (omega arith))
    (λ g e. record { within = omega arith; inside = λ l a b. absurd (b refl) }))))))

-- THE PLACE OF A REFUSAL: inside the book, or at most its end for CUT and SIZE
pub refusal-placed : (s : List ℕ) → Placed s (book_of s).number (book_of s).place
unfolding book_of accepted_book
refusal-placed s =
    let head = header_of s in
    let inside = tail-inside s _ (records-inside s head.jobs head.resources head.reading (header-inside s)) in
    book-placed s _ _ inside (record { within = omega arith; inside = λ l a b. absurd (omega arith) })
