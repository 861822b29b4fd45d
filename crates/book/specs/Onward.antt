-- A reading only moves on: where a later one is not refused, the earlier one was not, stands at or before it, and both are inside the book.
use Prim.Native.Nat.{ℕ, zero, suc, ◌-◌, ◌<◌, ◌≤◌}
use Rattle.std.proofs.Common.{arith}
use Rattle.std.specs.Prelude.{◌≡◌, Bool, List, ltb, length}
use borrow.Author.Tests.{ltb-true, ltb-false}
use Rattle.laws.specs.Count.{upto}
use Rattle.curve.specs.declared.Piece.{Piece}
use Rattle.cursor.specs.Reading.{Reading}
use Rattle.cursor.specs.Refusal.{SIZE, VERSION, COUNT, CUT, RANGE, TWICE, MODE, TAIL}
use Rattle.cursor.specs.Field.{value_at, refused_at, got_at, judged, read_at, field_of, rule_of}
use Rattle.cursor.specs.Outcome.{by-test}
use Rattle.cursor.specs.Header.{header_of}
use Rattle.book.specs.Format.{rollback_read, requested_resource, requested_rollback, request_read, unheld_read, held_resource, entry_read, entry_next, held_read, start_read, signed_read, piece_read, piece_next, pieces_read, end_read, curve_read, record_read, tail_read}

-- from r on to o, neither refused
pub record Ahead (s : List ℕ) (r o : Reading) : Type 0 where
  pub accepted : r.number ≡ 0
  pub further : r.next ≤ o.next
  pub inside : r.next ≤ length s → o.next ≤ length s

pub record Onward (s : List ℕ) (r o : Reading) : Type 0 where
  pub ahead : o.number ≡ 0 → Ahead s r o

module _ (s : List ℕ) where
  refused-on : (r : Reading) (number place : ℕ) → 0 < number → Onward s r (refused_at number place)
  refused-on r number place h = record { ahead = λ z. absurd (omega arith) }

  pub same-on : (r : Reading) → Onward s r r
  same-on r = record { ahead = λ z. record { accepted = z; further = omega arith; inside = λ l. l } }

  pub then-on : {a b c : Reading} → Onward s a b → Onward s b c → Onward s a c
  then-on {a} {b} {c} p q = record {
    ahead = λ z.
        let y : Ahead s b c = q.ahead z in
        let x : Ahead s a b = p.ahead y.accepted in
        record { accepted = x.accepted; further = omega arith; inside = λ l. y.inside (x.inside l) };
  }

  -- a loop of readers
  pub upto-on : {B : Type 0} (f : ℕ → B → B) (at : B → Reading) → ((i : ℕ) (b : B) → Onward s (at b) (at (f i b))) → (n : ℕ) (b : B) → Onward s (at b) (at (upto f n b))
  unfolding upto
  upto-on f at on zero b = same-on (at b)
  upto-on f at on (suc n) b = then-on (upto-on f at on n b) (on n (upto f n b))

  pub field-on : (n low high number : ℕ) (r : Reading) → 0 < number → Onward s r (field_of s n low high number r)
  unfolding field_of read_at judged
  field-on n low high number r h =
      let v = value_at s r.next n in
      let no = refused-on r number r.next h in
      by-test (ltb 0 r.number) _ _ (Onward s r) (λ e. refused-on r r.number r.place (ltb-true 0 r.number e)) (λ fresh.
      by-test (ltb (length s) n) _ _ (Onward s r) (λ e. refused-on r CUT r.next (omega arith)) (λ room.
      by-test (ltb (length s - n) r.next) _ _ (Onward s r) (λ e. refused-on r CUT r.next (omega arith)) (λ fits.
      by-test (ltb v low) _ _ (Onward s r) (λ e. no) (λ e.
      by-test (ltb high v) _ _ (Onward s r) (λ e. no) (λ e. record {
        ahead = λ z. record {
          accepted = omega (arith, ltb-false 0 r.number fresh);
          further = omega arith;
          inside = λ l. omega (arith, ltb-false (length s) n room, ltb-false (length s - n) r.next fits);
        };
      })))))

  pub rule-on : (ok : Bool) (number place : ℕ) (r : Reading) → 0 < number → Onward s r (rule_of ok number place r)
  unfolding rule_of
  rule-on ok number place r h =
      by-test (ltb 0 r.number) _ _ (Onward s r) (λ e. refused-on r r.number r.place (ltb-true 0 r.number e)) (λ fresh.
      by-test ok _ _ (Onward s r) (λ e. same-on r) (λ e. refused-on r number place h))

  -- RANGE: every field and rule of a job but TWICE and MODE
  ranged : (n low high : ℕ) (r : Reading) → Onward s r (field_of s n low high RANGE r)
  ranged n low high r = field-on n low high RANGE r (omega arith)

  ruled : (ok : Bool) (place : ℕ) (r : Reading) → Onward s r (rule_of ok RANGE place r)
  ruled ok place r = rule-on ok RANGE place r (omega arith)

  -- a field and a further rule on it
  field-ruled : (n low high : ℕ) (ok : Bool) (r : Reading) → let a = field_of s n low high RANGE r in Onward s r (rule_of ok RANGE a.place a)
  field-ruled n low high ok r = let a = field_of s n low high RANGE r in then-on (ranged n low high r) (ruled ok a.place a)

  -- ---- each reader of the format moves on

  pub header-on : Onward s (got_at 0 0 0) (header_of s).reading
  unfolding header_of
  header-on =
      then-on (rule-on _ SIZE 0 _ (omega arith)) (then-on (field-on 2 _ _ SIZE _ (omega arith)) (then-on (field-on 1 1 1 VERSION _ (omega arith))
      (then-on (field-on 1 0 32 COUNT _ (omega arith)) (then-on (field-on 1 0 32 COUNT _ (omega arith)) (ranged 4 0 2147483647 _)))))

  rollback-on : (r : Reading) → Onward s r (rollback_read s r)
  unfolding rollback_read
  rollback-on r = field-ruled 2 1 65535 _ r

  request-on : (resources run : ℕ) (r : Reading) → Onward s r (request_read s resources run r).reading
  unfolding request_read requested_resource requested_rollback
  request-on resources run r = then-on (field-ruled 1 0 255 _ r) (then-on (ranged 2 _ _ _) (field-ruled 2 _ _ _ _))

  entry-on : (resources run rollback : ℕ) (holders : List ℕ) (r : Reading) → Onward s r (entry_read s resources run rollback holders r).reading
  unfolding entry_read held_resource unheld_read
  entry-on resources run rollback holders r =
      then-on (field-ruled 1 0 255 _ r) (then-on (rule-on _ TWICE _ _ (omega arith)) (then-on (ranged 2 1 run _) (ranged 2 _ rollback _)))

  held_on : (job resources run rollback : ℕ) (holders : List ℕ) (r : Reading) → Onward s r (held_read s job resources run rollback holders r).reading
  unfolding held_read entry_next
  held_on job resources run rollback holders r =
      then-on (ranged 1 0 32 r) (upto-on (entry_next s job resources run rollback) (λ h. h.reading) (λ i h. entry-on resources run rollback h.holders h.reading) _ _)

  piece-on : (low : ℕ) (last : Piece) (r : Reading) → Onward s r (piece_read s low last r).reading
  unfolding piece_read start_read signed_read
  piece-on low last r = then-on (field-ruled 4 low 2147483647 _ r) (then-on (field-ruled 4 0 4294967295 _ _) (field-ruled 2 0 65535 _ _))

  curve-on : (r : Reading) → Onward s r (curve_read s r).reading
  unfolding curve_read pieces_read piece_next end_read
  curve-on r =
      then-on (ranged 1 1 8 r) (then-on (upto-on (piece_next s) (λ c. c.reading) (λ i c. piece-on c.low c.last c.reading) _ _) (field-ruled 4 _ 2147483647 _ _))

  pub record-on : (job resources : ℕ) (holders : List ℕ) (r : Reading) → Onward s r (record_read s job resources holders r).reading
  unfolding record_read
  record-on job resources holders r =
      then-on (ranged 1 0 1 r) (then-on (ranged 2 1 60000 _) (then-on (rollback-on _) (then-on (request-on resources _ _)
      (then-on (held_on job resources _ _ holders _) (then-on (curve-on _) (rule-on _ MODE r.next _ (omega arith)))))))

  pub tail-on : (r : Reading) → Onward s r (tail_read s r)
  unfolding tail_read
  tail-on r = rule-on _ TAIL r.next r (omega arith)
