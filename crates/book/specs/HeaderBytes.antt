-- The header has 9 bytes, and says of at most 32 jobs.
use Rattle.std.specs.Prelude.{ℕ, ◌+◌, ◌-◌, ◌<◌, ◌≤◌, ◌≡◌, refl, Bool, List, ltb, leb, length}
use Rattle.std.proofs.Common.{arith, ltb-true, ltb-false}
use Rattle.cursor.specs.Reading.{Reading}
use Rattle.cursor.specs.Refusal.{SIZE, VERSION, COUNT, RANGE}
use Rattle.cursor.specs.Field.{value_at, refused_at, got_at, judged, read_at, field_of, rule_of}
use Rattle.cursor.specs.Outcome.{by-test}
use Rattle.cursor.proofs.Outcome.{field-small}
use Rattle.cursor.specs.Header.{header_of}

-- from r to o by n bytes, unless o is refused
record Bytes (n : ℕ) (r o : Reading) : Type 0 where
  accepted : o.number ≡ 0 → r.number ≡ 0
  next : o.number ≡ 0 → o.next ≡ r.next + n

refused-bytes : (n k place : ℕ) (r : Reading) → 0 < k → Bytes n r (refused_at k place)
refused-bytes n k place r h = record { accepted = λ z. absurd (omega arith); next = λ z. absurd (omega arith) }

field-bytes : (s : List ℕ) (n low high number : ℕ) (r : Reading) → 0 < number → Bytes n r (field_of s n low high number r)
unfolding field_of read_at judged
field-bytes s n low high number r h =
    let v = value_at s r.next n in
    let P : Reading → Type 0 = Bytes n r in
    by-test (ltb 0 r.number) _ _ P (λ e. refused-bytes n _ _ r (ltb-true 0 r.number e)) (λ fresh.
    by-test (ltb (length s) n) _ _ P (λ e. refused-bytes n _ _ r (omega arith)) (λ room.
    by-test (ltb (length s - n) r.next) _ _ P (λ e. refused-bytes n _ _ r (omega arith)) (λ fits.
    by-test (ltb v low) _ _ P (λ e. refused-bytes n _ _ r h) (λ e.
    by-test (ltb high v) _ _ P (λ e. refused-bytes n _ _ r h) (λ e.
    record { accepted = λ z. omega (arith, ltb-false 0 r.number fresh); next = λ z. refl })))))

rule-bytes : (ok : Bool) (number place : ℕ) (r : Reading) → 0 < number → Bytes 0 r (rule_of ok number place r)
unfolding rule_of
rule-bytes ok number place r h =
    by-test (ltb 0 r.number) _ _ (Bytes 0 r) (λ e. refused-bytes 0 _ _ r (ltb-true 0 r.number e)) (λ fresh.
    by-test ok _ _ (Bytes 0 r) (λ e. record { accepted = λ z. z; next = λ z. omega arith }) (λ e. refused-bytes 0 _ _ r h))

then-bytes : {m n : ℕ} {a b c : Reading} → Bytes m a b → Bytes n b c → Bytes (m + n) a c
then-bytes {m} {n} {a} {b} {c} p q = record {
  accepted = λ z. p.accepted (q.accepted z);
  next = λ z. omega (arith, p.next (q.accepted z), q.next z);
}

pub header-bytes : (s : List ℕ) → (header_of s).reading.number ≡ 0 → (header_of s).reading.next ≡ 9
unfolding header_of
header-bytes s =
    let n = length s in
    (then-bytes (rule-bytes (leb 9 n) SIZE 0 (got_at 0 0 0) (omega arith)) (then-bytes (field-bytes s 2 n n SIZE _ (omega arith)) (then-bytes (field-bytes s 1 1 1 VERSION _ (omega arith))
    (then-bytes (field-bytes s 1 0 32 COUNT _ (omega arith)) (then-bytes (field-bytes s 1 0 32 COUNT _ (omega arith)) (field-bytes s 4 0 2147483647 RANGE _ (omega arith))))))).next

pub header-few : (s : List ℕ) → (header_of s).jobs ≤ 32
unfolding header_of
header-few s = field-small s 1 0 32 COUNT (omega arith) _
