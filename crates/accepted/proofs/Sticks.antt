-- What rests on specs/Sticks.antt.
use Prim.Native.Nat.{ℕ}
use Rattle.std.specs.Prelude.{List}
use Rattle.curve.specs.declared.Piece.{Piece}
use Rattle.cursor.specs.Reading.{Reading}
use Rattle.cursor.specs.Refusal.{RANGE}
use Rattle.book.specs.Format.{requested_rollback, signed_read, end_read, rollback_read, requested_resource, request_read, unheld_read, held_resource, entry_read, entry_next, held_read, start_read, piece_read, piece_next, pieces_read, curve_read, record_read, record_next, records_read, no_records}
use Rattle.accepted.specs.Sticks.{Sticks, field-sticks, rule-sticks, sticks-then, loop-sticks-all}
use Rattle.book.specs.Read.{HeldList, PieceList, Records}

pub requested-rollback-sticks : (s : List ℕ) (resource : ℕ) (r : Reading) → Sticks r (requested_rollback s resource r)
unfolding requested_rollback
requested-rollback-sticks s resource r = sticks-then (field-sticks s 2 _ _ RANGE r) (rule-sticks _ _ _ _)

pub signed-sticks : (s : List ℕ) (n most high : ℕ) (r : Reading) → Sticks r (signed_read s n most high r)
unfolding signed_read
signed-sticks s n most high r = sticks-then (field-sticks s n 0 high RANGE r) (rule-sticks _ _ _ _)

pub end-sticks : (s : List ℕ) (last : Piece) (r : Reading) → Sticks r (end_read s last r)
unfolding end_read
end-sticks s last r = sticks-then (field-sticks s 4 _ 2147483647 RANGE r) (rule-sticks _ _ _ _)

-- ---- the stages of the format, in book order
pub rollback-sticks : (s : List ℕ) (r : Reading) → Sticks r (rollback_read s r)
unfolding rollback_read
rollback-sticks s r = sticks-then (field-sticks s 2 1 65535 RANGE r) (rule-sticks _ _ _ _)

pub requested-resource-sticks : (s : List ℕ) (resources : ℕ) (r : Reading) → Sticks r (requested_resource s resources r)
unfolding requested_resource
requested-resource-sticks s resources r = sticks-then (field-sticks s 1 0 255 RANGE r) (rule-sticks _ _ _ _)

pub request-sticks : (s : List ℕ) (resources run : ℕ) (r : Reading) → Sticks r (request_read s resources run r).reading
unfolding request_read
request-sticks s resources run r =
    sticks-then (requested-resource-sticks s resources r)
    (sticks-then (field-sticks s 2 _ _ RANGE _) (requested-rollback-sticks s _ _))

pub held-resource-sticks : (s : List ℕ) (resources : ℕ) (holders : List ℕ) (r : Reading) → Sticks r (held_resource s resources holders r)
unfolding held_resource unheld_read
held-resource-sticks s resources holders r =
    sticks-then (field-sticks s 1 0 255 RANGE r)
    (sticks-then (rule-sticks _ RANGE _ _) (rule-sticks _ _ _ _))

pub entry-sticks : (s : List ℕ) (resources run rollback : ℕ) (holders : List ℕ) (r : Reading) → Sticks r (entry_read s resources run rollback holders r).reading
unfolding entry_read
entry-sticks s resources run rollback holders r =
    sticks-then (held-resource-sticks s resources holders r)
    (sticks-then (field-sticks s 2 1 run RANGE _) (field-sticks s 2 _ _ RANGE _))

module _ (s : List ℕ) (job resources run rollback : ℕ) where
  pub entry-next-sticks : (i : ℕ) (h : HeldList) → Sticks h.reading (entry_next s job resources run rollback i h).reading
  unfolding entry_next
  entry-next-sticks i h = entry-sticks s resources run rollback h.holders h.reading

  pub held-sticks : (holders : List ℕ) (r : Reading) → Sticks r (held_read s job resources run rollback holders r).reading
  unfolding held_read
  held-sticks holders r =
      sticks-then (field-sticks s 1 0 32 RANGE r)
      (loop-sticks-all (λ (h : HeldList). h.reading) (entry_next s job resources run rollback) entry-next-sticks _ _)

pub start-sticks : (s : List ℕ) (low : ℕ) (last : Piece) (r : Reading) → Sticks r (start_read s low last r)
unfolding start_read
start-sticks s low last r = sticks-then (field-sticks s 4 low 2147483647 RANGE r) (rule-sticks _ _ _ _)

pub piece-sticks : (s : List ℕ) (low : ℕ) (last : Piece) (r : Reading) → Sticks r (piece_read s low last r).reading
unfolding piece_read
piece-sticks s low last r =
    sticks-then (start-sticks s low last r)
    (sticks-then (signed-sticks s 4 1000000 4294967295 _) (signed-sticks s 2 1000 65535 _))

pub piece-next-sticks : (s : List ℕ) (i : ℕ) (c : PieceList) → Sticks c.reading (piece_next s i c).reading
unfolding piece_next
piece-next-sticks s i c = piece-sticks s c.low c.last c.reading

pub pieces-sticks : (s : List ℕ) (r : Reading) → Sticks r (pieces_read s r).reading
unfolding pieces_read
pieces-sticks s r =
    sticks-then (field-sticks s 1 1 8 RANGE r)
    (loop-sticks-all (λ (c : PieceList). c.reading) (piece_next s) (piece-next-sticks s) _ _)

pub curve-sticks : (s : List ℕ) (r : Reading) → Sticks r (curve_read s r).reading
unfolding curve_read
curve-sticks s r = sticks-then (pieces-sticks s r) (end-sticks s _ _)

pub record-sticks : (s : List ℕ) (job resources : ℕ) (holders : List ℕ) (r : Reading) → Sticks r (record_read s job resources holders r).reading
unfolding record_read
record-sticks s job resources holders r =
    sticks-then (field-sticks s 1 0 1 RANGE r)
    (sticks-then (field-sticks s 2 1 60000 RANGE _)
    (sticks-then (rollback-sticks s _)
    (sticks-then (request-sticks s resources _ _)
    (sticks-then (held-sticks s job resources _ _ holders _)
    (sticks-then (curve-sticks s _) (rule-sticks _ _ _ _))))))

pub record-next-sticks : (s : List ℕ) (resources i : ℕ) (b : Records) → Sticks b.reading (record_next s resources i b).reading
unfolding record_next
record-next-sticks s resources i b = record-sticks s i resources b.holders b.reading

pub records-sticks : (s : List ℕ) (jobs resources : ℕ) (r : Reading) → Sticks r (records_read s jobs resources r).reading
unfolding records_read no_records
records-sticks s jobs resources r = loop-sticks-all (λ (b : Records). b.reading) (record_next s resources) (record-next-sticks s resources) _ jobs
