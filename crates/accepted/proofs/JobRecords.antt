-- What rests on specs/JobRecords.antt.
use Rattle.std.specs.Prelude.{ℕ, ◌+◌, ◌<◌, ◌≤◌, List}
use Rattle.std.proofs.Common.{arith}
use Rattle.std.proofs.Math.Path.{◌≡◌, refl}
use Rattle.curve.specs.Layout.{piece_place, curve_at}
use Rattle.cursor.specs.Reading.{Reading}
use Rattle.cursor.specs.Refusal.{RANGE, MODE}
use Rattle.cursor.specs.Field.{value_at, got_at, field_of}
use Rattle.book.specs.Rules.{mode_ok}
use Rattle.book.specs.Format.{rollback_read, request_read, held_read, curve_read, record_read}
use Rattle.accepted.specs.Fields.{Onward, onward, field-got, field_back, rule-kept, rule-passed}
use Rattle.accepted.specs.Sticks.{unrefused-before, field-sticks}
use Rattle.accepted.proofs.Sticks.{rollback-sticks, request-sticks, held-sticks, curve-sticks}
use Rattle.accepted.specs.Layout.{Bytes, curve_place, job_place}
use Rattle.accepted.specs.Rules.{rollback_most}
use Rattle.laws.specs.Holders.{Agree}
use Rattle.accepted.specs.Kept.{RecordKept, held_of, holds_of}
use Rattle.accepted.specs.Requests.{rollback-got, rollback-back, request-got}
use Rattle.accepted.proofs.Requests.{request-back}
use Rattle.accepted.proofs.HeldLists.{held-got, held_back}
use Rattle.accepted.specs.Curves.{curve-got}
use Rattle.accepted.proofs.Curves.{curve-back}
use Rattle.accepted.specs.JobRecords.{RecordGot, RecordPasses, record-good, record-passes}

module _ (s : List ℕ) (i resources : ℕ) (low : i < 32) (few : resources ≤ 32) (holders : List ℕ) (a : Agree (holds_of s) (held_of s) i 0 holders) (r : Reading) (o : Onward r (job_place s i)) where
  passes-got : RecordPasses s i resources (job_place s i) → RecordGot s i (record_read s i resources holders r)
  unfolding record_read
  passes-got k =
      let p = job_place s i in
      let run = value_at s (p + 1) 2 in
      let rollback = value_at s (p + 3) 2 in
      let asked = got_at (p + 5 + 3) 2 (value_at s (p + 5 + 3) 2) in
      let e1 = field-got s 1 0 1 RANGE r p o k.mode in
      let e2 = field-got s 2 1 60000 RANGE (got_at p 1 (value_at s p 1)) (p + 1) (onward refl refl) k.run in
      let e3 = rollback-got s (got_at (p + 1) 2 run) (p + 3) (onward refl (omega arith)) k.back_fits k.rollback in
      let e4 = request-got s resources run (got_at (p + 3) 2 rollback) (p + 5) (onward refl (omega arith)) few k.asked_fits k.request in
      let l = held-got s i resources run rollback low few (rollback_most k.rollback) holders a asked (onward refl (omega arith)) k.held in
      let list = held_read s i resources run rollback holders asked in
      let e5 = curve-got s list.reading (curve_place s p) l.going k.curve in
      let worth = got_at (piece_place (curve_place s p) (value_at s (curve_place s p) 1)) 4 (curve_at s (curve_place s p)).end in
      let e6 = rule-kept (mode_ok (value_at s p 1) rollback (value_at s (p + 5) 1)) MODE r.next worth refl k.rolling in
      rw (e1, e2, e3, e4, e5, e6)
      (record { going = onward refl refl; job = rw (l.holds, l.held); agree = l.agree })

  passes-back : (record_read s i resources holders r).reading.number ≡ 0 → RecordPasses s i resources (job_place s i)
  unfolding record_read
  passes-back h =
      let p = job_place s i in
      let run = value_at s (p + 1) 2 in
      let rollback = value_at s (p + 3) 2 in
      let asked = got_at (p + 5 + 3) 2 (value_at s (p + 5 + 3) 2) in
      let r1 = field_of s 1 0 1 RANGE r in
      let r2 = field_of s 2 1 60000 RANGE r1 in
      let r3 = rollback_read s r2 in
      let r4 = request_read s resources r2.value r3 in
      let r5 = held_read s i resources r2.value r3.value holders r4.reading in
      let r6 = curve_read s r5.reading in
      let h6 : r6.reading.number ≡ 0 = (rule-passed (mode_ok r1.value r3.value r4.request.resource) MODE r.next r6.reading (omega arith) h).was in
      let h5 : r5.reading.number ≡ 0 = unrefused-before (curve-sticks s r5.reading) h6 in
      let h4 : r4.reading.number ≡ 0 = unrefused-before (held-sticks s i resources r2.value r3.value holders r4.reading) h5 in
      let h3 : r3.number ≡ 0 = unrefused-before (request-sticks s resources r2.value r3) h4 in
      let h2 : r2.number ≡ 0 = unrefused-before (rollback-sticks s r2) h3 in
      let h1 : r1.number ≡ 0 = unrefused-before (field-sticks s 2 1 60000 RANGE r1) h2 in
      let k1 = field_back s 1 0 1 RANGE r p o (omega arith) h1 in
      let e1 = field-got s 1 0 1 RANGE r p o k1 in
      let o1 : Onward (got_at p 1 (value_at s p 1)) (p + 1) = onward refl refl in
      let k2 = field_back s 2 1 60000 RANGE (got_at p 1 (value_at s p 1)) (p + 1) o1 (omega arith) (rw e1 at h2) in
      let e2 = field-got s 2 1 60000 RANGE (got_at p 1 (value_at s p 1)) (p + 1) o1 k2 in
      let o2 : Onward (got_at (p + 1) 2 run) (p + 3) = onward refl (omega arith) in
      let k3 = rollback-back s (got_at (p + 1) 2 run) (p + 3) o2 (rw (e1, e2) at h3) in
      let e3 = rollback-got s (got_at (p + 1) 2 run) (p + 3) o2 k3.0 k3.1 in
      let o3 : Onward (got_at (p + 3) 2 rollback) (p + 5) = onward refl (omega arith) in
      let k4 = request-back s resources run (got_at (p + 3) 2 rollback) (p + 5) o3 (rw (e1, e2, e3) at h4) in
      let e4 = request-got s resources run (got_at (p + 3) 2 rollback) (p + 5) o3 few k4.0 k4.1 in
      let o4 : Onward asked (p + 10) = onward refl (omega arith) in
      let k5 = held_back s i resources run rollback low few (rollback_most k3.1) holders a asked o4 (rw (e1, e2, e3, e4) at h5) in
      let l = held-got s i resources run rollback low few (rollback_most k3.1) holders a asked o4 k5 in
      let list = held_read s i resources run rollback holders asked in
      let k6 = curve-back s list.reading (curve_place s p) l.going (rw (e1, e2, e3, e4) at h6) in
      let e6 = curve-got s list.reading (curve_place s p) l.going k6 in
      let worth = got_at (piece_place (curve_place s p) (value_at s (curve_place s p) 1)) 4 (curve_at s (curve_place s p)).end in
      let z = (rule-passed (mode_ok (value_at s p 1) rollback (value_at s (p + 5) 1)) MODE r.next worth (omega arith) (rw (e1, e2, e3, e4, e6) at h)).holds in
      record { mode = k1; run = k2; back_fits = k3.0; rollback = k3.1; asked_fits = k4.0; request = k4.1; held = k5; curve = k6; rolling = z }

module _ (s : List ℕ) (i resources : ℕ) (low : i < 32) (few : resources ≤ 32) (holders : List ℕ) (a : Agree (holds_of s) (held_of s) i 0 holders) (r : Reading) (o : Onward r (job_place s i)) where
  pub record-got : Bytes s → RecordKept s resources i → RecordGot s i (record_read s i resources holders r)
  record-got b k = passes-got s i resources low few holders a r o (record-passes s i resources b k)

  pub record-back : (record_read s i resources holders r).reading.number ≡ 0 → RecordKept s resources i × RecordGot s i (record_read s i resources holders r)
  record-back h =
      let k = passes-back s i resources low few holders a r o h in
      (record-good s i resources few k, passes-got s i resources low few holders a r o k)
