-- What rests on specs/Requests.antt.
use Rattle.std.specs.Prelude.{ℕ, ◌+◌, ◌≤◌, ◌≡◌, List, length}
use native.Mathlib.Omega.{arith}
use Rattle.std.proofs.Math.Path.{refl}
use Rattle.cursor.specs.Reading.{Reading}
use Rattle.cursor.specs.Refusal.{RANGE}
use Rattle.cursor.specs.Field.{value_at, got_at, field_of}
use Rattle.book.specs.Rules.{if_requested}
use Rattle.book.specs.Format.{requested_resource, request_read}
use Rattle.accepted.specs.Fields.{Onward, onward, field-got, field_back}
use Rattle.accepted.specs.Sticks.{unrefused-before, field-sticks}
use Rattle.accepted.proofs.Sticks.{requested-rollback-sticks}
use Rattle.accepted.specs.Layout.{request_at}
use Rattle.accepted.specs.Rules.{GoodRequest}
use Rattle.accepted.specs.Requests.{RequestPasses, back-back, request-good, resource-back, resource-got}

module _ (s : List ℕ) (resources run : ℕ) (r : Reading) (p : ℕ) (o : Onward r p) where
  passes-back : (request_read s resources run r).reading.number ≡ 0 → RequestPasses s resources run p
  unfolding request_read
  passes-back h =
      let a = requested_resource s resources r in
      let b = field_of s 2 (if_requested a.value 1) (if_requested a.value run) RANGE a in
      let hb : b.number ≡ 0 = unrefused-before (requested-rollback-sticks s a.value b) h in
      let ha : a.number ≡ 0 = unrefused-before (field-sticks s 2 _ _ RANGE a) hb in
      let k1 = resource-back s resources run r p o ha in
      let e1 = resource-got s resources run r p o k1.0 k1.1 in
      let k2 = field_back s 2 _ _ RANGE (got_at p 1 (value_at s p 1)) (p + 1) (onward refl refl) (omega arith) (rw e1 at hb) in
      let e2 = field-got s 2 _ _ RANGE (got_at p 1 (value_at s p 1)) (p + 1) (onward refl refl) k2 in
      let k3 = back-back s (value_at s p 1) (got_at (p + 1) 2 (value_at s (p + 1) 2)) (p + 3) (onward refl (omega arith)) (rw (e1, e2) at h) in
      record { resource = k1.0; resource_ok = k1.1; hold = k2; rollback = k3.0; back_ok = k3.1 }

  pub request-back : (request_read s resources run r).reading.number ≡ 0 → (p + 5 ≤ length s) × GoodRequest resources run (request_at s p)
  request-back h = request-good s resources run p (passes-back h)
