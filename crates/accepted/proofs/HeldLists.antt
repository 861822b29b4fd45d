-- What rests on specs/HeldLists.antt.
use Rattle.std.specs.Prelude.{ℕ, suc, ◌+◌, ◌<◌, ◌≤◌, ◌≡◌, List, get_or}
use native.Mathlib.Omega.{arith}
use Rattle.std.proofs.Math.Path.{refl}
use Rattle.std.proofs.Common.{◌∙◌}
use Rattle.laws.specs.Count.{upto}
use Rattle.cursor.specs.Reading.{Reading}
use Rattle.book.specs.Read.{HeldList}
use Rattle.cursor.specs.Refusal.{RANGE}
use Rattle.cursor.specs.Field.{value_at, got_at, field_of}
use Rattle.book.specs.Rules.{least_rollback}
use Rattle.book.specs.Format.{held_resource, entry_read, entry_next, held_read}
use Rattle.accepted.specs.Fields.{Onward, Passes, onward, field-got, field_back}
use Rattle.accepted.specs.Sticks.{unrefused-before, field-sticks, loop-sticks, loop-sticks-all}
use Rattle.accepted.proofs.Sticks.{entry-next-sticks}
use Rattle.accepted.specs.Layout.{entry_place, job_place}
use Rattle.laws.specs.Holders.{Agree, free-once, once-free}
use Rattle.accepted.specs.Kept.{held_of, holds_of}
use Rattle.accepted.specs.HeldLists.{EntryPasses, HeldKept, Listed, Next, entry-good, entry-passes, list_start, listed-all, read, resource-back, resource-got, same-holder}

module _ (s : List ℕ) (resources run rollback : ℕ) (holders : List ℕ) (r : Reading) (p : ℕ) (o : Onward r p) where
  entry-back : (entry_read s resources run rollback holders r).reading.number ≡ 0 → EntryPasses s resources run rollback p × (get_or holders (value_at s p 1) 0 ≡ 255)
  unfolding entry_read
  entry-back h =
      let a = held_resource s resources holders r in
      let b = field_of s 2 1 run RANGE a in
      let hb : b.number ≡ 0 = unrefused-before (field-sticks s 2 (least_rollback rollback) rollback RANGE b) h in
      let ha : a.number ≡ 0 = unrefused-before (field-sticks s 2 1 run RANGE a) hb in
      let k1 = resource-back s resources holders r p o ha in
      let e1 = resource-got s resources holders r p o k1.0 k1.1 k1.2 in
      let k2 = field_back s 2 1 run RANGE (got_at p 1 (value_at s p 1)) (p + 1) (onward refl refl) (omega arith) (rw e1 at hb) in
      let e2 = field-got s 2 1 run RANGE (got_at p 1 (value_at s p 1)) (p + 1) (onward refl refl) k2 in
      let k3 = field_back s 2 (least_rollback rollback) rollback RANGE (got_at (p + 1) 2 (value_at s (p + 1) 2)) (p + 3) (onward refl (omega arith)) (omega arith) (rw (e1, e2) at h) in
      (record { resource = k1.0; below = k1.1; hold = k2; back = k3 }, k1.2)

module _ (s : List ℕ) (i resources run rollback : ℕ) (job : i < 32) (few : resources ≤ 32) (top : rollback ≤ 65535) where
  module _ (holders : List ℕ) (a : Agree (holds_of s) (held_of s) i 0 holders) where
    kept_next : HeldKept s i resources run rollback → (m : ℕ) → m < holds_of s i → Listed s i m ((read s i resources run rollback job few top holders a) m) → (Next s i resources run rollback job few top holders a) m
    kept_next k m h l =
        let z = entry-passes s resources run rollback (entry_place (job_place s i + 10) m) few top (k.each m h) in
        (z, (same-holder s i resources run rollback job few top holders a) m 0 255 l.agree z.below ∙ once-free (holds_of s) (held_of s) i m ((read s i resources run rollback job few top holders a) m).holders l.agree (λ j n. k.once m j n h))

    passed-next : ((read s i resources run rollback job few top holders a) (holds_of s i)).reading.number ≡ 0 → (m : ℕ) → m < holds_of s i → Listed s i m ((read s i resources run rollback job few top holders a) m) → (Next s i resources run rollback job few top holders a) m
    unfolding upto entry_next
    passed-next h m lt l =
        entry-back s resources run rollback ((read s i resources run rollback job few top holders a) m).holders ((read s i resources run rollback job few top holders a) m).reading (entry_place (job_place s i + 10) m) l.going
        (unrefused-before (loop-sticks (λ (x : HeldList). x.reading) (entry_next s i resources run rollback) (entry-next-sticks s i resources run rollback) (list_start s i resources run rollback job few top holders a) (suc m) (holds_of s i) lt) h)

    passed-kept : Passes s 1 0 32 (job_place s i + 10) → ((read s i resources run rollback job few top holders a) (holds_of s i)).reading.number ≡ 0 → HeldKept s i resources run rollback
    passed-kept c h =
        let all = (listed-all s i resources run rollback job few top holders a) (passed-next h) in
        record {
          fits = c.fits;
          few = c.most;
          each = λ m lt. entry-good s resources run rollback (entry_place (job_place s i + 10) m) top (passed-next h m lt (all m (omega arith))).0;
          once = λ m j n lt.
              let l = all m (omega arith) in
              let z = passed-next h m lt l in
              free-once (holds_of s) (held_of s) i m ((read s i resources run rollback job few top holders a) m).holders l.agree job ((same-holder s i resources run rollback job few top holders a) m 255 0 l.agree z.0.below ∙ z.1) j n;
        }

    module _ (r : Reading) (o : Onward r (job_place s i + 10)) where
      pub held-got : HeldKept s i resources run rollback → Listed s i (holds_of s i) (held_read s i resources run rollback holders r)
      unfolding held_read
      held-got k =
          rw (field-got s 1 0 32 RANGE r (job_place s i + 10) o (record { fits = k.fits; least = omega arith; most = k.few }))
          ((listed-all s i resources run rollback job few top holders a) (kept_next k) (holds_of s i) (omega arith))

      pub held_back : (held_read s i resources run rollback holders r).reading.number ≡ 0 → HeldKept s i resources run rollback
      unfolding held_read
      held_back h =
          let c = field_back s 1 0 32 RANGE r (job_place s i + 10) o (omega arith) (unrefused-before (loop-sticks-all (λ (x : HeldList). x.reading) (entry_next s i resources run rollback) (entry-next-sticks s i resources run rollback) _ _) h) in
          passed-kept c (rw (field-got s 1 0 32 RANGE r (job_place s i + 10) o c) at h)
