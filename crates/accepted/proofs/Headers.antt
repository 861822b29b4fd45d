-- What rests on specs/Headers.antt.
use Rattle.std.specs.Prelude.{ℕ, ◌≡◌, refl, List, length, leb}
use Rattle.std.proofs.Common.{arith, le-leb, leb-true}
use Rattle.cursor.specs.Refusal.{SIZE, VERSION, COUNT, RANGE}
use Rattle.cursor.specs.Field.{value_at, got_at, field_of, rule_of}
use Rattle.cursor.specs.Header.{header_of}
use Rattle.accepted.specs.Fields.{onward, field-got, field_back, rule-kept, rule-passed}
use Rattle.accepted.specs.Sticks.{unrefused-before, field-sticks}
use Rattle.accepted.specs.Layout.{jobs_at, resources_at}
use Rattle.accepted.specs.Kept.{HeaderKept}

pub header-back : (s : List ℕ) → (header_of s).reading.number ≡ 0 → HeaderKept s
unfolding header_of
header-back s h =
    let n = length s in
    let r0 = rule_of (leb 9 n) SIZE 0 (got_at 0 0 0) in
    let r1 = field_of s 2 n n SIZE r0 in
    let r2 = field_of s 1 1 1 VERSION r1 in
    let r3 = field_of s 1 0 32 COUNT r2 in
    let r4 = field_of s 1 0 32 COUNT r3 in
    let h4 : r4.number ≡ 0 = unrefused-before (field-sticks s 4 0 2147483647 RANGE r4) h in
    let h3 : r3.number ≡ 0 = unrefused-before (field-sticks s 1 0 32 COUNT r3) h4 in
    let h2 : r2.number ≡ 0 = unrefused-before (field-sticks s 1 0 32 COUNT r2) h3 in
    let h1 : r1.number ≡ 0 = unrefused-before (field-sticks s 1 1 1 VERSION r1) h2 in
    let h0 : r0.number ≡ 0 = unrefused-before (field-sticks s 2 n n SIZE r0) h1 in
    let least = leb-true 9 n (rule-passed (leb 9 n) SIZE 0 (got_at 0 0 0) (omega arith) h0).holds in
    let e0 = rule-kept (leb 9 n) SIZE 0 (got_at 0 0 0) refl (le-leb 9 n least) in
    let k1 = field_back s 2 n n SIZE (got_at 0 0 0) 0 (onward refl refl) (omega arith) (rw e0 at h1) in
    let e1 = field-got s 2 n n SIZE (got_at 0 0 0) 0 (onward refl refl) k1 in
    let k2 = field_back s 1 1 1 VERSION (got_at 0 2 (value_at s 0 2)) 2 (onward refl refl) (omega arith) (rw (e0, e1) at h2) in
    let e2 = field-got s 1 1 1 VERSION (got_at 0 2 (value_at s 0 2)) 2 (onward refl refl) k2 in
    let k3 = field_back s 1 0 32 COUNT (got_at 2 1 (value_at s 2 1)) 3 (onward refl refl) (omega arith) (rw (e0, e1, e2) at h3) in
    let e3 = field-got s 1 0 32 COUNT (got_at 2 1 (value_at s 2 1)) 3 (onward refl refl) k3 in
    let k4 = field_back s 1 0 32 COUNT (got_at 3 1 (jobs_at s)) 4 (onward refl refl) (omega arith) (rw (e0, e1, e2, e3) at h4) in
    let e4 = field-got s 1 0 32 COUNT (got_at 3 1 (jobs_at s)) 4 (onward refl refl) k4 in
    let k5 = field_back s 4 0 2147483647 RANGE (got_at 4 1 (resources_at s)) 5 (onward refl refl) (omega arith) (rw (e0, e1, e2, e3, e4) at h) in
    record { least = least; size = omega (arith, k1.least, k1.most); version = omega (arith, k2.least, k2.most); jobs = k3.most; resources = k4.most; now = k5.most }
