-- The header passes exactly when it keeps its rules.
use Rattle.std.specs.Prelude.{ℕ, ◌≡◌, refl, List, length, leb}
use Rattle.std.proofs.Common.{arith, le-leb}
use Rattle.cursor.specs.Reading.{HeaderRead}
use Rattle.cursor.specs.Refusal.{SIZE, VERSION, COUNT, RANGE}
use Rattle.cursor.specs.Field.{value_at, got_at}
use Rattle.cursor.specs.Header.{header_of}
use Rattle.accepted.specs.Fields.{onward, field-got, rule-kept}
use Rattle.accepted.specs.Layout.{jobs_at, resources_at, now_at}
use Rattle.accepted.specs.Kept.{HeaderKept}

abbrev pub header_at : List ℕ → HeaderRead
header_at s = record { reading = got_at 5 4 (now_at s); jobs = jobs_at s; resources = resources_at s; now = now_at s }

pub header-got : (s : List ℕ) → HeaderKept s → header_of s ≡ header_at s
unfolding header_of
header-got s k =
    let n = length s in
    let e0 = rule-kept (leb 9 n) SIZE 0 (got_at 0 0 0) refl (le-leb 9 n k.least) in
    let e1 = field-got s 2 n n SIZE (got_at 0 0 0) 0 (onward refl refl) (omega (arith, k.least, k.size)) in
    let e2 = field-got s 1 1 1 VERSION (got_at 0 2 (value_at s 0 2)) 2 (onward refl refl) (omega (arith, k.least, k.version)) in
    let e3 = field-got s 1 0 32 COUNT (got_at 2 1 (value_at s 2 1)) 3 (onward refl refl) (omega (arith, k.least, k.jobs)) in
    let e4 = field-got s 1 0 32 COUNT (got_at 3 1 (jobs_at s)) 4 (onward refl refl) (omega (arith, k.least, k.resources)) in
    let e5 = field-got s 4 0 2147483647 RANGE (got_at 4 1 (resources_at s)) 5 (onward refl refl) (omega (arith, k.least, k.now)) in
    rw (e0, e1, e2, e3, e4, e5)
