-- The header that five steps of a reader make is the book's header.
use Prim.Native.Nat.{ℕ, ◌<◌}
use native.Mathlib.Omega.{arith}
use Rattle.std.specs.Prelude.{◌≡◌, List, ltb}
use Rattle.std.proofs.Math.Path.{refl}
use borrow.Author.Tests.{ltb-true, lt-ltb, le-ltb}
use Rattle.cursor.specs.Reading.{Reading, Step}
use Rattle.cursor.specs.Field.{read_at, field_of}
use Rattle.cursor.specs.Outcome.{by-test, Outcome, refused, got}
use Rattle.cursor.specs.Step.{step_of, step-refused, step-got}
use Rattle.cursor.specs.Header.{after_step}

-- a reading at a place, unless it is refused
pub record Stands (r : Reading) (place : ℕ) : Type 0 where
  pub here : r.number ≡ 0 → r.next ≡ place

pub after-stands : (r : Reading) (x : Step) → Stands (after_step r x) x.next
unfolding after_step
after-stands r x =
    let P : Reading → Type 0 = λ o. Stands o x.next in
    by-test (ltb 0 r.number) _ _ P (λ e. record { here = λ z. absurd (omega (arith, ltb-true 0 r.number e)) }) (λ fresh.
    by-test (ltb 0 x.number) _ _ P (λ e. record { here = λ z. absurd (omega (arith, ltb-true 0 x.number e)) }) (λ free. record { here = λ z. refl }))

module _ (s : List ℕ) where
  module _ (n low high number : ℕ) (known : 0 < number) where
    -- a step from the place where an unrefused reading stands: the field that follows it
    pub from-there : (r : Reading) → r.number ≡ 0 → Outcome r.next n high (read_at s n low high number r.next) → after_step r (step_of s r.next n low high number) ≡ field_of s n low high number r
    unfolding after_step field_of
    from-there r z (refused k h e) = rw (le-ltb 0 r.number (omega arith), step-refused s r.next n low high number k e, lt-ltb 0 k h, e)
    from-there r z (got v h e) = rw (le-ltb 0 r.number (omega arith), step-got s r.next n low high number v e, e)
