-- One step of a reader that carries the lent book and its place.
use Prim.Native.Nat.{ℕ, ◌+◌, ◌<◌, zero, suc}
use native.Mathlib.Omega.{arith}
use Rattle.std.specs.Prelude.{◌≡◌, List, ltb, Result, Ok, Err}
use Rattle.std.proofs.Math.Path.{refl}
use Rattle.std.proofs.Math.Bool.{cond}
use borrow.Author.Tests.{lt-ltb, le-ltb}
use Rattle.cursor.specs.Reading.{Reading, Step}
use Rattle.cursor.specs.declared.FieldRead.{FieldRead}
use Rattle.cursor.specs.declared.Refusal.{Refusal}
use Rattle.cursor.specs.Field.{refused_at, got_at, field_of}

-- a reader that has refused nothing yet
abbrev pub stands_at : ℕ → Reading
stands_at place = record { number = 0; place = place; next = place; value = 0 }

-- THE STEP: the field from there. A reader never goes back: a refused reading has next 0, and then it stands where it stood
unfoldable pub step_of : List ℕ → ℕ → ℕ → ℕ → ℕ → ℕ → Step
step_of s place n low high number =
    let f = field_of s n low high number (stands_at place) in
    record { number = f.number; place = f.place; value = f.value; next = cond (ltb f.next place) place f.next }

-- where a reader that stood at a place stands after a field or a refusal
abbrev pub place_after : ℕ → Result FieldRead Refusal → ℕ
place_after place (Ok f) = f.next
place_after place (Err d) = place

-- the two outcomes, by those of the field: a refusal with any number, and a value
module _ (s : List ℕ) (place n low high number : ℕ) where
  pub step-refused : (k : ℕ) → field_of s n low high number (stands_at place) ≡ refused_at k place → step_of s place n low high number ≡ record { number = k; place = place; value = 0; next = place }
  unfolding step_of
  step-refused k e = rw (e, stands place) refl
    where
      stands : (p : ℕ) → cond (ltb 0 p) p 0 ≡ p
      stands zero = refl
      stands (suc p) = let h : 0 < suc p = omega arith in rw (lt-ltb 0 (suc p) h) refl

  pub step-got : (v : ℕ) → field_of s n low high number (stands_at place) ≡ got_at place n v → step_of s place n low high number ≡ record { number = 0; place = place; value = v; next = place + n }
  unfolding step_of
  step-got v e = rw (e, le-ltb (place + n) place (omega arith)) refl
