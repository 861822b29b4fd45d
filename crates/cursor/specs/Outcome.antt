-- A field that is read at a place has two outcomes: a refusal at that place, or a value that is at most its high bound.
use Prim.Native.Nat.{ℕ, ◌-◌, ◌<◌, ◌≤◌}
use Rattle.std.proofs.Common.{arith, ltb-false}
use Rattle.std.specs.Prelude.{◌≡◌, refl, Bool, true, false, cond, List, ltb, length}
use Rattle.cursor.specs.Reading.{Reading}
use Rattle.cursor.specs.Refusal.{CUT}
use Rattle.cursor.specs.Field.{value_at, refused_at, got_at, judged, read_at}

-- one of two, by a test
pub by-test : {A : Type 0} (b : Bool) (x y : A) (P : A → Type 0) → (b ≡ true → P x) → (b ≡ false → P y) → P (cond b x y)
by-test true x y P f g = f refl
by-test false x y P f g = g refl

pub data Outcome (place n high : ℕ) (o : Reading) : Type 0 where
  refused : (k : ℕ) → 0 < k → o ≡ refused_at k place → Outcome place n high o
  got : (v : ℕ) → v ≤ high → o ≡ got_at place n v → Outcome place n high o

module _ (s : List ℕ) (n low high number : ℕ) (known : 0 < number) where
  pub read-outcome : (place : ℕ) → Outcome place n high (read_at s n low high number place)
  unfolding read_at judged
  read-outcome place =
      let v = value_at s place n in
      let P : Reading → Type 0 = Outcome place n high in
      by-test (ltb (length s) n) _ _ P (λ e. refused CUT (omega arith) refl) (λ room.
      by-test (ltb (length s - n) place) _ _ P (λ e. refused CUT (omega arith) refl) (λ fits.
      by-test (ltb v low) _ _ P (λ e. refused number known refl) (λ enough.
      by-test (ltb high v) _ _ P (λ e. refused number known refl) (λ few. got v (ltb-false high v few) refl))))
