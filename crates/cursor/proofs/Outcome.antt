-- What rests on specs/Outcome.antt.
use Prim.Native.Nat.{ℕ, ◌<◌, ◌≤◌, zero-le}
use Rattle.std.specs.Prelude.{List, ltb}
use Rattle.cursor.specs.Reading.{Reading}
use Rattle.cursor.specs.Field.{field_of}
use Rattle.cursor.specs.Outcome.{Outcome, by-test, read-outcome, got, refused}

module _ (s : List ℕ) (n low high number : ℕ) (known : 0 < number) where
  -- a field's value is at most its high bound, and 0 where it is refused
  pub field-small : (r : Reading) → (field_of s n low high number r).value ≤ high
  unfolding field_of
  field-small r = by-test (ltb 0 r.number) _ _ (λ (o : Reading). o.value ≤ high) (λ e. zero-le) (λ fresh. small ((read-outcome s n low high number known) r.next))
    where
      small : {place : ℕ} {o : Reading} → Outcome place n high o → o.value ≤ high
      small (refused k h e) = rw e zero-le
      small (got v h e) = rw e h
