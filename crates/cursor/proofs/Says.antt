-- What the code answers says what the definitions' readings say; and a reading that is refused stays so.
use Prim.Native.Nat.{ℕ, ◌-◌, ◌<◌, ◌≤◌}
use Rattle.std.proofs.Common.{arith, ltb-false}
use Rattle.std.specs.Prelude.{◌≡◌, refl, Bool, true, false, cond, List, ltb, length, Result, Ok, Err, IfOk, IfErr}
use borrow.Author.Tests.{lt-ltb}
use Rattle.cursor.specs.Outcome.{by-test}
use Rattle.std.proofs.lemmas.Result.{MatchResult-weaker}
use Rattle.cursor.specs.Reading.{Reading, Step}
use Rattle.cursor.specs.declared.FieldRead.{FieldRead}
use Rattle.cursor.specs.declared.Refusal.{Refusal}
use Rattle.cursor.specs.Refusal.{CUT}
use Rattle.cursor.specs.Field.{value_at, refused_at, judged, read_at, field_of, rule_of}
use Rattle.cursor.specs.Step.{stands_at, step_of, place_after, step-refused, step-got}
use Rattle.cursor.specs.Answer.{field_at, field_after, ruled, ruled_after, got, reading_of, Refused, Says}

-- one of two by a test, and the two answers beside them
pub both-by-test : {A B : Type 0} (b : Bool) (x y : A) (u v : B) (P : A → B → Type 0) → (b ≡ true → P x u) → (b ≡ false → P y v) → P (cond b x y) (cond b u v)
both-by-test true x y u v P f g = f refl
both-by-test false x y u v P f g = g refl

module _ (s : List ℕ) (n low high number : ℕ) (known : 0 < number) where
  -- a field at a place
  pub field-says : (place : ℕ) {o : Result FieldRead Refusal} → o ≡ field_at s place n low high number → Says (field_of s n low high number (stands_at place)) high o
  unfolding field_of read_at judged field_at
  field-says place is =
      let v = value_at s place n in
      let P : Reading → Result FieldRead Refusal → Type 0 = λ e o. Says e high o in
      rw is (
      both-by-test (ltb (length s) n) _ _ _ _ P (λ e. (refl, omega arith)) (λ room.
      both-by-test (ltb (length s - n) place) _ _ _ _ P (λ e. (refl, omega arith)) (λ fits.
      both-by-test (ltb v low) _ _ _ _ P (λ e. (refl, known)) (λ enough.
      both-by-test (ltb high v) _ _ _ _ P (λ e. (refl, known)) (λ few. (refl, ltb-false high v few))))))

  -- a field after a field that was read
  pub field-follows : {e : Reading} (f : FieldRead) → e ≡ got f → {o : Result FieldRead Refusal} → o ≡ field_at s f.next n low high number → Says (field_of s n low high number e) high o
  unfolding field_of
  field-follows f before is = rw before (field-says f.next is)

module _ (ok : Bool) (number place : ℕ) (f : FieldRead) (known : 0 < number) where
  -- a further rule on a field that was read
  pub rule-says : {e : Reading} → e ≡ got f → {o : Result FieldRead Refusal} → o ≡ ruled ok number place f → Says (rule_of ok number place e) f.value o
  unfolding rule_of ruled
  rule-says before is = rw (before, is) (both-by-test ok _ _ _ _ (λ e o. Says e f.value o) (λ e. (refl, omega arith)) (λ e. (refl, known)))

-- what an answer says, once it is known
module _ {e : Reading} (high : ℕ) {o : Result FieldRead Refusal} (says : Says e high o) where
  pub at_ok : {f : FieldRead} → o ≡ Ok f → (e ≡ got f) × (f.value ≤ high)
  at_ok was = rw was at says

  pub at_err : {d : Refusal} → o ≡ Err d → Refused e d
  at_err was = rw was at says

-- "the first refusal met": after it nothing is read
module _ {e : Reading} {d : Refusal} (met : Refused e d) where
  pub field-stays : (s : List ℕ) (n low high number : ℕ) → Refused (field_of s n low high number e) d
  unfolding field_of
  field-stays s n low high number = rw met.0 (rw (lt-ltb 0 d.number met.1) refl, met.1)

  pub rule-stays : (ok : Bool) (number place : ℕ) → Refused (rule_of ok number place e) d
  unfolding rule_of
  rule-stays ok number place = rw met.0 (rw (lt-ltb 0 d.number met.1) refl, met.1)

-- a field and a rule after any reading, refused or not: what the answer says of the reading before, the next one says of the reading after
module _ (e : Reading) (most number : ℕ) (known : 0 < number) where
  pub field-after-says : (s : List ℕ) (n low high : ℕ) (o : Result FieldRead Refusal) → Says e most o → Says (field_of s n low high number e) high (field_after s n low high number o)
  field-after-says s n low high (Ok f) says = field-follows s n low high number known f says.0 refl
  field-after-says s n low high (Err d) met = field-stays met s n low high number

  pub rule-after-says : (ok : Bool) (place : ℕ) (o : Result FieldRead Refusal) → Says e most o → Says (rule_of ok number place e) most (ruled_after ok number place o)
  rule-after-says ok place (Ok f) says = MatchResult-weaker (ruled ok number place f) (rule-says ok number place f known says.0 refl) (λ g q. (q.0, omega (arith, q.1, says.1))) (λ d q. q)
  rule-after-says ok place (Err d) met = rule-stays met ok number place

-- and for any number: after a field that was read, or a refusal with a number above 0, the answer is the reading's
module _ (number : ℕ) where
  pub field-after-is : (s : List ℕ) (n low high : ℕ) (o : Result FieldRead Refusal) → IfErr o (λ d. 0 < d.number) → field_of s n low high number (reading_of o) ≡ reading_of (field_after s n low high number o)
  unfolding field_of read_at judged field_at
  field-after-is s n low high (Ok f) _ =
      let v = value_at s f.next n in
      let P : Reading → Result FieldRead Refusal → Type 0 = λ e o. e ≡ reading_of o in
      both-by-test (ltb (length s) n) _ _ _ _ P (λ _. refl) (λ _.
      both-by-test (ltb (length s - n) f.next) _ _ _ _ P (λ _. refl) (λ _.
      both-by-test (ltb v low) _ _ _ _ P (λ _. refl) (λ _.
      both-by-test (ltb high v) _ _ _ _ P (λ _. refl) (λ _. refl))))
  field-after-is s n low high (Err d) known = rw (lt-ltb 0 d.number known) refl

  -- what is read is at most high
  pub field-after-small : (s : List ℕ) (n low high : ℕ) (o : Result FieldRead Refusal) → IfOk (field_after s n low high number o) (λ f. f.value ≤ high)
  unfolding field_at
  field-after-small s n low high (Ok f) =
      let v = value_at s f.next n in
      let P : Result FieldRead Refusal → Type 0 = λ o. IfOk o (λ f. f.value ≤ high) in
      by-test (ltb (length s) n) _ _ P (λ _. tt) (λ _.
      by-test (ltb (length s - n) f.next) _ _ P (λ _. tt) (λ _.
      by-test (ltb v low) _ _ P (λ _. tt) (λ _.
      by-test (ltb high v) _ _ P (λ _. tt) (λ few. ltb-false high v few))))
  field-after-small s n low high (Err d) = tt

  pub rule-after-is : (ok : Bool) (place : ℕ) (o : Result FieldRead Refusal) → IfErr o (λ d. 0 < d.number) → rule_of ok number place (reading_of o) ≡ reading_of (ruled_after ok number place o)
  unfolding rule_of ruled
  rule-after-is ok place (Ok f) _ = both-by-test ok _ _ _ _ (λ (e : Reading) (o : Result FieldRead Refusal). e ≡ reading_of o) (λ _. refl) (λ _. refl)
  rule-after-is ok place (Err d) known = rw (lt-ltb 0 d.number known) refl

-- a reader's step, from the field it reads or the refusal it meets
abbrev pub step_said : ℕ → Result FieldRead Refusal → Step
step_said place (Ok f) = record { number = 0; place = f.place; value = f.value; next = f.next }
step_said place (Err d) = record { number = d.number; place = d.place; value = 0; next = place }

module _ (s : List ℕ) (place n low high number : ℕ) where
  step-stops : (k : ℕ) → field_of s n low high number (stands_at place) ≡ refused_at k place → step_of s place n low high number ≡ step_said place (Err (record { number = k; place = place }))
  step-stops k e = step-refused s place n low high number k e

  field-there : field_of s n low high number (stands_at place) ≡ read_at s n low high number place
  unfolding field_of
  field-there = refl

  pub step-is : step_of s place n low high number ≡ step_said place (field_at s place n low high number)
  unfolding read_at judged field_at
  step-is =
      let v = value_at s place n in
      let P : Reading → Result FieldRead Refusal → Type 0 = λ e o. field_of s n low high number (stands_at place) ≡ e → step_of s place n low high number ≡ step_said place o in
      both-by-test (ltb (length s) n) _ _ _ _ P (λ _ e. step-stops CUT e) (λ _.
      both-by-test (ltb (length s - n) place) _ _ _ _ P (λ _ e. step-stops CUT e) (λ _.
      both-by-test (ltb v low) _ _ _ _ P (λ _ e. step-stops number e) (λ _.
      both-by-test (ltb high v) _ _ _ _ P (λ _ e. step-stops number e) (λ _ e. step-got s place n low high number v e)))) field-there

-- and it stands where the reader stands after that answer
pub step-stands : (place : ℕ) (o : Result FieldRead Refusal) → (step_said place o).next ≡ place_after place o
step-stands place (Ok f) = refl
step-stands place (Err d) = refl
