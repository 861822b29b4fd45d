-- What rests on specs/Stepwise.antt.
use Prim.Native.Nat.{ℕ, zero, suc, ◌<◌, ◌≤◌}
use native.Mathlib.Omega.{arith}
use Rattle.std.specs.Prelude.{◌≡◌, List, leb, ltb, length, Result, IfOk, IfErr}
use Rattle.cursor.specs.declared.Header.{Header}
use Rattle.cursor.specs.declared.HeaderRefused.{HeaderRefused}
use Rattle.cursor.specs.Refusal.{COUNT, RANGE, SIZE, VERSION}
use Rattle.cursor.proofs.Outcome.{field-small}
use Rattle.cursor.specs.Header.{header_of, after_step, header_from}
use Rattle.cursor.specs.Answer.{field_at, header_answer, Headed}
use Rattle.std.proofs.Math.Path.{refl, ap, sym}
use Rattle.std.proofs.Common.{◌∙◌}
use borrow.Author.Tests.{lt-ltb}
use Rattle.cursor.specs.Reading.{Reading, Step}
use Rattle.cursor.specs.Field.{got_at, field_of, rule_of}
use Rattle.cursor.specs.Outcome.{by-test, read-outcome}
use Rattle.cursor.specs.declared.FieldRead.{FieldRead}
use Rattle.cursor.specs.declared.Refusal.{Refusal}
use Rattle.cursor.specs.Step.{step_of, place_after}
use Rattle.cursor.proofs.Says.{step_said, step-is, step-stands}
use Rattle.cursor.specs.Stepwise.{Stands, after-stands, from-there}

-- the header's bounds, of any bytes, refused ones too
module _ (s : List ℕ) where
  pub header-jobs : (header_of s).jobs ≤ 32
  unfolding header_of
  header-jobs = field-small s 1 0 32 COUNT (omega arith) _

  pub header-now : (header_of s).now ≤ 2147483647
  unfolding header_of
  header-now = field-small s 4 0 2147483647 RANGE (omega arith) _

  pub stepwise-headed : (o : Result Header HeaderRefused) → o ≡ header_answer (header_of s) → Headed s o
  unfolding header_answer
  stepwise-headed o e =
      let h = header_of s in
      record {
        is = e;
        small = rw e (by-test (ltb 0 h.reading.number) _ _ (λ (o : Result Header HeaderRefused). IfOk o (λ x. (x.jobs ≤ 32) × (x.now ≤ 2147483647))) (λ _. tt) (λ _. (header-jobs, header-now)));
        few = rw e (by-test (ltb 0 h.reading.number) _ _ (λ (o : Result Header HeaderRefused). IfErr o (λ x. x.jobs ≤ 32)) (λ _. header-jobs) (λ _. tt));
      }

module _ (s : List ℕ) where
  module _ (n low high number : ℕ) (known : 0 < number) where
    step_follows : (r : Reading) (place : ℕ) (x : Step) → Stands r place → x ≡ step_of s place n low high number → after_step r x ≡ field_of s n low high number r
    unfolding after_step field_of
    step_follows r place x stands e = by r.number refl
      where
        by : (k : ℕ) → r.number ≡ k → after_step r x ≡ field_of s n low high number r
        by zero z = rw (e, ← stands.here z) ((from-there s n low high number known) r z (read-outcome s n low high number known r.next))
        by (suc k) z = let h : 0 < r.number = omega arith in rw (lt-ltb 0 r.number h)

  -- THE HEADER from five steps, each from the next of the one before it
  pub stepwise : (size version jobs resources now : Step) → size ≡ step_of s 0 2 (length s) (length s) SIZE → version ≡ step_of s size.next 1 1 1 VERSION → jobs ≡ step_of s version.next 1 0 32 COUNT
      → resources ≡ step_of s jobs.next 1 0 32 COUNT → now ≡ step_of s resources.next 4 0 2147483647 RANGE → header_from (length s) size version jobs resources now ≡ header_of s
  unfolding header_from header_of rule_of
  stepwise size version jobs resources now e1 e2 e3 e4 e5 =
      let least = rule_of (leb 9 (length s)) SIZE 0 (got_at 0 0 0) in
      let after-length = after_step least size in
      let after-version = after_step after-length version in
      let after-jobs = after_step after-version jobs in
      let after-resources = after_step after-jobs resources in
      rw (
        step_follows 4 0 2147483647 RANGE (omega arith) after-resources resources.next now (after-stands after-jobs resources) e5,
        step_follows 1 0 32 COUNT (omega arith) after-jobs jobs.next resources (after-stands after-version jobs) e4,
        step_follows 1 0 32 COUNT (omega arith) after-version version.next jobs (after-stands after-length version) e3,
        step_follows 1 1 1 VERSION (omega arith) after-length size.next version (after-stands least size) e2,
        step_follows 2 (length s) (length s) SIZE (omega arith) least 0 size at_first e1,
      )
    where
      at_first : Stands (rule_of (leb 9 (length s)) SIZE 0 (got_at 0 0 0)) 0
      at_first = by-test (leb 9 (length s)) _ _ (λ (o : Reading). Stands o 0) (λ e. record { here = λ z. refl }) (λ e. record { here = λ z. refl })

  -- and from what a reader answers that carries its place, field by field: each from where the answer before it leaves the reader
  module _ (size version jobs resources now : Result FieldRead Refusal) where
    abbrev after_size : ℕ
    after_size = place_after 0 size

    abbrev after_version : ℕ
    after_version = place_after after_size version

    abbrev after_jobs : ℕ
    after_jobs = place_after after_version jobs

    abbrev after_resources : ℕ
    after_resources = place_after after_jobs resources

    step-read : (place n low high number : ℕ) {o : Result FieldRead Refusal} → o ≡ field_at s place n low high number → step_said place o ≡ step_of s place n low high number
    step-read place n low high number e = ap (step_said place) e ∙ sym (step-is s place n low high number)

    pub reader-stepwise : size ≡ field_at s 0 2 (length s) (length s) SIZE → version ≡ field_at s after_size 1 1 1 VERSION → jobs ≡ field_at s after_version 1 0 32 COUNT
        → resources ≡ field_at s after_jobs 1 0 32 COUNT → now ≡ field_at s after_resources 4 0 2147483647 RANGE
        → header_from (length s) (step_said 0 size) (step_said after_size version) (step_said after_version jobs) (step_said after_jobs resources) (step_said after_resources now) ≡ header_of s
    reader-stepwise e1 e2 e3 e4 e5 = stepwise _ _ _ _ _
        (step-read 0 2 (length s) (length s) SIZE e1)
        (rw (step-stands 0 size) (step-read after_size 1 1 1 VERSION e2))
        (rw (step-stands after_size version) (step-read after_version 1 0 32 COUNT e3))
        (rw (step-stands after_version jobs) (step-read after_jobs 1 0 32 COUNT e4))
        (rw (step-stands after_jobs resources) (step-read after_resources 4 0 2147483647 RANGE e5))
