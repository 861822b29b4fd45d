-- `cursor::head::header` meets its contract. What is read of the five fields is a fact over their answers; the exits of the code cite it up to where they left.
use Prim.Native.Nat.{ℕ, ◌<◌, ◌≤◌}
use mathlib.Core.Path.{◌≡◌, ◌∙◌, refl, ap, sym}
use native.Mathlib.Omega.{arith}
use mathlib.Core.List.{List}
use Rattle.std.specs.Prelude.{length, Result, Ok, Err}
use Rattle.std.specs.Borrow.{Bor}
use Rattle.std.specs.Result.{IsErrAnd}
use Rattle.std.proofs.lemmas.Result.{err_from_is_err_and, MatchResult-at_ok, MatchResult-at_err}
use Rattle.cursor.specs.declared.FieldRead.{FieldRead}
use Rattle.cursor.specs.declared.Refusal.{Refusal}
use Rattle.cursor.specs.declared.Header.{Header}
use Rattle.cursor.specs.declared.HeaderRefused.{HeaderRefused}
use Rattle.cursor.specs.declared.reader.BookReader.{BookReader}
use Rattle.cursor.specs.declared.reader.NextField.{NextField}
use Rattle.cursor.specs.Refusal.{SIZE, VERSION, COUNT, RANGE}
use Rattle.cursor.specs.Reading.{Reading}
use Rattle.cursor.specs.Field.{got_at, field_of}
use Rattle.cursor.specs.Step.{place_after}
use Rattle.cursor.specs.Answer.{field_at, got, Refused, Says, with_counts, Headed}
use Rattle.cursor.proofs.Says.{field-follows, field-stays, at_ok, at_err}
use Rattle.cursor.proofs.Heading.{counted, too_short, length_read, version_read, jobs_read, resources_read, heading-refused, headed}
use Rattle.cursor.proofs.head.header.Goals as goal

-- a reader of the book s at a place
abbrev Opened : Bor (List ℕ) → ℕ → BookReader → Type 0
Opened s p r = (r.book ≡ s) × (r.place ≡ p)

-- what the reader d gives for a field
abbrev Gives : BookReader → ℕ → ℕ → ℕ → ℕ → NextField → Type 0
Gives d n low high number x = (x.field ≡ field_at d.book.now d.place n low high number) × (x.rest.book ≡ d.book) × (x.rest.place ≡ place_after d.place x.field)

-- e is what was read, with the reader that goes on from there
abbrev Read : Bor (List ℕ) → Reading → FieldRead → ℕ → BookReader → Type 0
Read s e f high d = ((e ≡ got f) × (f.value ≤ high)) × Opened s f.next d

module _ {s : Bor (List ℕ)} {e : Reading} {f : FieldRead} {most : ℕ} {d : BookReader} (before : Read s e f most d) (n low high number : ℕ) (known : 0 < number) {x : NextField} (gives : Gives d n low high number x) where
  says : Says (field_of s.now n low high number e) high x.field
  says = field-follows s.now n low high number known f before.0.0 (rw (← before.1.0, ← before.1.1) gives.0)

  then : (jobs resources : ℕ) {o : Result FieldRead HeaderRefused} {g : FieldRead} → o ≡ with_counts jobs resources x.field → o ≡ Ok g → Read s (field_of s.now n low high number e) g high x.rest
  then jobs resources is was =
      let read = MatchResult-at_ok _ _ _ (sym is ∙ was) (counted jobs resources x.field) in
      (at_ok high says read, (gives.1 ∙ before.1.0, rw read at gives.2))

  stops : (jobs resources : ℕ) {o : Result FieldRead HeaderRefused} {r : HeaderRefused} → o ≡ with_counts jobs resources x.field → o ≡ Err r → Refused (field_of s.now n low high number e) r.refusal × (jobs ≡ r.jobs) × (resources ≡ r.resources)
  stops jobs resources is was =
      let met = MatchResult-at_err _ _ _ (sym is ∙ was) (counted jobs resources x.field) in
      (at_err high says met.0, met.1, met.2)

-- an exit by `?` hands the refusal on
handed : {s : List ℕ} {e : HeaderRefused} (o : Result Header HeaderRefused) → IsErrAnd o (λ y. y ≡ e) → Headed s (Err e) → Headed s o
handed o e h = let p = err_from_is_err_and o e in rw (p.1, p.2) h

-- a count that was not read is 0
unread : {r : Reading} {d : Refusal} {n : ℕ} → Refused r d → 0 ≡ n → r.value ≡ n
unread met e = ap (λ (r : Reading). r.value) met.0 ∙ e

-- The five fields one after the other, as the code has them: x is what the reader gives, and o the same beside the counts.
-- Of each the refusal, and of all five the header.
module _ {s : Bor (List ℕ)} (enough : 9 ≤ length s.now) {d : BookReader} (opened : Opened s 0 d) {x₁ : NextField} (gives₁ : Gives d 2 (length s.now) (length s.now) SIZE x₁) {o₁ : Result FieldRead HeaderRefused} (is₁ : o₁ ≡ with_counts 0 0 x₁.field) where
  begun : Read s (got_at 0 0 0) (record { place = 0; next = 0; value = 0 }) 0 d
  begun = ((refl, omega arith), opened)

  -- what is refused before the counts leaves them unread
  refused-early : {e : HeaderRefused} → Refused (version_read s.now) e.refusal → 0 ≡ e.jobs → 0 ≡ e.resources → Headed s.now (Err e)
  refused-early r j k =
      let jobs = field-stays r s.now 1 0 32 COUNT in
      let resources = field-stays jobs s.now 1 0 32 COUNT in
      heading-refused s.now enough (field-stays resources s.now 4 0 2147483647 RANGE) (unread jobs j) (unread resources k)

  length-refused : {e : HeaderRefused} → o₁ ≡ Err e → Headed s.now (Err e)
  length-refused was =
      let r = stops begun 2 (length s.now) (length s.now) SIZE (omega arith) gives₁ 0 0 is₁ was in
      refused-early (field-stays r.0 s.now 1 1 1 VERSION) r.1 r.2

  module _ {f₁ : FieldRead} (was₁ : o₁ ≡ Ok f₁) {x₂ : NextField} (gives₂ : Gives x₁.rest 1 1 1 VERSION x₂) {o₂ : Result FieldRead HeaderRefused} (is₂ : o₂ ≡ with_counts 0 0 x₂.field) where
    length-then : Read s (length_read s.now) f₁ (length s.now) x₁.rest
    length-then = then begun 2 (length s.now) (length s.now) SIZE (omega arith) gives₁ 0 0 is₁ was₁

    version-refused : {e : HeaderRefused} → o₂ ≡ Err e → Headed s.now (Err e)
    version-refused was = let r = stops length-then 1 1 1 VERSION (omega arith) gives₂ 0 0 is₂ was in refused-early r.0 r.1 r.2

    module _ {f₂ : FieldRead} (was₂ : o₂ ≡ Ok f₂) {x₃ : NextField} (gives₃ : Gives x₂.rest 1 0 32 COUNT x₃) {o₃ : Result FieldRead HeaderRefused} (is₃ : o₃ ≡ with_counts 0 0 x₃.field) where
      version-then : Read s (version_read s.now) f₂ 1 x₂.rest
      version-then = then length-then 1 1 1 VERSION (omega arith) gives₂ 0 0 is₂ was₂

      jobs-refused : {e : HeaderRefused} → o₃ ≡ Err e → Headed s.now (Err e)
      jobs-refused was =
          let r = stops version-then 1 0 32 COUNT (omega arith) gives₃ 0 0 is₃ was in
          let resources = field-stays r.0 s.now 1 0 32 COUNT in
          heading-refused s.now enough (field-stays resources s.now 4 0 2147483647 RANGE) (unread r.0 r.1) (unread resources r.2)

      module _ {f₃ : FieldRead} (was₃ : o₃ ≡ Ok f₃) {x₄ : NextField} (gives₄ : Gives x₃.rest 1 0 32 COUNT x₄) {o₄ : Result FieldRead HeaderRefused} (is₄ : o₄ ≡ with_counts f₃.value 0 x₄.field) where
        jobs-then : Read s (jobs_read s.now) f₃ 32 x₃.rest
        jobs-then = then version-then 1 0 32 COUNT (omega arith) gives₃ 0 0 is₃ was₃

        jobs-are : (jobs_read s.now).value ≡ f₃.value
        jobs-are = ap (λ (r : Reading). r.value) jobs-then.0.0

        resources-refused : {e : HeaderRefused} → o₄ ≡ Err e → Headed s.now (Err e)
        resources-refused was =
            let r = stops jobs-then 1 0 32 COUNT (omega arith) gives₄ f₃.value 0 is₄ was in
            heading-refused s.now enough (field-stays r.0 s.now 4 0 2147483647 RANGE) (jobs-are ∙ r.1) (unread r.0 r.2)

        module _ {f₄ : FieldRead} (was₄ : o₄ ≡ Ok f₄) {x₅ : NextField} (gives₅ : Gives x₄.rest 4 0 2147483647 RANGE x₅) {o₅ : Result FieldRead HeaderRefused} (is₅ : o₅ ≡ with_counts f₃.value f₄.value x₅.field) where
          resources-then : Read s (resources_read s.now) f₄ 32 x₄.rest
          resources-then = then jobs-then 1 0 32 COUNT (omega arith) gives₄ f₃.value 0 is₄ was₄

          now-refused : {e : HeaderRefused} → o₅ ≡ Err e → Headed s.now (Err e)
          now-refused was =
              let r = stops resources-then 4 0 2147483647 RANGE (omega arith) gives₅ f₃.value f₄.value is₅ was in
              heading-refused s.now enough r.0 (jobs-are ∙ r.1) (ap (λ (r : Reading). r.value) resources-then.0.0 ∙ r.2)

          all-read : {f₅ : FieldRead} → o₅ ≡ Ok f₅ → Headed s.now (Ok (record { jobs = f₃.value; resources = f₄.value; now = f₅.value; last = f₅ }))
          all-read was =
              let now-then = then resources-then 4 0 2147483647 RANGE (omega arith) gives₅ f₃.value f₄.value is₅ was in
              headed s.now enough f₃ f₄ _ jobs-then.0 resources-then.0.0 now-then.0

pub returns-then-bytes-lt9 : goal.returns-then-bytes-lt9
returns-then-bytes-lt9 c = too_short c.args.s.now c.if-bytes-lt9.true

pub returns-in_err-with_counts : goal.returns-in_err-with_counts
returns-in_err-with_counts c = handed c.from_residual.result c.from_residual.ensures.1 (length-refused c.if-bytes-lt9.false c.open_reader.ensures c.next_field-length.ensures c.with_counts.ensures c.in_err-with_counts.was)

pub returns-in_err-with_counts-2 : goal.returns-in_err-with_counts-2
returns-in_err-with_counts-2 c = handed c.from_residual-in_err-with_counts-2.result c.from_residual-in_err-with_counts-2.ensures.1 (version-refused c.if-bytes-lt9.false c.open_reader.ensures c.next_field-length.ensures c.with_counts.ensures c.in_ok-with_counts.was c.next_field-version.ensures c.with_counts-2.ensures c.in_err-with_counts-2.was)

pub returns-in_err-job_count : goal.returns-in_err-job_count
returns-in_err-job_count c = handed c.from_residual-in_err-job_count.result c.from_residual-in_err-job_count.ensures.1 (jobs-refused c.if-bytes-lt9.false c.open_reader.ensures c.next_field-length.ensures c.with_counts.ensures c.in_ok-with_counts.was c.next_field-version.ensures c.with_counts-2.ensures c.in_ok-with_counts-2.was c.next_field-jobs.ensures c.with_counts-3.ensures c.in_err-job_count.was)

pub returns-in_err-resource_count : goal.returns-in_err-resource_count
returns-in_err-resource_count c = handed c.from_residual-in_err-resource_count.result c.from_residual-in_err-resource_count.ensures.1 (resources-refused c.if-bytes-lt9.false c.open_reader.ensures c.next_field-length.ensures c.with_counts.ensures c.in_ok-with_counts.was c.next_field-version.ensures c.with_counts-2.ensures c.in_ok-with_counts-2.was c.next_field-jobs.ensures c.with_counts-3.ensures c.in_ok-job_count.was c.next_field-resources.ensures c.with_counts-4.ensures c.in_err-resource_count.was)

pub returns-in_err-moment : goal.returns-in_err-moment
returns-in_err-moment c = handed c.from_residual-in_err-moment.result c.from_residual-in_err-moment.ensures.1 (now-refused c.if-bytes-lt9.false c.open_reader.ensures c.next_field-length.ensures c.with_counts.ensures c.in_ok-with_counts.was c.next_field-version.ensures c.with_counts-2.ensures c.in_ok-with_counts-2.was c.next_field-jobs.ensures c.with_counts-3.ensures c.in_ok-job_count.was c.next_field-resources.ensures c.with_counts-4.ensures c.in_ok-resource_count.was c.next_field-now.ensures c.with_counts-5.ensures c.in_err-moment.was)

pub returns : goal.returns
returns c = all-read c.if-bytes-lt9.false c.open_reader.ensures c.next_field-length.ensures c.with_counts.ensures c.in_ok-with_counts.was c.next_field-version.ensures c.with_counts-2.ensures c.in_ok-with_counts-2.was c.next_field-jobs.ensures c.with_counts-3.ensures c.in_ok-job_count.was c.next_field-resources.ensures c.with_counts-4.ensures c.in_ok-resource_count.was c.next_field-now.ensures c.with_counts-5.ensures c.in_ok-moment.was
