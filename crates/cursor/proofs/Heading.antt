-- The header's ends, from the fields that were read: the first refusal met, or all five.
use Prim.Native.Nat.{ℕ, ◌-◌, ◌<◌, ◌≤◌}
use native.Mathlib.Omega.{arith}
use mathlib.Core.Path.{ap, ◌∙◌}
use Rattle.std.specs.Prelude.{◌≡◌, refl, List, length, ltb, Result, Err, Ok, MatchResult}
use Rattle.std.proofs.lemmas.Result.{MatchResult-weaker}
use borrow.Author.Tests.{lt-ltb, le-leb, lt-leb, ltb-true, ltb-false}
use Rattle.cursor.specs.Reading.{Reading, HeaderRead}
use Rattle.cursor.specs.declared.FieldRead.{FieldRead}
use Rattle.cursor.specs.declared.Refusal.{Refusal}
use Rattle.cursor.specs.Refusal.{SIZE, VERSION, COUNT, RANGE}
use Rattle.cursor.specs.declared.Header.{Header}
use Rattle.cursor.specs.declared.HeaderRefused.{HeaderRefused}
use Rattle.cursor.specs.Outcome.{by-test}
use Rattle.cursor.proofs.Outcome.{field-small}
use Rattle.cursor.specs.Field.{value_at, refused_at, got_at, judged, read_at, field_of, rule_of}
use Rattle.cursor.specs.Header.{header_of}
use Rattle.cursor.specs.Answer.{got, Refused, with_counts, header_answer, Headed}

answer-refused : (h : HeaderRead) {e : HeaderRefused} → Refused h.reading e.refusal → h.jobs ≡ e.jobs → h.resources ≡ e.resources → Err e ≡ header_answer h
unfolding header_answer
answer-refused h {e} r j k = rw (r.0, j, k, lt-ltb 0 e.refusal.number r.1) refl

-- what a field beside its counts says of the field
pub counted : (jobs resources : ℕ) (o : Result FieldRead Refusal) → MatchResult (with_counts jobs resources o) (λ f. o ≡ Ok f) (λ e. (o ≡ Err e.refusal) × (jobs ≡ e.jobs) × (resources ≡ e.resources))
counted jobs resources (Ok f) = refl
counted jobs resources (Err d) = (refl, refl, refl)

module _ (s : List ℕ) where
  pub too_short : length s < 9 → Headed s (Err (record { refusal = record { number = SIZE; place = 0 }; jobs = 0; resources = 0 }))
  unfolding header_of header_answer rule_of field_of
  too_short h = record { is = rw (lt-leb 9 (length s) h) refl; small = tt; few = omega arith }

  abbrev pub length_read : Reading
  length_read = field_of s 2 (length s) (length s) SIZE (got_at 0 0 0)

  abbrev pub version_read : Reading
  version_read = field_of s 1 1 1 VERSION length_read

  abbrev pub jobs_read : Reading
  jobs_read = field_of s 1 0 32 COUNT version_read

  abbrev pub resources_read : Reading
  resources_read = field_of s 1 0 32 COUNT jobs_read

  abbrev pub now_read : Reading
  now_read = field_of s 4 0 2147483647 RANGE resources_read

  module _ (enough : 9 ≤ length s) where
    heads : header_of s ≡ record { reading = now_read; jobs = jobs_read.value; resources = resources_read.value; now = now_read.value }
    unfolding header_of rule_of
    heads = rw (le-leb 9 (length s) enough) refl

    -- the first refusal met, and the two counts as far as they were read
    pub heading-refused : {e : HeaderRefused} → Refused now_read e.refusal → jobs_read.value ≡ e.jobs → resources_read.value ≡ e.resources → Headed s (Err e)
    heading-refused r j k = record { is = rw heads (answer-refused _ r j k); small = tt; few = omega (arith, j, field-small s 1 0 32 COUNT (omega arith) version_read) }

    pub headed : (jobs resources now : FieldRead) → (jobs_read ≡ got jobs) × (jobs.value ≤ 32) → resources_read ≡ got resources → (now_read ≡ got now) × (now.value ≤ 2147483647)
        → Headed s (Ok (record { jobs = jobs.value; resources = resources.value; now = now.value; last = now }))
    unfolding header_answer
    headed jobs resources now j r n = record { is = rw (heads, n.0, r, j.0) refl; small = (j.1, n.1); few = tt }

-- and back: what the answer means of the header's definition
module _ (s : List ℕ) where
  refusal-plain : (n low high number : ℕ) (r : Reading) → let e = field_of s n low high number r in 0 < e.number → e ≡ refused_at e.number e.place
  unfolding field_of read_at judged
  refusal-plain n low high number r =
      let v = value_at s r.next n in
      let P : Reading → Type 0 = λ e. 0 < e.number → e ≡ refused_at e.number e.place in
      by-test (ltb 0 r.number) _ _ P (λ _ h. refl) (λ _.
      by-test (ltb (length s) n) _ _ P (λ _ h. refl) (λ _.
      by-test (ltb (length s - n) r.next) _ _ P (λ _ h. refl) (λ _.
      by-test (ltb v low) _ _ P (λ _ h. refl) (λ _.
      by-test (ltb high v) _ _ P (λ _ h. refl) (λ _ h. absurd (omega arith))))))

  heading-plain : let e = (header_of s).reading in 0 < e.number → e ≡ refused_at e.number e.place
  unfolding header_of
  heading-plain h = refusal-plain 4 0 2147483647 RANGE _ h

  -- after a refusal the reading's value is 0, and it is the header's now
  abbrev RefusedAs : HeaderRead → HeaderRefused → Type 0
  RefusedAs h e = (h ≡ record { reading = refused_at e.refusal.number e.refusal.place; jobs = e.jobs; resources = e.resources; now = 0 }) × (0 < e.refusal.number)

  now-is-read : (header_of s).now ≡ (header_of s).reading.value
  unfolding header_of
  now-is-read = refl

  pub header-means : MatchResult (header_answer (header_of s)) (λ h. header_of s ≡ record { reading = got h.last; jobs = h.jobs; resources = h.resources; now = h.now }) (RefusedAs (header_of s))
  unfolding header_answer
  header-means =
      let h = header_of s in
      by-test (ltb 0 h.reading.number) _ _ (λ (o : Result Header HeaderRefused). MatchResult o (λ x. h ≡ record { reading = got x.last; jobs = x.jobs; resources = x.resources; now = x.now }) (RefusedAs h))
      (λ e. let known = ltb-true 0 h.reading.number e in
      let plain = heading-plain known in
      let zero-now : h.now ≡ 0 = now-is-read ∙ ap (λ (r : Reading). r.value) plain in
      ((λ i. record { reading = plain i; jobs = h.jobs; resources = h.resources; now = zero-now i }), known))
      (λ e. let z : h.reading.number ≡ 0 = omega (arith, ltb-false 0 h.reading.number e) in
      λ i. record { reading = record { number = z i; place = h.reading.place; next = h.reading.next; value = h.reading.value }; jobs = h.jobs; resources = h.resources; now = h.now })

  -- the refusal alone, for callers that pass it on
  pub header-refuses : MatchResult (header_answer (header_of s)) (λ h. header_of s ≡ record { reading = got h.last; jobs = h.jobs; resources = h.resources; now = h.now }) (λ e. Refused (header_of s).reading e.refusal)
  header-refuses = MatchResult-weaker (header_answer (header_of s)) header-means (λ h q. q) (λ e q. (ap (λ (h : HeaderRead). h.reading) q.0, q.1))
