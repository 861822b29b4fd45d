-- What rests on specs/Words.antt.
use Rattle.std.specs.Prelude.{◌≡◌, refl, true, false, cond, ◌↔◌, List, ℕ, zero, suc, ◌+◌, ◌*◌, ◌%◌, ◌<◌, ◌≤◌, length}
use Rattle.std.proofs.Common.{sym, ap, ◌∙◌, inl, inr, arith}
use Rattle.book.specs.Read.{Found}
use Rattle.book.specs.Format.{book_of}
use Rattle.book.specs.Question.{found_in}
use Rattle.accepted.specs.Layout.{Bytes}
use Rattle.accepted.specs.Reach.{refusal-near}
use Rattle.accepted.proofs.Spans.{accepted-laid}
use Rattle.invariants.proofs.Knot.{knot-is}
use Rattle.gus.specs.declared.Part.{Part}
use Rattle.cursor.specs.Refusal.{KNOT}
use Rattle.opening.specs.Planned.{view_from, answer_from}
use Rattle.opening.proofs.Opened.{accepted-opened}
use Rattle.planner.specs.Plans.{FirstPart}
use Rattle.planner.specs.Planned.{planned_of}
use Rattle.planner.specs.First.{first_in}
use Rattle.ilhuepatl.specs.Verdict.{Verdict}
use Rattle.ilhuepatl.specs.Calls.{verdict_of, outcome_of, word, record_word, part_word, first_word}
use Rattle.ilhuepatl.specs.Outcomes.{word-refused, word-found, first-refused, first-answered}
use Rattle.replay.specs.Sentences.{part_at}
use Rattle.replay.specs.Parts.{part-proper}
use Rattle.replay.specs.Fits.{answer-fits}
use Rattle.planner.specs.Ends.{knot_in}
use Rattle.replay.specs.Refuses.{Clear, Given, small, reader, knot, none, kept, not-kept, clear, given_out}
use Rattle.replay.specs.First.{FirstGiven, broken, knotted, empty, first, first-given}
use Rattle.replay.specs.Asked.{Asked, refused, there, missing, asked}
use Rattle.replay.specs.Words.{FirstWord, PlanWord, RecordWord, few_bytes, halves, jobs_are, mode-short, no_knot, no_word, part-word, short, three, word-place, word_number}

-- a verdict's place has 32 bits
module _ (s : List ℕ) (b : Bytes s) {room least : ℕ} where
  zero_of : {v : Verdict} → Given s room least v → (word v ≡ 0) ↔ Clear s room least
  zero_of {v} (small h) = (λ e. absurd (omega (arith, word_number v)), λ x. absurd (omega (arith, x.0)))
  zero_of {v} (reader h l) = (λ e. absurd (omega (arith, word_number v)), λ x. absurd (not-kept s b l x.1))
  zero_of {v} (knot h e l) = (λ z. absurd (omega (arith, word_number v)), λ x. absurd (x.2 (knot_in s) (knot-is (view_from (book_of s)) (book_of s).now l).0))
  zero_of {v} (none h e l) = (λ z. (h, kept s b e, no_knot s l), λ x. no_word)

pub plan-word : (s out : List ℕ) → Bytes s → PlanWord s out
plan-word s out b = record {
  number = word_number (outcome_of s out).verdict;
  place = word-place (outcome_of s out).verdict (short s b (given_out s out));
  zero = zero_of s b (given_out s out);
}

module _ (s : List ℕ) (job : ℕ) (b : Bytes s) where
  word_of : {f : Found} → Asked s job f → RecordWord s job f
  word_of {f} (refused l) =
      let v : Verdict = verdict_of (book_of s).number (book_of s).place in
      let w : record_word f ≡ word v = sym (word-refused {f = f} refl l refl) in
      record {
        exactly = (λ x. not-kept s b l, λ x. omega (arith, word_number v));
        refusal = λ x. (rw w (word_number v), rw w (word-place v (omega (arith, (refusal-near s).place))));
        record_place = λ k. absurd (not-kept s b l k);
        zero = (λ z. absurd (omega (arith, word_number v)), λ x. absurd (not-kept s b l x.0));
      }
  word_of {f} (there e h) =
      let w : f.start % 65536 * 65536 + f.end % 65536 ≡ record_word f = word-found {f = f} refl (omega arith) in
      let some : f.start < f.end = (accepted-laid s e).some job h in
      let end : f.end ≤ 65535 = omega (arith, (accepted-laid s e).inside job h, (few_bytes s job b) e) in
      record {
        exactly = (λ x. absurd (omega arith), λ n. absurd (n (kept s b e)));
        refusal = λ n. absurd (n (kept s b e));
        record_place = λ k. let z = halves f.start f.end (record_word f) (omega arith) end w in (omega (arith, z.0), omega (arith, z.1));
        zero = (λ z. absurd (omega arith), λ x. absurd (omega (arith, x.1, (jobs_are s job b) e)));
      }
  word_of {f} (missing e h) =
      let w : f.start % 65536 * 65536 + f.end % 65536 ≡ record_word f = word-found {f = f} refl (omega arith) in
      record {
        exactly = (λ x. absurd (omega arith), λ n. absurd (n (kept s b e)));
        refusal = λ n. absurd (n (kept s b e));
        record_place = λ k. (omega arith, omega arith);
        zero = (λ z. (kept s b e, omega (arith, (jobs_are s job b) e)), λ x. omega arith);
      }

  pub record-word : RecordWord s job (found_in s job)
  record-word = word_of (asked s job)

module _ (s : List ℕ) (b : Bytes s) where
  first_of : {f : FirstPart} → FirstGiven s f → FirstWord s f
  first_of {f} (broken l) =
      let v : Verdict = verdict_of (book_of s).number (book_of s).place in
      let w : first_word f ≡ word v = sym (first-refused {f = f} refl l refl) in
      record {
        exactly = (λ x. inr (inl (not-kept s b l)), λ x. omega (arith, word_number v));
        refusal = λ x. (rw w (word_number v), rw w (word-place v (omega (arith, (refusal-near s).place))));
        part = λ p ps c q. absurd (not-kept s b l c.1);
        zero = (λ z. absurd (omega (arith, word_number v)), λ x. absurd (not-kept s b l x.0.1));
      }
  first_of {f} (knotted e l) =
      let v : Verdict = verdict_of KNOT (knot_in s) in
      let w : first_word f ≡ word v = sym (first-refused {f = f} refl (omega arith) refl) in
      let k = (knot-is (view_from (book_of s)) (book_of s).now l).0 in
      record {
        exactly = (λ x. inr (inr (kept s b e, (knot_in s, k))), λ x. omega (arith, word_number v));
        refusal = λ x. (rw w (word_number v), rw w (word-place v (omega arith)));
        part = λ p ps c q. absurd (c.2 (knot_in s) k);
        zero = (λ z. absurd (omega (arith, word_number v)), λ x. absurd (x.0.2 (knot_in s) k));
      }
  first_of {f} (empty e l q) =
      let w : first_word f ≡ 0 = sym (first-answered {f = f} refl false (omega arith) refl refl) in
      record {
        exactly = (λ x. absurd (omega arith), λ x. absurd (clear s b (omega arith) e l x));
        refusal = λ x. absurd (clear s b (omega arith) e l x);
        part = λ p ps c r. absurd (omega (arith, ap length (sym q ∙ r)));
        zero = (λ z. ((omega arith, kept s b e, no_knot s l), q), λ x. w);
      }
  first_of {f} (first p ps e l q) =
      let parts : List Part = (answer_from (book_of s)).plan.parts in
      let some : 0 < length parts = omega (arith, ap length q) in
      let fits = answer-fits s e l in
      let head : part_at parts 0 ≡ p = ap (λ (x : List Part). part_at x 0) q in
      let job : p.job ≤ 255 = omega (arith, fits.jobs 0 some, ap (λ (x : Part). x.job) head) in
      let time : p.time ≤ 65535 = omega (arith, fits.times 0 some, ap (λ (x : Part). x.time) head) in
      let above : 1 ≤ p.time = omega (arith, (part-proper 0 ((accepted-opened s e).planned l).replayed.replay some).some, ap (λ (x : Part). x.time) head) in
      let w : part_word p ≡ first_word f = first-answered {f = f} refl true (omega arith) refl refl in
      let back = three p.job (cond p.rolling 1 0) p.time (mode-short p.rolling) time (first_word f) (part-word p ∙ w) in
      record {
        exactly = (λ x. absurd (omega (arith, back.0)), λ x. absurd (clear s b (omega arith) e l x));
        refusal = λ x. absurd (clear s b (omega arith) e l x);
        part = λ p' ps' c r. let same = ap (λ (x : List Part). part_at x 0) (sym q ∙ r) in (omega (arith, back.0, ap (λ (x : Part). x.job) same), back.1 ∙ ap (λ (x : Part). cond x.rolling 1 0) same, omega (arith, back.2, ap (λ (x : Part). x.time) same));
        zero = (λ z. absurd (omega (arith, back.2)), λ x. absurd (omega (arith, ap length (sym q ∙ x.1))));
      }

  pub first-word : FirstWord s (first_in (planned_of s))
  first-word = first_of (first-given s)

-- A PART IS NEVER 0
pub first-told : (s : List ℕ) → Bytes s → Clear s 0 0 → 0 < length (answer_from (book_of s)).plan.parts → 0 < first_word (first_in (planned_of s))
first-told s b c some = above (λ z. omega (arith, ap length ((first-word s b).zero.0 z).1))
  where
    above : {n : ℕ} → (n ≡ 0 → ⊥) → 0 < n
    above {n = zero} h = absurd (h refl)
    above {n = suc n} h = omega arith
