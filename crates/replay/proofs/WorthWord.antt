-- What rests on specs/WorthWord.antt.
use Rattle.std.specs.Prelude.{◌≡◌, refl, List, ℕ, ◌<◌}
use Rattle.std.proofs.Common.{sym, ◌∙◌, inl, inr, arith}
use Rattle.laws.specs.Search.{lt-or-le}
use Rattle.accepted.specs.Layout.{Bytes}
use Rattle.accepted.specs.Reach.{worth-near}
use Rattle.accepted.specs.CurveBytes.{AloneKept}
use Rattle.accepted.proofs.CurveBytes.{curve-exactly, worth-alone, worth-alone-small}
use Rattle.ilhuepatl.specs.Verdict.{Verdict}
use Rattle.ilhuepatl.specs.Calls.{verdict_of, word, worth_bits, word_of_worth}
use Rattle.ilhuepatl.specs.Outcomes.{worth-refused, worth-told}
use Rattle.replay.specs.Words.{word_number, word-place}
use Rattle.replay.specs.WorthWord.{WorthWord, w, worth-below, worth-read}

module _ (s : List ℕ) (t : ℕ) (b : Bytes s) where
  refused : 0 < (w s t b).number → WorthWord s t
  refused l =
      let v : Verdict = verdict_of (w s t b).number (w s t b).place in
      let e : word_of_worth (w s t b) ≡ word v = sym (worth-refused refl l refl) in
      let none : AloneKept s → ⊥ = λ a. omega (arith, (curve-exactly s t b).1 a) in
      record {
        exactly = (λ x. none, λ x. rw e (omega (arith, word_number v)));
        refusal = λ x. (rw e (word_number v), rw e (word-place v (omega (arith, worth-near s t))));
        worth = λ a. absurd (none a);
      }

  told : (w s t b).number ≡ 0 → WorthWord s t
  told n =
      let e : word_of_worth (w s t b) ≡ worth_bits (w s t b).worth = sym (worth-told refl (omega arith) refl) in
      let kept = (curve-exactly s t b).0 n in
      record {
        exactly = (λ x. absurd (omega (arith, x, e, worth-below (w s t b).worth)), λ no. absurd (no kept));
        refusal = λ no. absurd (no kept);
        worth = λ a. rw e (worth-read (w s t b).worth (worth-alone-small s t n) ∙ worth-alone s t n);
      }

  pub worth_word : WorthWord s t
  worth_word = elim (lt-or-le 0 (w s t b).number) [
    | inl l ↦ refused l
    | inr l ↦ told (omega arith)
  ]
