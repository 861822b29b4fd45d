-- The ways each call ends: no room, a refusal, an answer.
use Rattle.std.specs.Prelude.{◌≡◌, Bool, List, ℕ, ◌+◌, ◌*◌, ◌%◌, ◌<◌, ◌≤◌, nat_abs, length}
use Rattle.std.proofs.Math.Path.{sym, ap}
use Rattle.std.proofs.Common.{◌∙◌, arith, lt-ltb, le-ltb}
use Rattle.std.proofs.Math.Bool.{true, false}
use Rattle.laws.specs.Stores.{over}
use Rattle.cursor.specs.Refusal.{ROOM}
use Rattle.curve.specs.Worth.{amount}
use Rattle.book.specs.Read.{Found, CurveWorth}
use Rattle.book.specs.CurveWorth.{curve_worth}
use Rattle.accepted.proofs.CurveBytes.{worth-alone-small}
use Rattle.planner.specs.Plans.{Planned, FirstPart}
use Rattle.planner.specs.Planned.{planned_of}
use Rattle.ilhuepatl.specs.Verdict.{Verdict}
use Rattle.ilhuepatl.specs.Answer.{answer_bytes}
use Rattle.ilhuepatl.specs.Calls.{Outcome, verdict_of, by_plan, outcome_of, word, record_word, part_word, first_word, worth_bits, word_of_worth}

-- with room the plan decides
pub room : (book out : List ℕ) → 430 ≤ length out → {p : Planned} → p ≡ planned_of book → by_plan p out ≡ outcome_of book out
unfolding outcome_of
room book out h e = ap (λ (x : Planned). by_plan x out) e ∙ sym (ap (λ (b : Bool). elim b as (λ _. Outcome) [ true ↦ record { verdict = verdict_of ROOM 0; out = out } | false ↦ by_plan (planned_of book) out ]) (le-ltb (length out) 430 h))

module _ (book out : List ℕ) {v : Verdict} where
  pub no_room : length out < 430 → v ≡ verdict_of ROOM 0 → record { verdict = v; out = out } ≡ outcome_of book out
  unfolding outcome_of
  no_room h e = ap (λ (x : Verdict). record { verdict = x; out = out }) e ∙ sym (ap (λ (b : Bool). elim b as (λ _. Outcome) [ true ↦ record { verdict = verdict_of ROOM 0; out = out } | false ↦ by_plan (planned_of book) out ]) (lt-ltb (length out) 430 h))

  module _ (h : 430 ≤ length out) {p : Planned} (e : p ≡ planned_of book) where
    pub refused : 0 < p.number → v ≡ verdict_of p.number p.place → record { verdict = v; out = out } ≡ outcome_of book out
    refused l q =
        ap (λ (x : Verdict). record { verdict = x; out = out }) q
        ∙ sym (ap (λ (b : Bool). elim b as (λ _. Outcome) [ true ↦ record { verdict = verdict_of p.number p.place; out = out } | false ↦ record { verdict = verdict_of 0 0; out = over (answer_bytes p) out } ]) (lt-ltb 0 p.number l))
        ∙ room book out h e

    pub answered : p.number ≤ 0 → v ≡ verdict_of 0 0 → {out' : List ℕ} → out' ≡ over (answer_bytes p) out → record { verdict = v; out = out' } ≡ outcome_of book out
    answered l q w =
        (λ i. record { verdict = q i; out = w i })
        ∙ sym (ap (λ (b : Bool). elim b as (λ _. Outcome) [ true ↦ record { verdict = verdict_of p.number p.place; out = out } | false ↦ record { verdict = verdict_of 0 0; out = over (answer_bytes p) out } ]) (le-ltb 0 p.number l))
        ∙ room book out h e

-- the two ways of the record question, in one number
module _ {f g : Found} (e : f ≡ g) where
  pub word-refused : 0 < f.number → {n : ℕ} → n ≡ word (verdict_of f.number f.place) → n ≡ record_word g
  unfolding record_word
  word-refused l q = q ∙ sym (ap (λ (b : Bool). elim b as (λ _. ℕ) [ true ↦ word (verdict_of f.number f.place) | false ↦ f.start % 65536 * 65536 + f.end % 65536 ]) (lt-ltb 0 f.number l)) ∙ ap record_word e

  pub word-found : f.number ≤ 0 → f.start % 65536 * 65536 + f.end % 65536 ≡ record_word g
  unfolding record_word
  word-found l = sym (ap (λ (b : Bool). elim b as (λ _. ℕ) [ true ↦ word (verdict_of f.number f.place) | false ↦ f.start % 65536 * 65536 + f.end % 65536 ]) (le-ltb 0 f.number l)) ∙ ap record_word e

-- the three ways of the first part, in one number
abbrev pub told : FirstPart → Bool → Bool → ℕ
told f refused some = elim refused as (λ _. ℕ) [ true ↦ word (verdict_of f.number f.place) | false ↦ elim some as (λ _. ℕ) [ true ↦ part_word f.part | false ↦ 0 ] ]

module _ {f g : FirstPart} (e : f ≡ g) {n : ℕ} where
  pub first-refused : 0 < f.number → n ≡ word (verdict_of f.number f.place) → n ≡ first_word g
  unfolding first_word
  first-refused l q = q ∙ sym (ap (λ (x : Bool). told f x f.some) (lt-ltb 0 f.number l)) ∙ ap first_word e

  pub first-answered : (some : Bool) → f.number ≤ 0 → f.some ≡ some → n ≡ told f false some → n ≡ first_word g
  unfolding first_word
  first-answered some l h q = q ∙ sym (λ i. told f (le-ltb 0 f.number l i) (h i)) ∙ ap first_word e

-- the two ways of a curve's worth, in one number
abbrev worth_by : CurveWorth → Bool → ℕ
worth_by w refused = elim refused as (λ _. ℕ) [ true ↦ word (verdict_of w.number w.place) | false ↦ worth_bits w.worth ]

module _ {w v : CurveWorth} (e : w ≡ v) {n : ℕ} where
  pub worth-refused : 0 < w.number → n ≡ word (verdict_of w.number w.place) → n ≡ word_of_worth v
  unfolding word_of_worth
  worth-refused l q = q ∙ sym (ap (worth_by w) (lt-ltb 0 w.number l)) ∙ ap word_of_worth e

  pub worth-told : w.number ≤ 0 → n ≡ worth_bits w.worth → n ≡ word_of_worth v
  unfolding word_of_worth
  worth-told l q = q ∙ sym (ap (worth_by w) (le-ltb 0 w.number l)) ∙ ap word_of_worth e

-- which is at most a million away from 0
pub worth-small : (s : List ℕ) (t : ℕ) {w : CurveWorth} → w ≡ curve_worth s t → w.number ≤ 0 → nat_abs (amount w.worth) ≤ 1000000
worth-small s t {w} e l =
    let none : (curve_worth s t).number ≡ 0 = omega (arith, ap (λ (x : CurveWorth). x.number) e) in
    rw e (worth-alone-small s t none)
