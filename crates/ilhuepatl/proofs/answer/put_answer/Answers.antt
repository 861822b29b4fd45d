-- `ilhuepatl::answer::put_answer`: its calls are the answer's four runs of stores.
use Rattle.std.proofs.Common.{◌≡◌, ◌∙◌, sym, ap, arith, List, ℕ, ℤ, ◌∷◌, ◌++◌, ◌+◌, ◌-◌, ◌*◌, ◌≤◌, length, take, drop, set, length-set, length-append, length-take-le}
use Rattle.std.proofs.Math.Seq.{length-sets}
use Rattle.std.proofs.lemmas.List.Edits.{sets}
use borrow.Author.Rules.{rules}
use borrow.Rule.Slice.PartMut.{put_mid, mid_of}
use mir.Syntax.{w32}
use mir.Val.{SFits}
use mir.Facts.{to_z-of_z}
use Rattle.planner.specs.Plans.{Planned}
use Rattle.planner.specs.Told.{planned_book}
use Rattle.ilhuepatl.specs.Answer.{two, four, bits, parts_bytes, answer_bytes}
use Rattle.ilhuepatl.specs.Length.{Within, two-length, four-length, victims-length, taken-length}
use Rattle.ilhuepatl.specs.Written.{written}
use Rattle.laws.specs.Stores.{over, over-sets}
use Rattle.ilhuepatl.proofs.Bytes.{two_bytes}
use Rattle.ilhuepatl.proofs.Places.{laid, written_on}
use Rattle.ilhuepatl.proofs.answer.put_answer.Goals as goal

-- n and m are the counts as the code has them, z the total
module _ (p : Planned) (w : Within p) (l : List ℕ) (room : 430 ≤ length l) {n m : ℕ} {z : ℤ} (few : n ≡ p.victimcount) (some : m ≡ p.count) (total : z ≡ p.total) where
  abbrev after : List ℕ → ℕ → List ℕ → List ℕ
  after x a ys = put_mid a (length x - a) x ys

  answered : {s v q r : List ℕ}
      → let victims = take p.victimcount p.victims in
      let parts = parts_bytes (take p.count p.parts) in
      let close = p.rounds ∷ four (bits z) ++ four p.end in
      let l₁ = set (s ++ drop 2 l) 2 1 in
      let l₂ = after l₁ 3 v in
      let l₃ = after l₂ (4 + n) q in
      s ≡ two (4 + n + 1 + 4 * m + 9)
      → v ≡ over (n ∷ victims) (mid_of 3 (length l₁ - 3) l₁)
      → q ≡ over (m ∷ parts) (mid_of (4 + n) (length l₂ - (4 + n)) l₂)
      → r ≡ over close (mid_of (4 + n + 1 + 4 * m) (length l₃ - (4 + n + 1 + 4 * m)) l₃)
      → after l₃ (4 + n + 1 + 4 * m) r ≡ over (answer_bytes p) l
  answered {s} {v} {q} {r} es ev eq er =
      let victims = take p.victimcount p.victims in
      let parts = parts_bytes (take p.count p.parts) in
      let close = p.rounds ∷ four (bits z) ++ four p.end in
      let size = two (14 + p.victimcount + 4 * p.count) in
      let l₀ = s ++ drop 2 l in
      let l₁ = set l₀ 2 1 in
      let l₂ = after l₁ 3 v in
      let l₃ = after l₂ (4 + n) q in
      let size-is : two (4 + n + 1 + 4 * m + 9) ≡ size = ap two (omega arith) in
      let e₁ : l₀ ≡ sets l 0 size = laid l 2 size (two-length _) (es ∙ size-is) ∙ sym (over-sets size l (omega (arith, two-length (14 + p.victimcount + 4 * p.count)))) in
      let long₁ : length l₁ ≡ length l = length-set l₀ 2 1 ∙ ap length e₁ ∙ length-sets l 0 size in
      let e₂ : l₂ ≡ sets l₁ 3 (n ∷ victims) = written_on l₁ 3 (n ∷ victims) (omega (arith, victims-length p w)) ev in
      let long₂ : length l₂ ≡ length l = ap length e₂ ∙ length-sets l₁ 3 (n ∷ victims) ∙ long₁ in
      let e₃ : l₃ ≡ sets l₂ (4 + n) (m ∷ parts) = written_on l₂ (4 + n) (m ∷ parts) (omega (arith, taken-length p w)) eq in
      let long₃ : length l₃ ≡ length l = ap length e₃ ∙ length-sets l₂ (4 + n) (m ∷ parts) ∙ long₂ in
      let e₄ = written_on l₃ (4 + n + 1 + 4 * m) close (omega (arith, length-append (four (bits z)) (four p.end), four-length (bits z), four-length p.end)) er in
      let end : 4 + n + 1 + 4 * m ≡ 5 + p.victimcount + 4 * p.count = omega arith in
      written p l w room total e₁
      (e₂ ∙ ap (λ (k : ℕ). sets l₁ 3 (k ∷ victims)) few)
      (e₃ ∙ (λ i. sets l₂ (4 + few i) (some i ∷ parts)))
      (e₄ ∙ ap (λ (k : ℕ). sets l₃ k close) end)

pub returns : goal.returns
returns c =
    let b = c.args.p.now in
    let all_victims : length b.victims ≡ 32 = search rules in
    let all_parts : length b.parts ≡ 96 = search rules in
    let w : Within (planned_book b) = record { all_victims = all_victims; all_parts = all_parts; few_victims = omega arith; few_parts = omega arith } in
    let total-fits : SFits w32 b.total = search rules in
    answered (planned_book b) w c.args.out.now (omega arith) (length-take-le b.victimcount b.victims (omega arith)) (length-take-le b.count b.parts (omega arith)) (to_z-of_z total-fits)
    (c.copy_from_slice.ensures.after ∙ c.to_be_bytes.ensures ∙ two_bytes _) c.put_victims.ensures c.put_parts.ensures c.put_close.ensures
