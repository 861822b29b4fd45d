-- The answer in four runs of stores, each where the one before it ends: its length, the victims, the parts, and the close.
use Rattle.std.specs.Prelude.{◌≡◌, ℕ, ◌+◌, ◌*◌, ◌≤◌, ℤ, take}
use Rattle.std.proofs.Math.Path.{ap}
use Rattle.std.proofs.Common.{◌∙◌, arith}
use mathlib.Core.List.{List, ◌∷◌, ◌++◌}
use Rattle.std.proofs.Math.ListN.{length, length-append}
use Rattle.std.proofs.Math.Seq.{sets}
use Rattle.planner.specs.Plans.{Planned}
use Rattle.ilhuepatl.specs.Answer.{two, four, bits, parts_bytes, answer_bytes}
use Rattle.ilhuepatl.specs.Length.{Within, two-length, victims-length, taken-length, answer-fits}
use Rattle.laws.specs.Stores.{over, then-sets, over-sets}

module _ (p : Planned) where
  abbrev size : List ℕ
  size = two (14 + p.victimcount + 4 * p.count)

  abbrev victims : List ℕ
  victims = 1 ∷ p.victimcount ∷ take p.victimcount p.victims

  abbrev parts : List ℕ
  parts = p.count ∷ parts_bytes (take p.count p.parts)

  abbrev close : ℤ → List ℕ
  close total = p.rounds ∷ four (bits total) ++ four p.end

  -- z is the total as the code has it
  pub written : (l : List ℕ) {l₁ l₂ l₃ l₄ : List ℕ} {z : ℤ}
      → Within p
      → 430 ≤ length l
      → z ≡ p.total
      → l₁ ≡ sets l 0 size
      → l₂ ≡ sets l₁ 2 victims
      → l₃ ≡ sets l₂ (4 + p.victimcount) parts
      → l₄ ≡ sets l₃ (5 + p.victimcount + 4 * p.count) (close z)
      → l₄ ≡ over (answer_bytes p) l
  unfolding answer_bytes
  written l {l₁} {l₂} {l₃} {l₄} {z} w room e e₁ e₂ e₃ e₄ =
      let n = p.victimcount in
      let m = 4 + n in
      let o = 5 + n + 4 * p.count in
      let two-long : length size ≡ 2 = two-length (14 + n + 4 * p.count) in
      let front : length (size ++ victims) ≡ m = omega (arith, length-append size victims, victims-length p w) in
      let middle : length (size ++ victims ++ parts) ≡ o = omega (arith, length-append (size ++ victims) parts, taken-length p w) in
      let d₂ : l₂ ≡ sets l 0 (size ++ victims) = e₂ ∙ ap (λ (k : List ℕ). sets k 2 victims) e₁ ∙ then-sets l 0 2 size victims (omega arith) in
      let d₃ : l₃ ≡ sets l 0 (size ++ victims ++ parts) = e₃ ∙ ap (λ (k : List ℕ). sets k m parts) d₂ ∙ then-sets l 0 m (size ++ victims) parts (omega arith) in
      e₄
      ∙ ap (λ (t : ℤ). sets l₃ o (close t)) e
      ∙ ap (λ (k : List ℕ). sets k o (close p.total)) d₃
      ∙ then-sets l 0 o (size ++ victims ++ parts) (close p.total) (omega arith)
      ∙ over-sets (answer_bytes p) l (omega (arith, answer-fits p w))
