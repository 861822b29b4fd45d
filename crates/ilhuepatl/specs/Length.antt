-- How long the answer is: 14 bytes, one more for each victim and four more for each part, so at most 430.
use Rattle.std.specs.Prelude.{◌≡◌, refl, ℕ, ◌+◌, ◌*◌, ◌≤◌, length, take}
use Rattle.std.proofs.Common.{arith, length-append, length-take-le}
use Rattle.planner.specs.Plans.{Planned}
use Rattle.ilhuepatl.specs.Answer.{two, four, parts_bytes, answer_bytes}
use Rattle.ilhuepatl.specs.Parts.{parts-length}

pub two-length : (v : ℕ) → length (two v) ≡ 2
unfolding two
two-length v = refl

pub four-length : (v : ℕ) → length (four v) ≡ 4
unfolding four
four-length v = refl

-- the arrays are whole and the counts within them
pub record Within (p : Planned) : Type 0 where
  pub all_victims : length p.victims ≡ 32
  pub all_parts : length p.parts ≡ 96
  pub few_victims : p.victimcount ≤ 32
  pub few_parts : p.count ≤ 96

module _ (p : Planned) (w : Within p) where
  pub victims-length : length (take p.victimcount p.victims) ≡ p.victimcount
  victims-length = length-take-le p.victimcount p.victims (omega arith)

  pub taken-length : length (parts_bytes (take p.count p.parts)) ≡ 4 * p.count
  taken-length = omega (arith, parts-length (take p.count p.parts), length-take-le p.count p.parts (omega arith))

  pub answer-length : length (answer_bytes p) ≡ 14 + p.victimcount + 4 * p.count
  unfolding answer_bytes
  answer-length = simp (length-append, two-length, four-length) (omega (arith, victims-length, taken-length))

  pub answer-fits : length (answer_bytes p) ≤ 430
  answer-fits = omega (arith, answer-length)
