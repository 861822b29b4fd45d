-- The choice between a job and the one taken so far, by whatever test: none is taken yet, or the job wins.
use Rattle.std.specs.Prelude.{◌≡◌, true, false, ℕ}
use Rattle.std.proofs.Math.Path.{refl}
use Rattle.std.proofs.Common.{sym, ap, ◌∙◌}
use Rattle.std.proofs.Math.Bool.{Bool, cond}
use Rattle.gus.specs.declared.Course.{Course}
use Rattle.gus.specs.declared.Best.{Best}
use Rattle.gus.specs.Course.{denser}
use Rattle.gus.specs.Round.{better}
use Rattle.gus.specs.Victims.{lesser}

abbrev pub taken : ℕ → Course → Best
taken job c = record { some = true; last = job; course = c }

unfoldable pub picked : Bool → ℕ → Course → Best → Best
picked wins job c b = elim b.some [ true ↦ elim wins [ true ↦ taken job c | false ↦ b ] | false ↦ taken job c ]

module _ (job : ℕ) (c : Course) (b : Best) where
  -- field by field: the job is taken where it wins or none is taken yet
  pub picked-fields : (wins taken' : Bool) → taken' ≡ cond b.some wins true
      → record { some = true; last = cond taken' job b.last; course = record { time = cond taken' c.time b.course.time; gain = cond taken' c.gain b.course.gain; inside = cond taken' c.inside b.course.inside } }
      ≡ picked wins job c b
  unfolding picked
  picked-fields wins taken' e = rw e (by b.some wins refl)
    where
      fields : Bool → Best
      fields x = record { some = true; last = cond x job b.last; course = record { time = cond x c.time b.course.time; gain = cond x c.gain b.course.gain; inside = cond x c.inside b.course.inside } }

      by : (some w : Bool) → b.some ≡ some → fields (cond some w true) ≡ elim some as (λ _. Best) [ true ↦ elim w as (λ _. Best) [ true ↦ taken job c | false ↦ b ] | false ↦ taken job c ]
      by true true q = refl
      by true false q = λ d. record { some = sym q d; last = b.last; course = b.course }
      by false w q = refl

  better-picked : better job c b ≡ picked (denser c b.course) job c b
  unfolding better picked
  better-picked = refl

  lesser-picked : lesser job c b ≡ picked (denser b.course c) job c b
  unfolding lesser picked
  lesser-picked = refl

  -- the same as the code has it: the test is made, and then the choice
  module _ {wins : Bool} {r : Best} where
    pub better-made : wins ≡ denser c b.course → r ≡ picked wins job c b → r ≡ better job c b
    better-made e q = q ∙ ap (λ (x : Bool). picked x job c b) e ∙ sym better-picked

    pub lesser-made : wins ≡ denser b.course c → r ≡ picked wins job c b → r ≡ lesser job c b
    lesser-made e q = q ∙ ap (λ (x : Bool). picked x job c b) e ∙ sym lesser-picked
