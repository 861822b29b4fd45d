-- Waits, computed: three jobs in a row and two in a circle, 0 waits for 1, 1 for 2, 2 for 1, 3 for 0, and 4 for nobody. And a run of stores.
use Rattle.std.specs.Prelude.{ℕ, ◌≡◌, refl, [], ◌∷◌, get_or}
use Rattle.std.proofs.Common.{arith}
use Rattle.laws.specs.Stores.{over}
use Rattle.laws.specs.Walk.{step, follow}
use Rattle.laws.specs.Circle.{OnCircle}

abbrev waits : ℕ → ℕ
waits k = get_or (1 ∷ 2 ∷ 1 ∷ 0 ∷ 255 ∷ []) k 255

seven-steps : follow waits 32 7 3 ≡ 2
unfolding follow step
seven-steps = refl

leaves : follow waits 32 3 4 ≡ 255
unfolding follow step
leaves = refl

circle : OnCircle waits 32 2
unfolding follow step
circle = record { node = omega arith; steps = 2; some_steps = omega arith; back = refl }

-- two bytes written over four: the later ones stay
later-bytes : over {A = ℕ} (1 ∷ 2 ∷ []) (9 ∷ 9 ∷ 7 ∷ 8 ∷ []) ≡ 1 ∷ 2 ∷ 7 ∷ 8 ∷ []
unfolding over
later-bytes = refl
