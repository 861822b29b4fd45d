-- Parts written into an array, one after the other, from a place on.
use Rattle.std.specs.Prelude.{List, [], ◌∷◌, ℕ, ◌+◌, set}
use Rattle.gus.specs.declared.Part.{Part}

unfoldable pub appended : List Part → ℕ → List Part → List Part
appended array place [] = array
appended array place (p ∷ ps) = appended (set array place p) (place + 1) ps
