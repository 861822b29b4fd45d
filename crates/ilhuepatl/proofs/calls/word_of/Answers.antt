use mathlib.Core.Path.{refl}
use Rattle.ilhuepatl.specs.Calls.{word}
use Rattle.ilhuepatl.proofs.calls.word_of.Goals as goal

pub returns : goal.returns
unfolding word
returns c = rw c.from.ensures refl
