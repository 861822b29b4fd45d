-- A writer on a lent output: room for a text, and the writer after it.
use Rattle.std.specs.Prelude.{◌≡◌, refl, List, [], ◌++◌, ℕ, ◌+◌, ◌≤◌, length}
use Rattle.std.proofs.Common.{ap, add_assoc, add-zero, length-append}
use Rattle.std.proofs.lemmas.List.Edits.{sets}
use Rattle.std.proofs.Math.Seq.{length-sets}
use Rattle.laws.specs.Stores.{then-sets}
use Rattle.text.specs.declared.word.Writer.{Writer}

abbrev pub Room : Writer → List ℕ → Type 0
Room w text = w.at + length text ≤ length w.out.now

-- the text stored from the writer's place on, and the place behind it
unfoldable pub after : Writer → List ℕ → Writer
after w text = record { out = record w.out { now = sets w.out.now w.at text }; at = w.at + length text }

module _ (w : Writer) (t : List ℕ) where
  pub after_at : (after w t).at ≡ w.at + length t
  unfolding after
  after_at = refl

  pub after_length : length (after w t).out.now ≡ length w.out.now
  unfolding after
  after_length = length-sets w.out.now w.at t

  -- two texts, the second where the first ends
  pub after_then : (u : List ℕ) → after (after w t) u ≡ after w (t ++ u)
  unfolding after
  after_then u = rw (then-sets w.out.now w.at (w.at + length t) t u refl, length-append t u, add_assoc)

pub after_nothing : (w : Writer) → after w [] ≡ w
unfolding after
after_nothing w = ap (λ (n : ℕ). record { out = w.out; at = n }) (add-zero w.at)
