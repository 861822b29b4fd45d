-- What rests on specs/Reads.antt.
use Rattle.std.specs.Prelude.{◌≡◌, ℕ, ◌+◌, ◌*◌}
use Rattle.std.proofs.Math.Path.{refl}
use Rattle.std.proofs.Common.{ap, ◌∙◌}
use mathlib.Core.List.{List, [], ◌∷◌, ◌++◌}
use native.Mathlib.Omega.{arith}
use Rattle.curve.specs.Layout.{signed_of}
use Rattle.gus.specs.Plan.{Answer}
use Rattle.ilhuepatl.specs.Answer.{parts_bytes}
use Rattle.replay.specs.ReadBack.{each, part_in, read_answer}
use Rattle.replay.specs.ReadFields.{part-past, each_same, signed-read, TimesFit}
use Rattle.replay.proofs.ReadFields.{parts-read}
use Rattle.replay.specs.Reads.{Fits, after, back, close, close-laid, end-last, few, front, laid, later, many, over-laid, part_count, read_by, rounds-first, total-next, victim_count, victims-laid}

-- ---- its bytes, laid out: x and y are those of its length, and rest is what comes after it
module _ (a : Answer) (x y : ℕ) (rest : List ℕ) where
  parts-laid : TimesFit a.plan.parts → each (part_count a x y rest) (λ k. part_in (laid a x y rest) (4 + (victim_count a x y rest) + 1 + k * 4)) ≡ a.plan.parts
  parts-laid h =
      each_same (part_count a x y rest) (λ k. part_in (laid a x y rest) (4 + (victim_count a x y rest) + 1 + k * 4)) (λ k. part_in (parts_bytes a.plan.parts ++ (close a x y rest)) (k * 4))
      (λ k.
      part-past (front a x y rest) (a.victims ++ (back a x y rest)) (4 + (victim_count a x y rest) + 1 + k * 4) ((victim_count a x y rest) + (1 + k * 4)) (omega arith)
      ∙ part-past a.victims (back a x y rest) ((victim_count a x y rest) + (1 + k * 4)) (1 + k * 4) refl
      ∙ part-past ((part_count a x y rest) ∷ []) (parts_bytes a.plan.parts ++ (close a x y rest)) (1 + k * 4) (k * 4) refl)
      ∙ parts-read a.plan.parts (close a x y rest) h

  laid-read : Fits a → read_answer (laid a x y rest) ≡ a
  laid-read f =
      read_by (laid a x y rest) (victim_count a x y rest) (part_count a x y rest) (few a x y rest) (many a x y rest) (victims-laid a x y rest) (parts-laid f.times)
      ((close-laid a x y rest) (4 + (victim_count a x y rest) + 1 + (part_count a x y rest) * 4) 0 1 (omega arith) ∙ (rounds-first a x y rest))
      (ap (signed_of 4294967295) ((close-laid a x y rest) (4 + (victim_count a x y rest) + 1 + (part_count a x y rest) * 4 + 1) 1 4 refl ∙ (total-next a x y rest)) ∙ signed-read a.plan.total f.above f.below)
      ((close-laid a x y rest) (4 + (victim_count a x y rest) + 1 + (part_count a x y rest) * 4 + 5) 5 4 refl ∙ (end-last a x y rest) f.end)

module _ (a : Answer) where
  -- THE ANSWER'S BYTES OVER WHAT WAS LENT: what is read there
  module _ (out : List ℕ) where
    pub answer-read : Fits a → read_answer (after a out) ≡ a
    answer-read f = ap read_answer (over-laid a out) ∙ laid-read a _ _ (later a out) f
