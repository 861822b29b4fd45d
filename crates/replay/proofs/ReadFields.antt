-- What rests on specs/ReadFields.antt.
use Rattle.std.specs.Prelude.{◌≡◌, refl, List, [], ◌∷◌, ◌++◌, ℕ, suc, ◌*◌, length}
use Rattle.std.proofs.Common.{◌∙◌, append_assoc, arith}
use Rattle.gus.specs.declared.Part.{Part}
use Rattle.ilhuepatl.specs.Answer.{part_bytes, parts_bytes}
use Rattle.ilhuepatl.specs.Parts.{part_length}
use Rattle.replay.specs.ReadBack.{each, part_in}
use Rattle.replay.specs.ReadFields.{TimesFit, each_same, part-past, part-read}

pub parts-read : (ps : List Part) (rest : List ℕ) → TimesFit ps → each (length ps) (λ k. part_in (parts_bytes ps ++ rest) (k * 4)) ≡ ps
unfolding each parts_bytes
parts-read [] rest h = refl
parts-read (p ∷ ps) rest h =
    let others : List ℕ = parts_bytes ps ++ rest in
    let later : each (length ps) (λ k. part_in (part_bytes p ++ others) (suc k * 4)) ≡ ps =
    each_same (length ps) (λ k. part_in (part_bytes p ++ others) (suc k * 4)) (λ k. part_in others (k * 4)) (λ k. part-past (part_bytes p) others (suc k * 4) (k * 4) (omega (arith, part_length p)))
    ∙ parts-read ps rest (λ k l. h (suc k) (omega arith)) in
    rw (append_assoc (part_bytes p) (parts_bytes ps) rest) (λ i. part-read p others (h 0 (omega arith)) i ∷ later i)
