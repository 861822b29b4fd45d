-- The bytes of a row of parts: four for each, and one more part's bytes come after the others'.
use Rattle.std.specs.Prelude.{◌≡◌, refl, List, [], ◌∷◌, ◌++◌, ℕ, ◌*◌, length}
use Rattle.std.proofs.Common.{sym, ap, ◌∙◌, append-nil, append_assoc, arith, length-append}
use Rattle.gus.specs.declared.Part.{Part}
use Rattle.ilhuepatl.specs.Answer.{two, part_bytes, parts_bytes}

pub part_length : (p : Part) → length (part_bytes p) ≡ 4
unfolding part_bytes two
part_length p = refl

pub parts-length : (ps : List Part) → length (parts_bytes ps) ≡ 4 * length ps
unfolding parts_bytes
parts-length [] = refl
parts-length (p ∷ ps) = omega (arith, length-append (part_bytes p) (parts_bytes ps), part_length p, parts-length ps)

pub parts-snoc : (ps : List Part) (p : Part) → parts_bytes (ps ++ (p ∷ [])) ≡ parts_bytes ps ++ part_bytes p
unfolding parts_bytes
parts-snoc [] p = append-nil (part_bytes p)
parts-snoc (q ∷ ps) p = ap (λ (r : List ℕ). part_bytes q ++ r) (parts-snoc ps p) ∙ sym (append_assoc (part_bytes q) (parts_bytes ps) (part_bytes p))
