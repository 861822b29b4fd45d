-- Answers of 01's cases in bytes, computed, and totals below zero.
use Rattle.std.specs.Prelude.{true, false, List, [], ◌∷◌, ◌++◌, ◌≡◌, refl, ℕ, ◌-◌, ℤ, pos, negsuc, length, replicate}
use Rattle.gus.specs.declared.Part.{Part}
use Rattle.gus.specs.Group.{part_of}
use Rattle.planner.specs.Plans.{Planned}
use Rattle.ilhuepatl.specs.Answer.{two, four, bits, part_bytes, parts_bytes, answer_bytes}

abbrev planned : List ℕ → List Part → ℕ → ℤ → ℕ → Planned
planned victims parts rounds total end =
    record {
      number = 0;
      place = 0;
      victims = victims ++ replicate (32 - length victims) 0;
      victimcount = length victims;
      parts = parts ++ replicate (96 - length parts) (part_of 0 false 0);
      count = length parts;
      rounds = rounds;
      total = total;
      end = end;
    }

case1 : answer_bytes (planned [] [] 0 (pos 0) 0) ≡ 0 ∷ 14 ∷ 1 ∷ 0 ∷ 0 ∷ 0 ∷ 0 ∷ 0 ∷ 0 ∷ 0 ∷ 0 ∷ 0 ∷ 0 ∷ 0 ∷ []
unfolding answer_bytes parts_bytes part_bytes two four bits
case1 = refl

case5 : answer_bytes (planned [] (part_of 0 true 2 ∷ part_of 1 false 5 ∷ []) 1 (pos 22) 7)
    ≡ (0 ∷ 22 ∷ 1 ∷ 0 ∷ []) ++ (2 ∷ 0 ∷ 1 ∷ 0 ∷ 2 ∷ 1 ∷ 0 ∷ 0 ∷ 5 ∷ []) ++ (1 ∷ 0 ∷ 0 ∷ 0 ∷ 22 ∷ 0 ∷ 0 ∷ 0 ∷ 7 ∷ [])
unfolding answer_bytes parts_bytes part_bytes two four bits
case5 = refl

case9 : answer_bytes (planned (1 ∷ []) (part_of 1 true 3 ∷ part_of 0 false 10 ∷ []) 1 (pos 50) 13)
    ≡ (0 ∷ 23 ∷ 1 ∷ 1 ∷ 1 ∷ []) ++ (2 ∷ 1 ∷ 1 ∷ 0 ∷ 3 ∷ 0 ∷ 0 ∷ 0 ∷ 10 ∷ []) ++ (1 ∷ 0 ∷ 0 ∷ 0 ∷ 50 ∷ 0 ∷ 0 ∷ 0 ∷ 13 ∷ [])
unfolding answer_bytes parts_bytes part_bytes two four bits
case9 = refl

minus-two : four (bits (negsuc 1)) ≡ 255 ∷ 255 ∷ 255 ∷ 254 ∷ []
unfolding four bits
minus-two = refl

least : four (bits (negsuc 2147483647)) ≡ 128 ∷ 0 ∷ 0 ∷ 0 ∷ []
unfolding four bits
least = refl
