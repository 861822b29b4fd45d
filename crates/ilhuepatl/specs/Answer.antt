-- The answer's bytes (01, "The answer").
use Rattle.std.specs.Prelude.{cond, List, [], ◌∷◌, ◌++◌, ℕ, ◌+◌, ◌-◌, ◌*◌, ◌/◌, ◌%◌, ℤ, take}
use Rattle.laws.specs.Signed.{up, dn}
use Rattle.gus.specs.declared.Part.{Part}
use Rattle.planner.specs.Plans.{Planned}

-- the n bytes of a number, the most significant first
unfoldable pub two : ℕ → List ℕ
two v = v / 256 % 256 ∷ v % 256 ∷ []

unfoldable pub four : ℕ → List ℕ
four v = v / 16777216 % 256 ∷ v / 65536 % 256 ∷ v / 256 % 256 ∷ v % 256 ∷ []

-- two's complement in 32 bits: what lies below zero is counted down from 2^32
unfoldable pub bits : ℤ → ℕ
bits z = (up z + 4294967296 - dn z) % 4294967296

-- "job 1, mode 1 as in the book, time 2"
unfoldable pub part_bytes : Part → List ℕ
part_bytes p = p.job ∷ cond p.rolling 1 0 ∷ two p.time

unfoldable pub parts_bytes : List Part → List ℕ
parts_bytes [] = []
parts_bytes (p ∷ ps) = part_bytes p ++ parts_bytes ps

-- "Length 2, version 1, victim count 1, victims 1 each, part count 1, parts, rounds 1, total 4 signed, end 4"
unfoldable pub answer_bytes : Planned → List ℕ
answer_bytes p =
    two (14 + p.victimcount + 4 * p.count)
    ++ (1 ∷ p.victimcount ∷ take p.victimcount p.victims)
    ++ (p.count ∷ parts_bytes (take p.count p.parts))
    ++ (p.rounds ∷ four (bits p.total) ++ four p.end)
