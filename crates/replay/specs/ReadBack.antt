-- WHAT A READER OF AN ANSWER FINDS in its bytes (01, "The answer"), by the place of each field, with the number and sign of a field of the book.
-- "Length 2, version 1, victim count 1, victims 1 each, part count 1, parts (job 1, mode 1 as in the book, time 2), rounds 1, total 4 signed, end 4."
use Rattle.std.specs.Prelude.{◌≡◌, refl, true, false, List, [], ◌∷◌, ℕ, zero, suc, ◌+◌, ◌*◌, eqb, pos, negsuc, take, replicate}
use Rattle.cursor.specs.Field.{value_at}
use Rattle.curve.specs.Layout.{signed_of}
use Rattle.gus.specs.declared.Part.{Part}
use Rattle.gus.specs.Group.{part_of}
use Rattle.gus.specs.Plan.{Answer}
use Rattle.ilhuepatl.specs.Rows.{RowOutcome}

-- f 0, f 1 and so on, count of them
unfoldable pub each : {A : Type 0} → ℕ → (ℕ → A) → List A
each zero f = []
each (suc count) f = f 0 ∷ each count (λ k. f (suc k))

abbrev pub length_at : List ℕ → ℕ
length_at s = value_at s 0 2

abbrev pub version_at : List ℕ → ℕ
version_at s = value_at s 2 1

-- "victim count 1, victims 1 each"
abbrev pub victims_at : List ℕ → List ℕ
victims_at s = each (value_at s 3 1) (λ k. value_at s (4 + k) 1)

-- "part count 1"
abbrev pub count_place : List ℕ → ℕ
count_place s = 4 + value_at s 3 1

-- "parts (job 1, mode 1 as in the book, time 2)"
abbrev pub part_in : List ℕ → ℕ → Part
part_in s p = record { job = value_at s p 1; rolling = eqb (value_at s (p + 1) 1) 1; time = value_at s (p + 2) 2 }

abbrev pub parts_at : List ℕ → List Part
parts_at s = each (value_at s (count_place s) 1) (λ k. part_in s (count_place s + 1 + k * 4))

-- "rounds 1, total 4 signed, end 4"
abbrev pub rounds_place : List ℕ → ℕ
rounds_place s = count_place s + 1 + value_at s (count_place s) 1 * 4

unfoldable pub read_answer : List ℕ → Answer
read_answer s = record {
  victims = victims_at s;
  plan = record {
    parts = parts_at s;
    rounds = value_at s (rounds_place s) 1;
    total = signed_of 4294967295 (value_at s (rounds_place s + 1) 4);
    end = value_at s (rounds_place s + 5) 4;
  };
}

-- IN A LENT ROW: the first parts of the row, and "the other fields by value", of the victims those that are counted
unfoldable pub read_row : RowOutcome → Answer
read_row o = record {
  victims = take o.answer.victimcount o.answer.victims;
  plan = record { parts = take o.answer.count o.row; rounds = o.answer.rounds; total = o.answer.total; end = o.answer.end };
}

-- case 5, in an output whose later bytes are 9
five : read_answer (0 ∷ 22 ∷ 1 ∷ 0 ∷ 2 ∷ 0 ∷ 1 ∷ 0 ∷ 2 ∷ 1 ∷ 0 ∷ 0 ∷ 5 ∷ 1 ∷ 0 ∷ 0 ∷ 0 ∷ 22 ∷ 0 ∷ 0 ∷ 0 ∷ 7 ∷ 9 ∷ 9 ∷ [])
    ≡ record { victims = []; plan = record { parts = part_of 0 true 2 ∷ part_of 1 false 5 ∷ []; rounds = 1; total = pos 22; end = 7 } }
unfolding read_answer each value_at signed_of
five = refl

-- a victim, a time of 300, an end above 65,535 and a total below zero
more : read_answer (0 ∷ 19 ∷ 1 ∷ 1 ∷ 7 ∷ 1 ∷ 3 ∷ 0 ∷ 1 ∷ 44 ∷ 1 ∷ 255 ∷ 255 ∷ 255 ∷ 254 ∷ 0 ∷ 1 ∷ 134 ∷ 160 ∷ [])
    ≡ record { victims = 7 ∷ []; plan = record { parts = part_of 3 false 300 ∷ []; rounds = 1; total = negsuc 1; end = 100000 } }
unfolding read_answer each value_at signed_of
more = refl

-- a row of three whose first part is the answer's, and the first of 32 places is a victim
lent : read_row (record {
  answer = record { number = 0; place = 0; victims = 7 ∷ replicate 31 0; victimcount = 1; count = 1; rounds = 1; total = negsuc 1; end = 9 };
  row = part_of 3 false 300 ∷ part_of 8 true 8 ∷ part_of 8 true 8 ∷ [];
}) ≡ record { victims = 7 ∷ []; plan = record { parts = part_of 3 false 300 ∷ []; rounds = 1; total = negsuc 1; end = 9 } }
unfolding read_row
lent = refl
