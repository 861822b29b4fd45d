-- One field of the book, and one further rule on what was read. The first refusal met stays.
use Rattle.std.specs.Prelude.{ℕ, ◌+◌, ◌*◌, ◌-◌, Bool, cond, List, length, get_or, ltb, leb, eqb}
use Rattle.cursor.specs.Reading.{Reading}
use Rattle.cursor.specs.Refusal.{CUT}

-- the number of the n bytes at a place, the most significant first; n is 1, 2 or 4, and any other n gives 0
unfoldable pub value_at : List ℕ → ℕ → ℕ → ℕ
value_at s place n =
    cond (eqb n 1) (get_or s place 0)
    (cond (eqb n 2) (get_or s place 0 * 256 + get_or s (place + 1) 0)
    (cond (eqb n 4) (get_or s place 0 * 16777216 + get_or s (place + 1) 0 * 65536 + get_or s (place + 2) 0 * 256 + get_or s (place + 3) 0) 0))

-- the same where all n bytes are there; 0 where the string ends before
unfoldable pub value_in : List ℕ → ℕ → ℕ → ℕ
value_in s place n = cond (leb (place + n) (length s)) (value_at s place n) 0

-- after a refusal nothing is read
abbrev pub refused_at : ℕ → ℕ → Reading
refused_at number place = record { number = number; place = place; next = 0; value = 0 }

abbrev pub got_at : ℕ → ℕ → ℕ → Reading
got_at place n v = record { number = 0; place = place; next = place + n; value = v }

-- a value against its bounds
unfoldable pub judged : ℕ → ℕ → ℕ → ℕ → ℕ → ℕ → Reading
judged low high number place n v = cond (ltb v low) (refused_at number place) (cond (ltb high v) (refused_at number place) (got_at place n v))

-- n bytes at a place: CUT where they run past the book's end, and then the value against its bounds
unfoldable pub read_at : List ℕ → ℕ → ℕ → ℕ → ℕ → ℕ → Reading
read_at s n low high number place =
    cond (ltb (length s) n) (refused_at CUT place)
    (cond (ltb (length s - n) place) (refused_at CUT place)
    (judged low high number place n (value_at s place n)))

-- THE NEXT FIELD: n bytes whose value is low to high, or else that refusal at its first byte
unfoldable pub field_of : List ℕ → ℕ → ℕ → ℕ → ℕ → Reading → Reading
field_of s n low high number r = cond (ltb 0 r.number) (refused_at r.number r.place) (read_at s n low high number r.next)

-- A FURTHER RULE on what was read, or else that refusal at that place
unfoldable pub rule_of : Bool → ℕ → ℕ → Reading → Reading
rule_of ok number place r = cond (ltb 0 r.number) (refused_at r.number r.place) (cond ok r (refused_at number place))
