-- What the code answers where the definitions have a reading: a field that was read, or the first refusal met.
use Rattle.std.specs.Prelude.{ℕ, ◌+◌, ◌-◌, ◌<◌, ◌≤◌, ◌≡◌, Bool, cond, List, length, ltb, Result, Ok, Err, MatchResult, IfOk, IfErr}
use Rattle.cursor.specs.Reading.{Reading, HeaderRead}
use Rattle.cursor.specs.declared.FieldRead.{FieldRead}
use Rattle.cursor.specs.declared.Refusal.{Refusal}
use Rattle.cursor.specs.declared.Header.{Header}
use Rattle.cursor.specs.declared.HeaderRefused.{HeaderRefused}
use Rattle.cursor.specs.Refusal.{CUT}
use Rattle.cursor.specs.Field.{value_at, refused_at}
use Rattle.cursor.specs.Header.{header_of}

abbrev pub refuse : {A : Type 0} → ℕ → ℕ → Result A Refusal
refuse number place = Err (record { number = number; place = place })

-- THE FIELD AT A PLACE: n bytes, low to high; CUT where they run past the end, and else that refusal
unfoldable pub field_at : List ℕ → ℕ → ℕ → ℕ → ℕ → ℕ → Result FieldRead Refusal
field_at s place n low high number =
    let v = value_at s place n in
    cond (ltb (length s) n) (refuse CUT place)
    (cond (ltb (length s - n) place) (refuse CUT place)
    (cond (ltb v low) (refuse number place)
    (cond (ltb high v) (refuse number place) (Ok (record { place = place; next = place + n; value = v })))))

-- A FURTHER RULE on a field: the field, or that refusal at that place
unfoldable pub ruled : Bool → ℕ → ℕ → FieldRead → Result FieldRead Refusal
ruled ok number place f = cond ok (Ok f) (refuse number place)

-- both after what was read: "the first refusal met" stays
abbrev pub field_after : List ℕ → ℕ → ℕ → ℕ → ℕ → Result FieldRead Refusal → Result FieldRead Refusal
field_after s n low high number (Ok f) = field_at s f.next n low high number
field_after s n low high number (Err d) = Err d

abbrev pub ruled_after : Bool → ℕ → ℕ → Result FieldRead Refusal → Result FieldRead Refusal
ruled_after ok number place (Ok f) = ruled ok number place f
ruled_after ok number place (Err d) = Err d

-- ---- the same as readings

abbrev pub got : FieldRead → Reading
got f = record { number = 0; place = f.place; next = f.next; value = f.value }

-- and of both: what a reading is of which that is the answer
abbrev pub reading_of : Result FieldRead Refusal → Reading
reading_of (Ok f) = got f
reading_of (Err d) = refused_at d.number d.place

-- e is the reading after that refusal
abbrev pub Refused : Reading → Refusal → Type 0
Refused e d = (e ≡ refused_at d.number d.place) × (0 < d.number)

-- o says what the reading e says: a field whose value is at most high, or the refusal
abbrev pub Says : Reading → ℕ → Result FieldRead Refusal → Type 0
Says e high o = MatchResult o (λ f. (e ≡ got f) × (f.value ≤ high)) (Refused e)

-- a field of the header, or its refusal beside the counts that were read before it
abbrev pub with_counts : ℕ → ℕ → Result FieldRead Refusal → Result FieldRead HeaderRefused
with_counts jobs resources (Ok f) = Ok f
with_counts jobs resources (Err d) = Err (record { refusal = d; jobs = jobs; resources = resources })

-- THE HEADER: its counts, now and the last field that was read; or the first refusal met, with the counts that were read before it
unfoldable pub header_answer : HeaderRead → Result Header HeaderRefused
header_answer h =
    let r = h.reading in
    cond (ltb 0 r.number) (Err (record { refusal = record { number = r.number; place = r.place }; jobs = h.jobs; resources = h.resources }))
    (Ok (record { jobs = h.jobs; resources = h.resources; now = h.now; last = record { place = r.place; next = r.next; value = r.value } }))

-- the header of these bytes, with the bounds that the code passes on
pub record Headed (s : List ℕ) (o : Result Header HeaderRefused) : Type 0 where
  pub is : o ≡ header_answer (header_of s)
  pub small : IfOk o (λ h. (h.jobs ≤ 32) × (h.now ≤ 2147483647))
  pub few : IfErr o (λ e. e.jobs ≤ 32)
