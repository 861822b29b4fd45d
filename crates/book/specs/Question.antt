-- The record question (01, "hands back one job's record as a part of the book").
use Rattle.std.specs.Prelude.{ℕ, ◌+◌, ◌-◌, ◌≡◌, cond, List, [], ltb, get_or, take, drop, Option, Some, None, Result, Ok}
use Rattle.std.proofs.Common.{arith}
use Rattle.std.specs.Borrow.{Bor}
use Rattle.book.specs.declared.Span.{Span}
use Rattle.book.specs.Read.{Found}
use Rattle.book.specs.declared.question.RecordAnswer.{RecordAnswer}
use Rattle.cursor.specs.declared.Refusal.{Refusal}
use Rattle.cursor.specs.Answer.{refuse}
use Rattle.book.specs.Format.{book_of, empty_span}

abbrev pub found_at : ℕ → ℕ → Span → Found
found_at number place span = record { number = number; place = place; start = span.start; end = span.end }

-- "a refused book gives its refusal first, then a job number at or past the count answers none": none is an accepted book with an empty part
unfoldable pub found_in : List ℕ → ℕ → Found
found_in s job =
    let b = book_of s in
    cond (ltb 0 b.number) (found_at b.number b.place empty_span)
    (cond (ltb job b.jobs) (found_at 0 0 (get_or b.spans job empty_span)) (found_at 0 0 empty_span))

-- the same as the code answers it
unfoldable pub found_answer : List ℕ → ℕ → Result (Option Span) Refusal
found_answer s job =
    let b = book_of s in
    cond (ltb 0 b.number) (refuse b.number b.place)
    (cond (ltb job b.jobs) (Ok (Some (get_or b.spans job empty_span))) (Ok None))

abbrev pub between : List ℕ → ℕ → ℕ → List ℕ
between s start end = take (end - start) (drop start s)

-- THE PART OF A LENT SLICE, the reference itself: it points `start` bytes on in the slice's own memory, and its bytes are the slice's from start to end
abbrev pub part_between : Bor (List ℕ) → ℕ → ℕ → Bor (List ℕ)
part_between s start end = record { ref_ptr = (s.ref_ptr.0, start + s.ref_ptr.1); now = between s.now start end }

-- from 0 to 0 it is the empty part at the slice's first byte
no_part : (s : Bor (List ℕ)) → part_between s 0 0 ≡ record { ref_ptr = s.ref_ptr; now = [] }
no_part s =
    let e : 0 + s.ref_ptr.1 ≡ s.ref_ptr.1 = omega arith in
    λ i. record { ref_ptr = (s.ref_ptr.0, e i); now = [] }

-- p is "one job's record as a part of the book"; where there is none, the empty part at the book's first byte
abbrev pub IsRecord : Bor (List ℕ) → ℕ → Bor (List ℕ) → Type 0
IsRecord s job p =
    let f = found_in s.now job in
    p ≡ part_between s f.start f.end

-- THE ANSWER: number, place and part
abbrev pub Answers : Bor (List ℕ) → ℕ → RecordAnswer → Type 0
Answers s job r =
    let f = found_in s.now job in
    (r.number ≡ f.number) × (r.place ≡ f.place) × IsRecord s job r.part
