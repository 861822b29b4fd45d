-- A book judged: its refusal, or what it has but for its records, and where these stand.
use Rattle.std.specs.Prelude.{ℕ, ◌≡◌, ◌≤◌, cond, List, ◌∷◌, map, ltb, Result, Ok, Err, MatchResult}
use Rattle.book.specs.declared.Span.{Span}
use Rattle.book.specs.Read.{Book, JudgedBook}
use Rattle.book.specs.declared.Judged.{Judged}
use Rattle.cursor.specs.declared.Refusal.{Refusal}
use Rattle.cursor.specs.declared.Header.{Header}
use Rattle.cursor.specs.Answer.{refuse}
use Rattle.book.specs.Format.{book_of}

-- where each record starts: the first after the header's 9 bytes, each next one where the one before ends; after the last record, its end
unfoldable pub starts_of : Book → List ℕ
starts_of b = cond (ltb 0 b.number) 0 9 ∷ map (λ (x : Span). x.end) b.spans

-- A BOOK JUDGED: all that the book has but its records, and these by their places
unfoldable pub judged_of : List ℕ → JudgedBook
judged_of s = let b = book_of s in record { number = b.number; place = b.place; now = b.now; jobs = b.jobs; holders = b.holders; starts = starts_of b }

-- what the code answers of it: the refusal, or all of it
unfoldable pub judgement : JudgedBook → Result Judged Refusal
judgement b = cond (ltb 0 b.number) (refuse b.number b.place) (Ok (record { now = b.now; jobs = b.jobs; holders = b.holders; starts = b.starts }))

-- and back
abbrev pub judged_book : Judged → JudgedBook
judged_book j = record { number = 0; place = 0; now = j.now; jobs = j.jobs; holders = j.holders; starts = j.starts }

-- a book judged: what its header has, who holds what and where its records stand, and its bounds; or the refusal
abbrev pub JudgedInto : List ℕ → Result Header Refusal → List ℕ → List ℕ → Type 0
JudgedInto s o holders starts =
    MatchResult o (λ h. (Ok (record { now = h.now; jobs = h.jobs; holders = holders; starts = starts }) ≡ judgement (judged_of s)) × (h.jobs ≤ 32) × (h.now ≤ 2147483647)) (λ d. Err d ≡ judgement (judged_of s))
