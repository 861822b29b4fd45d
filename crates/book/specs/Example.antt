-- Worked examples of the book's rules, computed: the book of 01's case 5, and one short refused book for each number that the reader gives.
use Rattle.std.specs.Prelude.{ℕ, ◌≡◌, refl, List, [], ◌∷◌, ◌++◌, map, length, get_or, take, pos}
use Rattle.laws.specs.Count.{upto}
use Rattle.curve.specs.Worth.{no_piece}
use Rattle.book.specs.Read.{Record}
use Rattle.cursor.specs.Refusal.{SIZE, VERSION, COUNT, CUT, RANGE, TWICE, MODE, TAIL}
use Rattle.cursor.specs.Field.{value_at, judged, read_at, field_of, rule_of}
use Rattle.curve.specs.Layout.{signed_of}
use Rattle.book.specs.Rules.{rollback_ok, request_ok, if_requested, least_rollback, mode_ok, around_ok, line_ok}
use Rattle.cursor.specs.Header.{header_of}
use Rattle.book.specs.Format.{rollback_read, requested_resource, requested_rollback, request_read, unheld_read, held_resource, entry_read, no_entry, entry_next, held_read, start_read, signed_read, piece_read, piece_next, pieces_read, end_read, curve_read, record_read, empty_record, record_next, no_records, records_read, tail_read, accepted_book, refused_book, book_of}
use Rattle.book.specs.Judged.{starts_of, judged_of}
use Rattle.book.specs.Question.{found_in, between}

-- ---- how the books below are put together

abbrev header : ℕ → ℕ → ℕ → ℕ → List ℕ
header size version jobs resources = 0 ∷ size ∷ version ∷ jobs ∷ resources ∷ 0 ∷ 0 ∷ 0 ∷ 0 ∷ []

-- mode, run time left 6, rollback time 2
abbrev normal : List ℕ
normal = 0 ∷ 0 ∷ 6 ∷ 0 ∷ 2 ∷ []

abbrev rolling : List ℕ
rolling = 1 ∷ 0 ∷ 6 ∷ 0 ∷ 2 ∷ []

abbrev no_request : List ℕ
no_request = 255 ∷ 0 ∷ 0 ∷ 0 ∷ 0 ∷ []

abbrev request : ℕ → List ℕ
request resource = resource ∷ 0 ∷ 5 ∷ 0 ∷ 1 ∷ []

abbrev holds_none : List ℕ
holds_none = 0 ∷ []

-- a held list of one, with the hold 6 and the rollback 2
abbrev holds_one : ℕ → List ℕ
holds_one resource = 1 ∷ resource ∷ 0 ∷ 6 ∷ 0 ∷ 2 ∷ []

-- one flat piece from 0 to 100
abbrev flat : ℕ → List ℕ
flat worth = 1 ∷ 0 ∷ 0 ∷ 0 ∷ 0 ∷ 0 ∷ 0 ∷ 0 ∷ worth ∷ 0 ∷ 0 ∷ 0 ∷ 0 ∷ 0 ∷ 100 ∷ []

-- ---- the book of case 5, byte for byte as 01 has it

abbrev case5 : List ℕ
case5 =
    header 66 1 2 1
    ++ (0 ∷ 0 ∷ 6 ∷ 0 ∷ 2 ∷ 255 ∷ 0 ∷ 0 ∷ 0 ∷ 0 ∷ 1 ∷ 0 ∷ 0 ∷ 6 ∷ 0 ∷ 2 ∷ 1 ∷ 0 ∷ 0 ∷ 0 ∷ 0 ∷ 0 ∷ 0 ∷ 0 ∷ 0 ∷ 0 ∷ 0 ∷ 0 ∷ 0 ∷ 0 ∷ 100 ∷ [])
    ++ (0 ∷ 0 ∷ 5 ∷ 0 ∷ 1 ∷ 0 ∷ 0 ∷ 5 ∷ 0 ∷ 1 ∷ 0 ∷ 1 ∷ 0 ∷ 0 ∷ 0 ∷ 0 ∷ 0 ∷ 0 ∷ 0 ∷ 22 ∷ 0 ∷ 0 ∷ 0 ∷ 0 ∷ 0 ∷ 100 ∷ [])

-- ---- what is shown of a book: its refusal, and of an accepted one some fields and the length of job 1's record

unfoldable told : List ℕ → List ℕ
told s = let b = book_of s in b.number ∷ b.place ∷ []

unfoldable seen : List ℕ → List ℕ
seen s =
    let b = book_of s in
    let holder = get_or b.records 0 empty_record in
    let asker = get_or b.records 1 empty_record in
    let question = found_in s 1 in
    b.jobs ∷ get_or b.holders 0 255 ∷ (get_or holder.held 0 no_entry).hold ∷ asker.request.resource ∷ asker.request.hold ∷ asker.curve.end ∷ length (between s question.start question.end) ∷ []

-- two jobs; job 0 holds resource 0 for 6 and job 1 requests it for 5; job 1's curve ends at 100, and its record is 26 bytes long
case5-seen : seen case5 ≡ 2 ∷ 0 ∷ 6 ∷ 0 ∷ 5 ∷ 100 ∷ 26 ∷ []
unfolding seen found_in book_of refused_book accepted_book header_of records_read no_records record_next record_read tail_read rollback_read request_read requested_resource requested_rollback held_read entry_next entry_read held_resource unheld_read curve_read pieces_read piece_next piece_read start_read signed_read end_read field_of rule_of read_at judged value_at upto rollback_ok request_ok if_requested least_rollback mode_ok signed_of around_ok line_ok
case5-seen = refl

-- its two worths, 0 and 22
case5-worths : map (λ (r : Record). (get_or r.curve.pieces 0 no_piece).value) (take 2 (book_of case5).records) ≡ pos 0 ∷ pos 22 ∷ []
unfolding book_of refused_book accepted_book header_of records_read no_records record_next record_read tail_read rollback_read request_read requested_resource requested_rollback held_read entry_next entry_read held_resource unheld_read curve_read pieces_read piece_next piece_read start_read signed_read end_read field_of rule_of read_at judged value_at upto rollback_ok request_ok if_requested least_rollback mode_ok signed_of around_ok line_ok
case5-worths = refl

-- its records start at 9 and 40, and the last ends at 66
case5-starts : take 4 (judged_of case5).starts ≡ 9 ∷ 40 ∷ 66 ∷ 0 ∷ []
unfolding judged_of starts_of book_of refused_book accepted_book header_of records_read no_records record_next record_read tail_read rollback_read request_read requested_resource requested_rollback held_read entry_next entry_read held_resource unheld_read curve_read pieces_read piece_next piece_read start_read signed_read end_read field_of rule_of read_at judged value_at upto rollback_ok request_ok if_requested least_rollback mode_ok signed_of around_ok line_ok
case5-starts = refl

-- ---- one refused book for each number

-- 8 bytes
abbrev small : List ℕ
small = 0 ∷ 8 ∷ 1 ∷ 0 ∷ 0 ∷ 0 ∷ 0 ∷ 0 ∷ []

-- a length field that is 1 too much
abbrev long : List ℕ
long = header 10 1 0 0

abbrev other_version : List ℕ
other_version = header 9 2 0 0

abbrev many_jobs : List ℕ
many_jobs = header 9 1 33 0

-- jobs come before resources
abbrev many_resources : List ℕ
many_resources = header 9 1 0 33

-- the run time left is 2 bytes, of which 1 is there
abbrev cut : List ℕ
cut = header 11 1 1 0 ++ (0 ∷ 0 ∷ [])

-- a request for resource 1 of 1
abbrev out_of_range : List ℕ
out_of_range = header 35 1 1 1 ++ normal ++ request 1 ++ holds_none ++ flat 0

-- a second job that holds resource 0
abbrev twice : List ℕ
twice = header 71 1 2 1 ++ normal ++ no_request ++ holds_one 0 ++ flat 0 ++ normal ++ no_request ++ holds_one 0 ++ flat 0

-- a job in rollback that has a request
abbrev asks_in_rollback : List ℕ
asks_in_rollback = header 35 1 1 1 ++ rolling ++ request 0 ++ holds_none ++ flat 0

-- a byte after the last job
abbrev after : List ℕ
after = header 36 1 1 0 ++ normal ++ no_request ++ holds_none ++ flat 0 ++ (0 ∷ [])

refusals : map told (small ∷ long ∷ other_version ∷ many_jobs ∷ many_resources ∷ cut ∷ out_of_range ∷ twice ∷ asks_in_rollback ∷ after ∷ []) ≡
    (SIZE ∷ 0 ∷ [])
    ∷ (SIZE ∷ 0 ∷ [])
    ∷ (VERSION ∷ 2 ∷ [])
    ∷ (COUNT ∷ 3 ∷ [])
    ∷ (COUNT ∷ 4 ∷ [])
    ∷ (CUT ∷ 10 ∷ [])
    ∷ (RANGE ∷ 14 ∷ [])
    ∷ (TWICE ∷ 51 ∷ [])
    ∷ (MODE ∷ 9 ∷ [])
    ∷ (TAIL ∷ 35 ∷ [])
    ∷ []
unfolding told book_of refused_book accepted_book header_of records_read no_records record_next record_read tail_read rollback_read request_read requested_resource requested_rollback held_read entry_next entry_read held_resource unheld_read curve_read pieces_read piece_next piece_read start_read signed_read end_read field_of rule_of read_at judged value_at upto rollback_ok request_ok if_requested least_rollback mode_ok signed_of around_ok line_ok
refusals = refl
