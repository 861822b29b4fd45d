-- Numbers, lines, whole listings and first parts, computed: the book of 01's case 5, a circle at a later moment, refused books, and a book without a job.
use Rattle.std.specs.Prelude.{◌≡◌, refl, List, [], ◌∷◌, ◌++◌, ℕ, negsuc}
use Prim.Native.String.{String}
use Rattle.laws.specs.Count.{upto}
use Rattle.laws.specs.Fill.{padded}
use Rattle.curve.specs.Worth.{worth_in, worth_at}
use Rattle.curve.specs.Density.{denser_than}
use Rattle.job.specs.Job.{granted, ran, rolled_back}
use Rattle.cursor.specs.Field.{value_at, judged, read_at, field_of, rule_of}
use Rattle.curve.specs.Layout.{signed_of}
use Rattle.book.specs.Rules.{rollback_ok, request_ok, if_requested, least_rollback, mode_ok, around_ok, line_ok}
use Rattle.cursor.specs.Header.{header_of}
use Rattle.book.specs.Format.{rollback_read, requested_resource, requested_rollback, request_read, unheld_read, held_resource, entry_read, entry_next, held_read, start_read, signed_read, piece_read, piece_next, pieces_read, end_read, curve_read, record_read, record_next, no_records, records_read, tail_read, accepted_book, refused_book, book_of}
use Rattle.gus.specs.State.{after_all}
use Rattle.gus.specs.Waits.{holder_from, chain_to, chain_of}
use Rattle.gus.specs.Course.{earned, onward, to_free, to_end, denser}
use Rattle.gus.specs.Choice.{reckon, preferred, by_density}
use Rattle.gus.specs.Group.{grow, group_of}
use Rattle.gus.specs.Round.{better, offered, consider, best_of, rounds}
use Rattle.gus.specs.Victims.{circle_from, circle_of, loss_of, lesser, offer, victim_of, victims_to, victims_of, knot_to, knot_of, settled}
use Rattle.gus.specs.Plan.{answer_to}
use Rattle.opening.specs.Start.{held_from, job_from}
use Rattle.planner.specs.Planned.{laid_plan, refused_plan, answered_to, planned_to}
use Rattle.planner.specs.First.{first_in}
use Rattle.text.specs.Decimal.{ascii, digits, decimal, signed}
use Rattle.text.specs.Lines.{victim_words, victims_line, mode_word, part_line, part_lines, close_line, refused_line, unless_refused}
use Rattle.text.specs.Listing.{plan_text, listing_of}
use Rattle.text.specs.First.{nothing_line, first_line, first_listing_of}

letters : ascii "hi -\n" ≡ 104 ∷ 105 ∷ 32 ∷ 45 ∷ 10 ∷ []
unfolding ascii
letters = refl

nothing : decimal 0 ≡ 48 ∷ []
unfolding decimal digits
nothing = refl

seven : decimal 7 ≡ 55 ∷ []
unfolding decimal digits
seven = refl

ten : decimal 10 ≡ 49 ∷ 48 ∷ []
unfolding decimal digits
ten = refl

most : decimal 4294967295 ≡ ascii "4294967295"
unfolding decimal digits ascii
most = refl

one_below : signed (negsuc 0) ≡ ascii "-1"
unfolding signed decimal digits ascii
one_below = refl

least : signed (negsuc 2147483647) ≡ ascii "-2147483648"
unfolding signed decimal digits ascii
least = refl

two-victims : victims_line (1 ∷ 5 ∷ []) ≡ ascii "victims 2 1 5\n"
unfolding victims_line victim_words decimal digits ascii
two-victims = refl

a-loss : close_line (negsuc 21) 4000000000 1 ≡ ascii "total -22 end 4000000000 rounds 1\n"
unfolding close_line signed decimal digits ascii
a-loss = refl

-- ---- whole books

-- the book of case 5, byte for byte as 01 has it
abbrev case5 : List ℕ
case5 =
    (0 ∷ 66 ∷ 1 ∷ 2 ∷ 1 ∷ 0 ∷ 0 ∷ 0 ∷ 0 ∷ [])
    ++ (0 ∷ 0 ∷ 6 ∷ 0 ∷ 2 ∷ 255 ∷ 0 ∷ 0 ∷ 0 ∷ 0 ∷ 1 ∷ 0 ∷ 0 ∷ 6 ∷ 0 ∷ 2 ∷ 1 ∷ 0 ∷ 0 ∷ 0 ∷ 0 ∷ 0 ∷ 0 ∷ 0 ∷ 0 ∷ 0 ∷ 0 ∷ 0 ∷ 0 ∷ 0 ∷ 100 ∷ [])
    ++ (0 ∷ 0 ∷ 5 ∷ 0 ∷ 1 ∷ 0 ∷ 0 ∷ 5 ∷ 0 ∷ 1 ∷ 0 ∷ 1 ∷ 0 ∷ 0 ∷ 0 ∷ 0 ∷ 0 ∷ 0 ∷ 0 ∷ 22 ∷ 0 ∷ 0 ∷ 0 ∷ 0 ∷ 0 ∷ 100 ∷ [])

-- a circle of two as in case 9, at the moment 300, with every rollback time the one given
abbrev later : ℕ → ℕ → List ℕ
later high low =
    (0 ∷ 71 ∷ 1 ∷ 2 ∷ 2 ∷ 0 ∷ 0 ∷ 1 ∷ 44 ∷ [])
    ++ (0 ∷ 0 ∷ 10 ∷ high ∷ low ∷ 1 ∷ 0 ∷ 4 ∷ high ∷ low ∷ 1 ∷ 0 ∷ 0 ∷ 10 ∷ high ∷ low ∷ 1 ∷ 0 ∷ 0 ∷ 0 ∷ 0 ∷ 0 ∷ 0 ∷ 0 ∷ 50 ∷ 0 ∷ 0 ∷ 0 ∷ 0 ∷ 3 ∷ 232 ∷ [])
    ++ (0 ∷ 0 ∷ 10 ∷ high ∷ low ∷ 0 ∷ 0 ∷ 4 ∷ high ∷ low ∷ 1 ∷ 1 ∷ 0 ∷ 10 ∷ high ∷ low ∷ 1 ∷ 0 ∷ 0 ∷ 0 ∷ 0 ∷ 0 ∷ 0 ∷ 0 ∷ 20 ∷ 0 ∷ 0 ∷ 0 ∷ 0 ∷ 3 ∷ 232 ∷ [])

-- a book's listing, and the text of its plan's first part
abbrev Texts : List ℕ → String → String → Type 0
Texts s listing first = (listing_of s ≡ ascii listing) × (first_listing_of s ≡ ascii first)

texts : Texts case5 "victims 0\npart 0 A 2 at 0\npart 1 N 5 at 2\ntotal 22 end 7 rounds 1\n" "part 0 A 2 at 0\n"
    × Texts (later 0 3) "victims 1 1\npart 1 A 3 at 300\npart 0 N 10 at 303\ntotal 50 end 313 rounds 1\n" "part 1 A 3 at 300\n"
    × Texts (later 255 255) "refused 10 at 0\n" "refused 10 at 0\n"
    × Texts (0 ∷ 9 ∷ 1 ∷ 0 ∷ 33 ∷ 0 ∷ 0 ∷ 0 ∷ 0 ∷ []) "refused 4 at 4\n" "refused 4 at 4\n"
    × Texts (0 ∷ 9 ∷ 1 ∷ 0 ∷ 0 ∷ 0 ∷ 0 ∷ 0 ∷ 0 ∷ []) "victims 0\ntotal 0 end 0 rounds 0\n" "nothing\n"
unfolding ascii digits decimal signed victim_words victims_line mode_word part_line part_lines close_line refused_line unless_refused plan_text listing_of nothing_line first_line first_listing_of value_at judged read_at field_of rule_of rollback_ok request_ok if_requested least_rollback mode_ok signed_of around_ok line_ok header_of rollback_read requested_resource requested_rollback request_read unheld_read held_resource entry_read entry_next held_read start_read signed_read piece_read piece_next pieces_read end_read curve_read record_read record_next no_records records_read tail_read accepted_book refused_book book_of granted ran rolled_back worth_in worth_at denser_than after_all holder_from chain_to chain_of earned onward to_free to_end denser reckon preferred by_density grow group_of better offered consider best_of rounds circle_from circle_of loss_of lesser offer victim_of victims_to victims_of knot_to knot_of settled answer_to upto padded held_from job_from first_in laid_plan refused_plan answered_to planned_to
texts = ((refl, refl), (refl, refl), (refl, refl), (refl, refl), (refl, refl))
