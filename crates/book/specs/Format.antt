-- The job book as 01's "The job book" lays it out: the list of its rules, in book order, each line a field or a rule.
use Rattle.std.specs.Prelude.{ℕ, ◌+◌, ◌-◌, cond, List, ltb, eqb, length, get_or, set, replicate}
use Rattle.laws.specs.Count.{upto}
use Rattle.curve.specs.declared.Piece.{Piece}
use Rattle.curve.specs.Worth.{no_piece}
use Rattle.curve.specs.Layout.{piece_from}
use Rattle.cursor.specs.Reading.{Reading, HeaderRead}
use Rattle.book.specs.declared.Entry.{Entry}
use Rattle.book.specs.Read.{Record, Book, Requested, EntryRead, HeldList, PieceRead, PieceList, CurveRead, RecordRead, Records}
use Rattle.book.specs.declared.Span.{Span}
use Rattle.cursor.specs.Refusal.{RANGE, TWICE, MODE, TAIL}
use Rattle.cursor.specs.Field.{field_of, rule_of}
use Rattle.cursor.specs.Header.{header_of}
use Rattle.book.specs.Rules.{rollback_ok, request_ok, if_requested, least_rollback, mode_ok, around_ok, line_ok}

-- A ROLLBACK TIME: "1 to 30,000, or 65,535"
unfoldable pub rollback_read : List ℕ → Reading → Reading
rollback_read s r =
    let a = field_of s 2 1 65535 RANGE r in
    rule_of (rollback_ok a.value) RANGE a.place a

-- THE REQUEST: "resource 1 (255 none), hold 2, rollback 2"
unfoldable pub requested_resource : List ℕ → ℕ → Reading → Reading
requested_resource s resources r =
    let a = field_of s 1 0 255 RANGE r in
    rule_of (request_ok a.value resources) RANGE a.place a

unfoldable pub requested_rollback : List ℕ → ℕ → Reading → Reading
requested_rollback s resource r =
    let a = field_of s 2 (if_requested resource 1) (if_requested resource 65535) RANGE r in
    rule_of (rollback_ok a.value) RANGE a.place a

unfoldable pub request_read : List ℕ → ℕ → ℕ → Reading → Requested
request_read s resources run r =
    let resource = requested_resource s resources r in
    let hold = field_of s 2 (if_requested resource.value 1) (if_requested resource.value run) RANGE resource in
    let rollback = requested_rollback s resource.value hold in
    record { reading = rollback; request = record { resource = resource.value; hold = hold.value; rollback = rollback.value } }

-- A HELD ENTRY: "resource 1, hold 2, rollback 2"; its resource is below the count, and "stood in a held list before" nowhere
unfoldable pub unheld_read : List ℕ → Reading → Reading
unheld_read holders r = rule_of (eqb (get_or holders r.value 0) 255) TWICE r.place r

unfoldable pub held_resource : List ℕ → ℕ → List ℕ → Reading → Reading
held_resource s resources holders r =
    let a = field_of s 1 0 255 RANGE r in
    unheld_read holders (rule_of (ltb a.value resources) RANGE a.place a)

unfoldable pub entry_read : List ℕ → ℕ → ℕ → ℕ → List ℕ → Reading → EntryRead
entry_read s resources run rollback holders r =
    let resource = held_resource s resources holders r in
    let hold = field_of s 2 1 run RANGE resource in
    let back = field_of s 2 (least_rollback rollback) rollback RANGE hold in
    record { reading = back; entry = record { resource = resource.value; hold = hold.value; rollback = back.value } }

-- THE HELD LIST of a job: "held count 1 (0 to 32) and for each" an entry
abbrev pub no_entry : Entry
no_entry = record { resource = 0; hold = 0; rollback = 0 }

unfoldable pub entry_next : List ℕ → ℕ → ℕ → ℕ → ℕ → ℕ → HeldList → HeldList
entry_next s job resources run rollback i h =
    let x = entry_read s resources run rollback h.holders h.reading in
    record {
      reading = x.reading;
      holds = h.holds;
      held = set h.held i x.entry;
      holders = set h.holders x.entry.resource job;
    }

unfoldable pub held_read : List ℕ → ℕ → ℕ → ℕ → ℕ → List ℕ → Reading → HeldList
held_read s job resources run rollback holders r =
    let count = field_of s 1 0 32 RANGE r in
    upto (entry_next s job resources run rollback) count.value
    (record { reading = count; holds = count.value; held = replicate 32 no_entry; holders = holders })

-- A PIECE: "start 4, value 4, slope 2". Starts rise strictly; a start also fixes the end of the piece before it, 1 ms earlier
unfoldable pub start_read : List ℕ → ℕ → Piece → Reading → Reading
start_read s low last r =
    let a = field_of s 4 low 2147483647 RANGE r in
    rule_of (line_ok last (a.value - 1)) RANGE a.place a

unfoldable pub signed_read : List ℕ → ℕ → ℕ → ℕ → Reading → Reading
signed_read s n most high r =
    let a = field_of s n 0 high RANGE r in
    rule_of (around_ok a.value most high) RANGE a.place a

unfoldable pub piece_read : List ℕ → ℕ → Piece → Reading → PieceRead
piece_read s low last r =
    let start = start_read s low last r in
    let value = signed_read s 4 1000000 4294967295 start in
    let slope = signed_read s 2 1000 65535 value in
    record { reading = slope; piece = piece_from start.value value.value slope.value }

-- THE CURVE: "piece count 1 (1 to 8) and for each" a piece; "termination 4", which fixes the last piece's end.
-- Before the first piece there is none to end: the piece of value 0 and slope 0 stands in.
unfoldable pub piece_next : List ℕ → ℕ → PieceList → PieceList
piece_next s i c =
    let x = piece_read s c.low c.last c.reading in
    record { reading = x.reading; count = c.count; pieces = set c.pieces i x.piece; last = x.piece; low = x.piece.start + 1 }

unfoldable pub pieces_read : List ℕ → Reading → PieceList
pieces_read s r =
    let count = field_of s 1 1 8 RANGE r in
    upto (piece_next s) count.value
    (record { reading = count; count = count.value; pieces = replicate 8 no_piece; last = no_piece; low = 0 })

unfoldable pub end_read : List ℕ → Piece → Reading → Reading
end_read s last r =
    let a = field_of s 4 last.start 2147483647 RANGE r in
    rule_of (line_ok last a.value) RANGE a.place a

unfoldable pub curve_read : List ℕ → Reading → CurveRead
curve_read s r =
    let c = pieces_read s r in
    let end = end_read s c.last c.reading in
    record { reading = end; curve = record { pieces = c.pieces; count = c.count; end = end.value } }

-- A JOB'S RECORD: "mode 1; run time left 2; rollback time 2; request; held list; curve"; MODE after its last field
unfoldable pub record_read : List ℕ → ℕ → ℕ → List ℕ → Reading → RecordRead
record_read s job resources holders r =
    let mode = field_of s 1 0 1 RANGE r in
    let run = field_of s 2 1 60000 RANGE mode in
    let rollback = rollback_read s run in
    let asked = request_read s resources run.value rollback in
    let list = held_read s job resources run.value rollback.value holders asked.reading in
    let worth = curve_read s list.reading in
    let whole = rule_of (mode_ok mode.value rollback.value asked.request.resource) MODE r.next worth.reading in
    record {
      reading = whole;
      holders = list.holders;
      job = record {
        mode = mode.value;
        run = run.value;
        rollback = rollback.value;
        request = asked.request;
        holds = list.holds;
        held = list.held;
        curve = worth.curve;
      };
    }

-- THE RECORDS, one job after the other; the holders stand by resource, 255 where nobody holds it
abbrev pub empty_record : Record
empty_record = record {
  mode = 0;
  run = 0;
  rollback = 0;
  request = record { resource = 255; hold = 0; rollback = 0 };
  holds = 0;
  held = replicate 32 no_entry;
  curve = record { pieces = replicate 8 no_piece; count = 0; end = 0 };
}

abbrev pub empty_span : Span
empty_span = record { start = 0; end = 0 }

unfoldable pub record_next : List ℕ → ℕ → ℕ → Records → Records
record_next s resources i b =
    let x = record_read s i resources b.holders b.reading in
    record {
      reading = x.reading;
      records = set b.records i x.job;
      holders = x.holders;
      spans = set b.spans i (record { start = b.reading.next; end = x.reading.next });
    }

unfoldable pub no_records : Reading → Records
no_records r = record { reading = r; records = replicate 32 empty_record; holders = replicate 32 255; spans = replicate 32 empty_span }

unfoldable pub records_read : List ℕ → ℕ → ℕ → Reading → Records
records_read s jobs resources r = upto (record_next s resources) jobs (no_records r)

-- TAIL: "bytes after the last job"
unfoldable pub tail_read : List ℕ → Reading → Reading
tail_read s r = rule_of (eqb r.next (length s)) TAIL r.next r

-- THE BOOK: its records, or its refusal alone
unfoldable pub accepted_book : HeaderRead → Records → Book
accepted_book h b = record {
  number = 0;
  place = 0;
  now = h.now;
  jobs = h.jobs;
  resources = h.resources;
  records = b.records;
  holders = b.holders;
  spans = b.spans;
}

unfoldable pub refused_book : ℕ → ℕ → Book
refused_book number place = record {
  number = number;
  place = place;
  now = 0;
  jobs = 0;
  resources = 0;
  records = replicate 32 empty_record;
  holders = replicate 32 255;
  spans = replicate 32 empty_span;
}

unfoldable pub book_of : List ℕ → Book
book_of s =
    let h = header_of s in
    let b = records_read s h.jobs h.resources h.reading in
    let last = tail_read s b.reading in
    cond (ltb 0 last.number) (refused_book last.number last.place) (accepted_book h b)
