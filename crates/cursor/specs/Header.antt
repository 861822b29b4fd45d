-- The book's header: as its list of fields, and as what five steps of a reader make of it. That both are one is in `Stepwise`.
use Rattle.std.specs.Prelude.{ℕ, cond, List, ltb, leb, length}
use Rattle.cursor.specs.Reading.{Reading, HeaderRead}
use Rattle.cursor.specs.Reading.{Step}
use Rattle.cursor.specs.Refusal.{SIZE, VERSION, COUNT, RANGE}
use Rattle.cursor.specs.Field.{refused_at, got_at, field_of, rule_of}

-- THE HEADER: "length 2 bytes (the whole book), version 1 byte (1), jobs 1, resources 1, now 4"
unfoldable pub header_of : List ℕ → HeaderRead
header_of s =
    let least = rule_of (leb 9 (length s)) SIZE 0 (got_at 0 0 0) in
    let size = field_of s 2 (length s) (length s) SIZE least in
    let version = field_of s 1 1 1 VERSION size in
    let jobs = field_of s 1 0 32 COUNT version in
    let resources = field_of s 1 0 32 COUNT jobs in
    let now = field_of s 4 0 2147483647 RANGE resources in
    record { reading = now; jobs = jobs.value; resources = resources.value; now = now.value }

-- ---- FROM STEPS: the refusal met before a step stays, else the step's own; and else the step's field was read
unfoldable pub after_step : Reading → Step → Reading
after_step r x =
    cond (ltb 0 r.number) (refused_at r.number r.place)
    (cond (ltb 0 x.number) (refused_at x.number x.place)
    (record { number = 0; place = x.place; next = x.next; value = x.value }))

-- the header of a book of that many bytes
unfoldable pub header_from : ℕ → Step → Step → Step → Step → Step → HeaderRead
header_from bytes length version jobs resources now =
    let least = rule_of (leb 9 bytes) SIZE 0 (got_at 0 0 0) in
    let after-length = after_step least length in
    let after-version = after_step after-length version in
    let after-jobs = after_step after-version jobs in
    let after-resources = after_step after-jobs resources in
    let after-now = after_step after-resources now in
    record { reading = after-now; jobs = after-jobs.value; resources = after-resources.value; now = after-now.value }
