-- `book::judge::judge_into` meets its contract. The invariant: the locals are what is seen of the definition after i turns of `record_next`.
use Prim.Native.Nat.{ℕ, ◌<◌}
use mathlib.Core.Path.{◌≡◌, refl, ap, sym, ◌∙◌}
use mathlib.Core.List.{List}
use borrow.Author.Tests.{lt-ltb}
use Rattle.std.specs.Prelude.{Result, Ok, Err}
use Rattle.std.proofs.lemmas.Result.{MatchResult-at_ok, MatchResult-at_err}
use Rattle.laws.specs.Count.{upto}
use Rattle.cursor.specs.Reading.{HeaderRead}
use Rattle.cursor.specs.declared.FieldRead.{FieldRead}
use Rattle.cursor.specs.declared.Refusal.{Refusal}
use Rattle.cursor.specs.declared.Header.{Header}
use Rattle.cursor.specs.Field.{field_of}
use Rattle.cursor.specs.Step.{stands_at}
use Rattle.cursor.specs.Header.{header_of}
use Rattle.cursor.specs.Answer.{got, Refused}
use Rattle.cursor.proofs.Says.{at_ok, at_err}
use Rattle.cursor.proofs.Heading.{header-refuses}
use Rattle.book.specs.declared.Judged.{Judged}
use Rattle.book.specs.Read.{Records}
use Rattle.book.specs.Format.{record_read, record_next, no_records, records_read, tail_read, accepted_book, refused_book, book_of}
use Rattle.book.specs.Judged.{starts_of, judged_of, judgement}
use Rattle.book.specs.Judging.{judge-begin, judge-next, judge-ended, ends_from, records_seen, record-turn}
use Rattle.book.specs.Starts.{first-start}
use Rattle.book.proofs.Stops.{by-err, upto-stays, upto-stops, records-stay, tail-stays}
use Rattle.book.proofs.judge.judge_into.Goals as goal

-- the ends of `judged_of`, each from what the code has read by then
module _ (s : List ℕ) where
  abbrev head : HeaderRead
  head = header_of s

  abbrev records : Records
  records = records_read s head.jobs head.resources head.reading

  refused : {d : Refusal} → Refused (tail_read s records.reading) d → Err d ≡ judgement (judged_of s)
  unfolding judgement judged_of book_of refused_book
  refused {d} met = rw (met.0, lt-ltb 0 d.number met.1, lt-ltb 0 d.number met.1) refl

  by-header : {d : Refusal} → Refused head.reading d → Err d ≡ judgement (judged_of s)
  unfolding records_read no_records
  by-header met = refused (tail-stays s (upto-stays (record_next s head.resources) (λ b. b.reading) (records-stay s head.resources) head.jobs _ met))

  module _ {h : Header} (known : head ≡ record { reading = got h.last; jobs = h.jobs; resources = h.resources; now = h.now }) where
    abbrev turn : ℕ → Records → Records
    turn = record_next s h.resources

    abbrev begun : Records
    begun = no_records (got h.last)

    records-are : records ≡ upto turn h.jobs begun
    unfolding records_read
    records-are = ap (λ x. records_read s x.jobs x.resources x.reading) known

    record-stops : (i : ℕ) {read : FieldRead} {holders starts : List ℕ} {d : Refusal} → Refused (record_read s i h.resources holders (stands_at read.next)).reading d → (b : Records) → (got read, holders, starts) ≡ records_seen h.last.next b → Refused (turn i b).reading d
    unfolding record_next record_read field_of
    record-stops i met b seen = (ap (λ v. (record_read s i h.resources v.1 v.0).reading) (sym seen) ∙ met.0, met.1)

    by-record : (i : ℕ) {d : Refusal} → i < h.jobs → Refused (turn i (upto turn i begun)).reading d → Err d ≡ judgement (judged_of s)
    by-record i lt met = refused (tail-stays s (rw records-are (upto-stops turn (λ b. b.reading) (records-stay s h.resources) i h.jobs begun lt met)))

    module _ {read : FieldRead} {holders starts : List ℕ} (seen : (got read, holders, starts) ≡ records_seen h.last.next (upto turn h.jobs begun)) where
      last-read : records.reading ≡ got read
      last-read = ap (λ b. b.reading) records-are ∙ ap (λ v. v.0) (sym seen)

      by-tail : {d : Refusal} → Refused (tail_read s (got read)) d → Err d ≡ judgement (judged_of s)
      by-tail met = refused (rw last-read met)

      accepted : {f : FieldRead} → tail_read s (got read) ≡ got f → ◌≡◌ {A = Result Judged Refusal} (Ok (record { now = h.now; jobs = h.jobs; holders = holders; starts = starts })) (judgement (judged_of s))
      unfolding judgement judged_of book_of accepted_book starts_of
      accepted {f} free =
          let last : tail_read s records.reading ≡ got f = rw last-read free in
          let nine : h.last.next ≡ 9 = sym (ap (λ x. x.reading.next) known) ∙ first-start s (ap (λ x. x.number) last) in
          let who : holders ≡ records.holders = ap (λ v. v.1) seen ∙ ap (λ b. b.holders) (sym records-are) in
          let where-they-start : starts ≡ ends_from 9 records.spans = ap (λ v. v.2) seen ∙ (λ k. ends_from (nine k) (sym records-are k).spans) in
          rw last (λ k. Ok (record { now = (sym known k).now; jobs = (sym known k).jobs; holders = who k; starts = where-they-start k }))

pub returns-in_err-head : goal.returns-in_err-head
returns-in_err-head c =
    rw (by-err _ c.from_residual.ensures.1) (by-header c.args.s.now (MatchResult-at_err _ _ _ (sym c.header.ensures.is ∙ c.in_err-head.was) (header-refuses c.args.s.now)))

pub loop-i-init : goal.loop-i-init
unfolding no_records
loop-i-init c = rw (c.requires.0, c.requires.1) judge-begin

pub loop-i-preserved : goal.loop-i-preserved
loop-i-preserved c = judge-next c.loop-i.invariant c.loop-i-test.true (record-turn _ _ _ _ c.in_ok-read.ensures)

pub returns-in_err-read : goal.returns-in_err-read
returns-in_err-read c =
    let s = c.args.s.now in
    let known = MatchResult-at_ok _ _ _ (sym c.header.ensures.is ∙ c.in_ok-head.was) (header-refuses s) in
    rw (by-err _ c.from_residual-in_err-read.ensures.1) (by-record s known c.loop-i.i c.loop-i-test.true (record-stops s known c.loop-i.i c.in_err-read.ensures _ c.loop-i.invariant.so_far))

pub returns-in_err-tail : goal.returns-in_err-tail
returns-in_err-tail c =
    let s = c.args.s.now in
    let known = MatchResult-at_ok _ _ _ (sym c.header.ensures.is ∙ c.in_ok-head.was) (header-refuses s) in
    rw (by-err _ c.from_residual-in_err-tail.ensures.1) (by-tail s known (judge-ended c.loop-i.invariant c.loop-i-test.false) (at_err _ c.tail.ensures c.in_err-tail.was))

pub returns : goal.returns
returns c =
    let s = c.args.s.now in
    let known = MatchResult-at_ok _ _ _ (sym c.header.ensures.is ∙ c.in_ok-head.was) (header-refuses s) in
    let small = MatchResult-at_ok _ _ _ c.in_ok-head.was c.header.ensures.small in
    (accepted s known (judge-ended c.loop-i.invariant c.loop-i-test.false) (at_ok _ c.tail.ensures c.in_ok-tail.was).0, small.0, small.1)
