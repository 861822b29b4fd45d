-- `book::reader::record_judged` meets its contract.
use Prim.Native.Nat.{ℕ}
use native.Mathlib.Omega.{arith}
use mathlib.Core.Path.{◌≡◌, refl, ap, sym, ◌∙◌}
use mathlib.Core.Bool.{Bool}
use mathlib.Core.List.{List}
use Rattle.std.specs.Prelude.{Result, Err}
use Rattle.std.proofs.lemmas.Result.{MatchResult-weaker}
use Rattle.job.specs.declared.Request.{Request}
use Rattle.cursor.specs.Reading.{Reading}
use Rattle.cursor.specs.declared.FieldRead.{FieldRead}
use Rattle.cursor.specs.declared.Refusal.{Refusal}
use Rattle.cursor.specs.Refusal.{RANGE, MODE}
use Rattle.cursor.specs.Field.{field_of, rule_of}
use Rattle.cursor.specs.Step.{stands_at}
use Rattle.cursor.specs.Answer.{field_at, ruled, got, Refused, Says}
use Rattle.cursor.proofs.Says.{field-says, field-follows, field-stays, rule-says, rule-stays, at_ok, at_err}
use Rattle.book.specs.Read.{Requested, HeldList}
use Rattle.book.specs.Rules.{mode_ok}
use Rattle.book.specs.Format.{rollback_read, requested_resource, request_read, held_read, pieces_read, curve_read, record_read}
use Rattle.book.specs.Judging.{RecordJudged}
use Rattle.book.proofs.Stops.{by-err, rollback-stays, request-stays, held-stays, curve-stays}
use Rattle.book.proofs.reader.record_judged.Goals as goal

-- each reader after a field that was read: it goes on from there
module _ (s : List ℕ) where
  rollback-from : (f : FieldRead) → rollback_read s (got f) ≡ rollback_read s (stands_at f.next)
  unfolding rollback_read field_of
  rollback-from f = refl

  request-from : (resources run : ℕ) (f : FieldRead) → request_read s resources run (got f) ≡ request_read s resources run (stands_at f.next)
  unfolding request_read requested_resource field_of
  request-from resources run f = refl

  held-from : (job resources run rollback : ℕ) (holders : List ℕ) (f : FieldRead) → held_read s job resources run rollback holders (got f) ≡ held_read s job resources run rollback holders (stands_at f.next)
  unfolding held_read field_of
  held-from job resources run rollback holders f = refl

  curve-from : (f : FieldRead) → curve_read s (got f) ≡ curve_read s (stands_at f.next)
  unfolding curve_read pieces_read field_of
  curve-from f = refl

-- the lines of `record_read`, and that a refusal at one of them is the record's
module _ (s : List ℕ) (job resources : ℕ) (holders : List ℕ) (at : ℕ) where
  abbrev mode : Reading
  mode = field_of s 1 0 1 RANGE (stands_at at)

  abbrev run : Reading
  run = field_of s 2 1 60000 RANGE mode

  abbrev rollback : Reading
  rollback = rollback_read s run

  abbrev asked : Requested
  asked = request_read s resources run.value rollback

  abbrev list : HeldList
  list = held_read s job resources run.value rollback.value holders asked.reading

  abbrev worth : Reading
  worth = (curve_read s list.reading).reading

  by-worth : {d : Refusal} (left : List ℕ) → Refused worth d → RecordJudged s job resources holders at (Err d) left
  unfolding record_read
  by-worth left met = rule-stays met _ _ _

  by-list : {d : Refusal} (left : List ℕ) → Refused list.reading d → RecordJudged s job resources holders at (Err d) left
  by-list left met = by-worth left (curve-stays s met)

  by-asked : {d : Refusal} (left : List ℕ) → Refused asked.reading d → RecordJudged s job resources holders at (Err d) left
  by-asked left met = by-list left (held-stays s job resources _ _ holders met)

  by-rollback : {d : Refusal} (left : List ℕ) → Refused rollback d → RecordJudged s job resources holders at (Err d) left
  by-rollback left met = by-asked left (request-stays s resources _ met)

  by-run : {d : Refusal} (left : List ℕ) → Refused run d → RecordJudged s job resources holders at (Err d) left
  by-run left met = by-rollback left (rollback-stays s met)

  by-mode : {d : Refusal} (left : List ℕ) → Refused mode d → RecordJudged s job resources holders at (Err d) left
  by-mode left met = by-run left (field-stays met s _ _ _ _)

  -- each line after those that were read
  module _ {m : FieldRead} (moded : mode ≡ got m) where
    run-says : {o : Result FieldRead Refusal} → o ≡ field_at s m.next 2 1 60000 RANGE → Says run 60000 o
    run-says is = field-follows s 2 1 60000 RANGE (omega arith) m moded is

  module _ {r : FieldRead} (ran : run ≡ got r) where
    rollback-after : rollback ≡ rollback_read s (stands_at r.next)
    rollback-after = ap (rollback_read s) ran ∙ rollback-from s r

    module _ {b : FieldRead} (backed : rollback ≡ got b) where
      asked-after : asked ≡ request_read s resources r.value (stands_at b.next)
      asked-after = (λ i. request_read s resources (ran i).value (backed i)) ∙ request-from s resources r.value b

      module _ {q : FieldRead} (requested : asked.reading ≡ got q) where
        list-after : list ≡ held_read s job resources r.value b.value holders (stands_at q.next)
        list-after = (λ i. held_read s job resources (ran i).value (backed i).value holders (requested i)) ∙ held-from s job resources r.value b.value holders q

  module _ {l : FieldRead} (listed : list.reading ≡ got l) where
    worth-after : worth ≡ (curve_read s (stands_at l.next)).reading
    worth-after = ap (λ e. (curve_read s e).reading) listed ∙ ap (λ x. x.reading) (curve-from s l)

  module _ {m b w : FieldRead} {request : Request} {left : List ℕ} (moded : mode ≡ got m) (backed : rollback ≡ got b) (asks : asked.request ≡ request) (worthy : worth ≡ got w) (noted : left ≡ list.holders) where
    judged : {ok : Bool} {o : Result FieldRead Refusal} → ok ≡ mode_ok m.value b.value request.resource → o ≡ ruled ok MODE at w → RecordJudged s job resources holders at o left
    unfolding record_read
    judged {ok} {o} test is =
        let whole : rule_of (mode_ok mode.value rollback.value asked.request.resource) MODE at worth ≡ rule_of ok MODE at (got w) =
        (λ i. rule_of (mode_ok (moded i).value (backed i).value (asks i).resource) MODE at (worthy i)) ∙ ap (λ k. rule_of k MODE at (got w)) (sym test) in
        MatchResult-weaker o (rule-says ok MODE at w (omega arith) refl is) (λ f q. (whole ∙ q.0, noted)) (λ d q. (whole ∙ q.0, q.1))

-- what the answers of the code say
mode-says : (s : List ℕ) (at : ℕ) {o : Result FieldRead Refusal} → o ≡ field_at s at 1 0 1 RANGE → Says (field_of s 1 0 1 RANGE (stands_at at)) 1 o
mode-says s at is = field-says s 1 0 1 RANGE (omega arith) at is

pub returns-in_err-mode : goal.returns-in_err-mode
returns-in_err-mode c =
    let a = c.args in
    rw (by-err _ c.from_residual.ensures.1) (by-mode a.s.now a.job a.resources a.holders.now a.at a.holders.now (at_err 1 (mode-says a.s.now a.at c.field.ensures) c.in_err-mode.was))

pub returns-in_err-run : goal.returns-in_err-run
returns-in_err-run c =
    let a = c.args in
    let m = (at_ok 1 (mode-says a.s.now a.at c.field.ensures) c.in_ok-mode.was).0 in
    rw (by-err _ c.from_residual-in_err-run.ensures.1)
    (by-run a.s.now a.job a.resources a.holders.now a.at a.holders.now (at_err 60000 (run-says a.s.now a.job a.resources a.holders.now a.at m c.field-2.ensures) c.in_err-run.was))

pub returns-in_err-rollback : goal.returns-in_err-rollback
returns-in_err-rollback c =
    let a = c.args in
    let m = (at_ok 1 (mode-says a.s.now a.at c.field.ensures) c.in_ok-mode.was).0 in
    let r = (at_ok 60000 (run-says a.s.now a.job a.resources a.holders.now a.at m c.field-2.ensures) c.in_ok-run.was).0 in
    rw (by-err _ c.from_residual-in_err-rollback.ensures.1)
    (by-rollback a.s.now a.job a.resources a.holders.now a.at a.holders.now (rw (rollback-after a.s.now a.job a.resources a.holders.now a.at r) (at_err 65535 c.rollback_read.ensures c.in_err-rollback.was)))

pub request_read-requires : goal.request_read-requires
request_read-requires c =
    let a = c.args in
    let m = (at_ok 1 (mode-says a.s.now a.at c.field.ensures) c.in_ok-mode.was).0 in
    omega (arith, (at_ok 60000 (run-says a.s.now a.job a.resources a.holders.now a.at m c.field-2.ensures) c.in_ok-run.was).1)

pub returns-in_err-request : goal.returns-in_err-request
returns-in_err-request c =
    let a = c.args in
    let m = (at_ok 1 (mode-says a.s.now a.at c.field.ensures) c.in_ok-mode.was).0 in
    let r = (at_ok 60000 (run-says a.s.now a.job a.resources a.holders.now a.at m c.field-2.ensures) c.in_ok-run.was).0 in
    let b = rollback-after a.s.now a.job a.resources a.holders.now a.at r ∙ (at_ok 65535 c.rollback_read.ensures c.in_ok-rollback.was).0 in
    rw (by-err _ c.from_residual-in_err-request.ensures.1)
    (by-asked a.s.now a.job a.resources a.holders.now a.at a.holders.now (rw (asked-after a.s.now a.job a.resources a.holders.now a.at r b) c.in_err-request.ensures))

pub returns-in_err-list : goal.returns-in_err-list
returns-in_err-list c =
    let a = c.args in
    let m = (at_ok 1 (mode-says a.s.now a.at c.field.ensures) c.in_ok-mode.was).0 in
    let r = (at_ok 60000 (run-says a.s.now a.job a.resources a.holders.now a.at m c.field-2.ensures) c.in_ok-run.was).0 in
    let b = rollback-after a.s.now a.job a.resources a.holders.now a.at r ∙ (at_ok 65535 c.rollback_read.ensures c.in_ok-rollback.was).0 in
    let q = ap (λ x. x.reading) (asked-after a.s.now a.job a.resources a.holders.now a.at r b) ∙ c.in_ok-request.ensures.0 in
    rw (by-err _ c.from_residual-in_err-list.ensures.1)
    (by-list a.s.now a.job a.resources a.holders.now a.at c.held_judged.new.holders (rw (list-after a.s.now a.job a.resources a.holders.now a.at r b q) c.in_err-list.ensures))

pub returns-in_err-last : goal.returns-in_err-last
returns-in_err-last c =
    let a = c.args in
    let m = (at_ok 1 (mode-says a.s.now a.at c.field.ensures) c.in_ok-mode.was).0 in
    let r = (at_ok 60000 (run-says a.s.now a.job a.resources a.holders.now a.at m c.field-2.ensures) c.in_ok-run.was).0 in
    let b = rollback-after a.s.now a.job a.resources a.holders.now a.at r ∙ (at_ok 65535 c.rollback_read.ensures c.in_ok-rollback.was).0 in
    let q = ap (λ x. x.reading) (asked-after a.s.now a.job a.resources a.holders.now a.at r b) ∙ c.in_ok-request.ensures.0 in
    let l = ap (λ x. x.reading) (list-after a.s.now a.job a.resources a.holders.now a.at r b q) ∙ c.in_ok-list.ensures.0 in
    rw (by-err _ c.from_residual-in_err-last.ensures.1)
    (by-worth a.s.now a.job a.resources a.holders.now a.at c.held_judged.new.holders (rw (worth-after a.s.now a.job a.resources a.holders.now a.at l) (at_err 2147483647 c.curve_judged.ensures c.in_err-last.was)))

pub returns : goal.returns
returns c =
    let a = c.args in
    let m = (at_ok 1 (mode-says a.s.now a.at c.field.ensures) c.in_ok-mode.was).0 in
    let r = (at_ok 60000 (run-says a.s.now a.job a.resources a.holders.now a.at m c.field-2.ensures) c.in_ok-run.was).0 in
    let b = rollback-after a.s.now a.job a.resources a.holders.now a.at r ∙ (at_ok 65535 c.rollback_read.ensures c.in_ok-rollback.was).0 in
    let asks = asked-after a.s.now a.job a.resources a.holders.now a.at r b in
    let q = ap (λ x. x.reading) asks ∙ c.in_ok-request.ensures.0 in
    let lists = list-after a.s.now a.job a.resources a.holders.now a.at r b q in
    let l = ap (λ x. x.reading) lists ∙ c.in_ok-list.ensures.0 in
    let w = worth-after a.s.now a.job a.resources a.holders.now a.at l ∙ (at_ok 2147483647 c.curve_judged.ensures c.in_ok-last.was).0 in
    judged a.s.now a.job a.resources a.holders.now a.at m b (ap (λ x. x.request) asks ∙ c.in_ok-request.ensures.1) w (c.in_ok-list.ensures.1 ∙ sym (ap (λ x. x.holders) lists)) c.mode_ok-ok.ensures c.rule.ensures
