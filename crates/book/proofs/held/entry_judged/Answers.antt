-- `book::held::entry_judged` meets its contract.
use Prim.Native.Nat.{ℕ}
use native.Mathlib.Omega.{arith}
use mathlib.Core.Path.{◌≡◌}
use mathlib.Core.List.{List}
use Rattle.std.specs.Prelude.{Result, Ok, Err, set}
use Rattle.cursor.specs.Reading.{Reading}
use Rattle.cursor.specs.declared.FieldRead.{FieldRead}
use Rattle.cursor.specs.declared.Refusal.{Refusal}
use Rattle.cursor.specs.Refusal.{RANGE}
use Rattle.cursor.specs.Field.{field_of}
use Rattle.cursor.specs.Step.{stands_at}
use Rattle.cursor.specs.Answer.{field_at, got, Refused, Says}
use Rattle.cursor.proofs.Says.{field-follows, field-stays, at_ok, at_err}
use Rattle.book.specs.Rules.{least_rollback}
use Rattle.book.specs.Format.{held_resource, entry_read}
use Rattle.book.specs.Judging.{EntryJudged}
use Rattle.book.proofs.Stops.{by-err}
use Rattle.book.proofs.held.entry_judged.Goals as goal

-- the lines of `entry_read`, each said of what the code has read by then
module _ (s : List ℕ) (job resources run rollback : ℕ) (holders : List ℕ) (at : ℕ) where
  abbrev resource_read : Reading
  resource_read = held_resource s resources holders (stands_at at)

  abbrev hold_read : Reading
  hold_read = field_of s 2 1 run RANGE resource_read

  abbrev back_read : Reading
  back_read = field_of s 2 (least_rollback rollback) rollback RANGE hold_read

  refused : (h : List ℕ) {d : Refusal} → Refused back_read d → EntryJudged s job resources run rollback holders at (Err d) h
  unfolding entry_read
  refused h met = met

  by-resource : {d : Refusal} → Refused resource_read d → Refused back_read d
  by-resource met = field-stays (field-stays met s _ _ _ _) s _ _ _ _

  hold-says : {f : FieldRead} → resource_read ≡ got f → {o : Result FieldRead Refusal} → o ≡ field_at s f.next 2 1 run RANGE → Says hold_read run o
  hold-says {f} before is = field-follows s 2 1 run RANGE (omega arith) f before is

  by-hold : {d : Refusal} → Refused hold_read d → Refused back_read d
  by-hold met = field-stays met s _ _ _ _

  back-says : {f : FieldRead} → hold_read ≡ got f → {o : Result FieldRead Refusal} → o ≡ field_at s f.next 2 (least_rollback rollback) rollback RANGE → Says back_read rollback o
  back-says {f} before is = field-follows s 2 _ rollback RANGE (omega arith) f before is

  judged : {f h : FieldRead} {noted : List ℕ} → resource_read ≡ got f → back_read ≡ got h → noted ≡ set holders f.value job → EntryJudged s job resources run rollback holders at (Ok h) noted
  unfolding entry_read
  judged resource back note = (back, rw resource note)

pub returns-in_err-a : goal.returns-in_err-a
returns-in_err-a c =
    let a = c.args in
    rw (by-err _ c.from_residual.ensures.1)
    (refused a.s.now a.job a.resources a.run a.rollback a.holders.now a.at a.holders.now (by-resource a.s.now a.job a.resources a.run a.rollback a.holders.now a.at (at_err 255 c.held_resource.ensures c.in_err-a.was)))

pub returns-in_err-b : goal.returns-in_err-b
returns-in_err-b c =
    let a = c.args in
    let resource = (at_ok 255 c.held_resource.ensures c.in_ok-a.was).0 in
    let says = hold-says a.s.now a.job a.resources a.run a.rollback a.holders.now a.at resource c.field.ensures in
    rw (by-err _ c.from_residual-in_err-b.ensures.1)
    (refused a.s.now a.job a.resources a.run a.rollback a.holders.now a.at a.holders.now (by-hold a.s.now a.job a.resources a.run a.rollback a.holders.now a.at (at_err _ says c.in_err-b.was)))

pub returns-in_err-c : goal.returns-in_err-c
returns-in_err-c c =
    let a = c.args in
    let resource = (at_ok 255 c.held_resource.ensures c.in_ok-a.was).0 in
    let hold = (at_ok _ (hold-says a.s.now a.job a.resources a.run a.rollback a.holders.now a.at resource c.field.ensures) c.in_ok-b.was).0 in
    let says = back-says a.s.now a.job a.resources a.run a.rollback a.holders.now a.at hold (rw c.least_rollback-low.ensures at c.field-2.ensures) in
    rw (by-err _ c.from_residual-in_err-c.ensures.1) (refused a.s.now a.job a.resources a.run a.rollback a.holders.now a.at a.holders.now (at_err _ says c.in_err-c.was))

pub returns : goal.returns
returns c =
    let a = c.args in
    let resource = (at_ok 255 c.held_resource.ensures c.in_ok-a.was).0 in
    let hold = (at_ok _ (hold-says a.s.now a.job a.resources a.run a.rollback a.holders.now a.at resource c.field.ensures) c.in_ok-b.was).0 in
    let back = (at_ok _ (back-says a.s.now a.job a.resources a.run a.rollback a.holders.now a.at hold (rw c.least_rollback-low.ensures at c.field-2.ensures)) c.in_ok-c.was).0 in
    judged a.s.now a.job a.resources a.run a.rollback a.holders.now a.at resource back c.hold_for.ensures
