-- `book::held::held_judged` meets its contract.
use Prim.Native.Nat.{ℕ, ◌<◌}
use native.Mathlib.Omega.{arith}
use mathlib.Core.Path.{◌≡◌, ap, sym, ◌∙◌}
use mathlib.Core.List.{List}
use lib.ListN.{replicate}
use Rattle.std.specs.Prelude.{Err, Ok}
use Rattle.laws.specs.Count.{upto}
use Rattle.cursor.specs.Reading.{Reading}
use Rattle.cursor.specs.declared.FieldRead.{FieldRead}
use Rattle.cursor.specs.declared.Refusal.{Refusal}
use Rattle.cursor.specs.Refusal.{RANGE}
use Rattle.cursor.specs.Field.{field_of}
use Rattle.cursor.specs.Step.{stands_at}
use Rattle.cursor.specs.Answer.{got, Refused}
use Rattle.cursor.proofs.Says.{field-says, at_ok, at_err}
use Rattle.book.specs.Read.{HeldList}
use Rattle.book.specs.Format.{no_entry, held_resource, entry_read, entry_next, held_read}
use Rattle.book.specs.Judging.{HeldJudged, held_seen, judge-begin, judge-next, judge-ended, entry-turn}
use Rattle.book.proofs.Stops.{by-err, upto-stays, upto-stops, entries-stay}
use Rattle.book.proofs.held.held_judged.Goals as goal

-- the lines of `held_read`, each said of what the code has read by then
module _ (s : List ℕ) (job resources run rollback : ℕ) (holders : List ℕ) (at : ℕ) where
  abbrev count_read : Reading
  count_read = field_of s 1 0 32 RANGE (stands_at at)

  abbrev turn : ℕ → HeldList → HeldList
  turn = entry_next s job resources run rollback

  by-count : {d : Refusal} (left : List ℕ) → Refused count_read d → HeldJudged s job resources run rollback holders at (Err d) left
  unfolding held_read
  by-count left met = upto-stays turn (λ h. h.reading) (entries-stay s job resources run rollback) _ _ met

  entry-stops : (i : ℕ) {read : FieldRead} {so-far : List ℕ} {d : Refusal} → Refused (entry_read s resources run rollback so-far (stands_at read.next)).reading d → (h : HeldList) → (got read, so-far) ≡ held_seen h → Refused (turn i h).reading d
  unfolding entry_next entry_read held_resource field_of
  entry-stops i met h seen = (ap (λ v. (entry_read s resources run rollback v.1 v.0).reading) (sym seen) ∙ met.0, met.1)

  module _ {f : FieldRead} (count : count_read ≡ got f) where
    abbrev begun : HeldList
    begun = record { reading = got f; holds = f.value; held = replicate 32 no_entry; holders = holders }

    by-entry : (i : ℕ) {d : Refusal} (left : List ℕ) → i < f.value → Refused (turn i (upto turn i begun)).reading d → HeldJudged s job resources run rollback holders at (Err d) left
    unfolding held_read
    by-entry i left h met = rw count (upto-stops turn (λ x. x.reading) (entries-stay s job resources run rollback) i f.value begun h met)

    ended : {read : FieldRead} {left : List ℕ} → (got read, left) ≡ held_seen (upto turn f.value begun) → HeldJudged s job resources run rollback holders at (Ok read) left
    unfolding held_read
    ended seen = rw count (ap (λ v. v.0) (sym seen), ap (λ v. v.1) seen)

pub returns-in_err-count : goal.returns-in_err-count
returns-in_err-count c =
    let a = c.args in
    rw (by-err _ c.from_residual.ensures.1)
    (by-count a.s.now a.job a.resources a.run a.rollback a.holders.now a.at a.holders.now (at_err 32 (field-says a.s.now 1 0 32 RANGE (omega arith) a.at c.field.ensures) c.in_err-count.was))

pub loop-init : goal.loop-init
loop-init c = judge-begin

pub loop-preserved : goal.loop-preserved
loop-preserved c = judge-next c.loop.invariant c.loop-test.true (entry-turn _ _ _ _ _ _ c.in_ok-read.ensures)

pub returns-in_err-read : goal.returns-in_err-read
returns-in_err-read c =
    let a = c.args in
    let count = (at_ok 32 (field-says a.s.now 1 0 32 RANGE (omega arith) a.at c.field.ensures) c.in_ok-count.was).0 in
    rw (by-err _ c.from_residual-in_err-read.ensures.1)
    (by-entry a.s.now a.job a.resources a.run a.rollback a.holders.now a.at count c.loop.counter c.entry_judged.new.holders c.loop-test.true
    (entry-stops a.s.now a.job a.resources a.run a.rollback a.holders.now a.at c.loop.counter c.in_err-read.ensures _ c.loop.invariant.so_far))

pub returns : goal.returns
returns c =
    let a = c.args in
    let count = (at_ok 32 (field-says a.s.now 1 0 32 RANGE (omega arith) a.at c.field.ensures) c.in_ok-count.was).0 in
    ended a.s.now a.job a.resources a.run a.rollback a.holders.now a.at count (judge-ended c.loop.invariant c.loop-test.false)
