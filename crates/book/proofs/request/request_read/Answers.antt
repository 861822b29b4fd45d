-- `book::request::request_read` meets its contract.
use Prim.Native.Nat.{ℕ}
use native.Mathlib.Omega.{arith}
use mathlib.Core.Path.{◌≡◌, refl, ◌∙◌}
use mathlib.Core.List.{List}
use Rattle.std.specs.Prelude.{Result, Ok, Err}
use Rattle.cursor.specs.Reading.{Reading}
use Rattle.cursor.specs.declared.FieldRead.{FieldRead}
use Rattle.cursor.specs.declared.Refusal.{Refusal}
use Rattle.cursor.specs.Refusal.{RANGE}
use Rattle.cursor.specs.Field.{field_of}
use Rattle.cursor.specs.Step.{stands_at}
use Rattle.cursor.specs.Answer.{field_at, got, Refused, Says}
use Rattle.cursor.proofs.Says.{field-follows, field-stays, at_ok, at_err}
use Rattle.book.specs.Rules.{if_requested}
use Rattle.book.specs.Format.{requested_resource, requested_rollback, request_read}
use Rattle.book.specs.Judging.{RequestRead}
use Rattle.book.proofs.Stops.{by-err, requested-stays}
use Rattle.book.proofs.request.request_read.Goals as goal

-- the lines of `request_read`, each said of what the code has read by then
module _ (s : List ℕ) (resources run at : ℕ) where
  abbrev resource_read : Reading
  resource_read = requested_resource s resources (stands_at at)

  abbrev hold_read : Reading
  hold_read = field_of s 2 (if_requested resource_read.value 1) (if_requested resource_read.value run) RANGE resource_read

  by-resource : {d : Refusal} → Refused resource_read d → RequestRead s resources run at (Err d)
  unfolding request_read
  by-resource met = requested-stays s _ (field-stays met s _ _ _ _)

  module _ {f : FieldRead} (resource : resource_read ≡ got f) where
    hold-says : {o : Result FieldRead Refusal} → o ≡ field_at s f.next 2 (if_requested f.value 1) (if_requested f.value run) RANGE → Says hold_read (if_requested f.value run) o
    hold-says is = rw resource (field-follows s 2 (if_requested f.value 1) (if_requested f.value run) RANGE (omega arith) f refl is)

    by-hold : {d : Refusal} → Refused hold_read d → RequestRead s resources run at (Err d)
    unfolding request_read
    by-hold met = requested-stays s _ met

    module _ {g : FieldRead} (hold : hold_read ≡ got g) where
      rollback-read : requested_rollback s resource_read.value hold_read ≡ requested_rollback s f.value (stands_at g.next)
      unfolding requested_rollback field_of
      rollback-read = rw (hold, resource) refl

      module _ {o : Result FieldRead Refusal} (says : Says (requested_rollback s f.value (stands_at g.next)) 65535 o) where
        by-rollback : {d : Refusal} → o ≡ Err d → RequestRead s resources run at (Err d)
        unfolding request_read
        by-rollback was = rw rollback-read (at_err 65535 says was)

        asked : {h : FieldRead} → o ≡ Ok h → RequestRead s resources run at (Ok (record { resource = f.value; hold = g.value; rollback = h.value }, h))
        unfolding request_read
        asked {h} was =
            let q : requested_rollback s resource_read.value hold_read ≡ got h = rollback-read ∙ (at_ok 65535 says was).0 in
            (q, λ i. record { resource = (resource i).value; hold = (hold i).value; rollback = (q i).value })

pub returns-in_err-resource : goal.returns-in_err-resource
returns-in_err-resource c = rw (by-err _ c.from_residual.ensures.1) (by-resource c.args.s.now c.args.resources c.args.run c.args.at (at_err 255 c.requested_resource.ensures c.in_err-resource.was))

pub returns-in_err-hold : goal.returns-in_err-hold
returns-in_err-hold c =
    let a = c.args in
    let resource = (at_ok 255 c.requested_resource.ensures c.in_ok-resource.was).0 in
    let says = hold-says a.s.now a.resources a.run a.at resource (rw (c.if_requested-low.ensures.0, c.if_requested-high.ensures.0) at c.field.ensures) in
    rw (by-err _ c.from_residual-in_err-hold.ensures.1) (by-hold a.s.now a.resources a.run a.at resource (at_err _ says c.in_err-hold.was))

pub returns-in_err-rollback : goal.returns-in_err-rollback
returns-in_err-rollback c =
    let a = c.args in
    let resource = (at_ok 255 c.requested_resource.ensures c.in_ok-resource.was).0 in
    let hold = (at_ok _ (hold-says a.s.now a.resources a.run a.at resource (rw (c.if_requested-low.ensures.0, c.if_requested-high.ensures.0) at c.field.ensures)) c.in_ok-hold.was).0 in
    rw (by-err _ c.from_residual-in_err-rollback.ensures.1) (by-rollback a.s.now a.resources a.run a.at resource hold c.requested_rollback.ensures c.in_err-rollback.was)

pub overflow_cast-request-2 : goal.overflow_cast-request-2
overflow_cast-request-2 c =
    let a = c.args in
    let resource = (at_ok 255 c.requested_resource.ensures c.in_ok-resource.was).0 in
    let hold = at_ok _ (hold-says a.s.now a.resources a.run a.at resource (rw (c.if_requested-low.ensures.0, c.if_requested-high.ensures.0) at c.field.ensures)) c.in_ok-hold.was in
    omega (arith, hold.1, rw c.if_requested-high.ensures.0 at c.if_requested-high.ensures.1)

pub returns : goal.returns
returns c =
    let a = c.args in
    let resource = (at_ok 255 c.requested_resource.ensures c.in_ok-resource.was).0 in
    let hold = (at_ok _ (hold-says a.s.now a.resources a.run a.at resource (rw (c.if_requested-low.ensures.0, c.if_requested-high.ensures.0) at c.field.ensures)) c.in_ok-hold.was).0 in
    asked a.s.now a.resources a.run a.at resource hold c.requested_rollback.ensures c.in_ok-rollback.was
