-- The machine's job and the planner's, made of one record, agree.
use Rattle.std.specs.Prelude.{◌≡◌, refl, List, ℕ, ◌<◌, ◌≤◌, length, get_or, take}
use Rattle.std.proofs.Math.Path.{sym, ap}
use Rattle.std.proofs.Common.{◌∙◌, not-suc-le-zero, arith, get_or-take, length-take-le}
use Rattle.std.proofs.Math.Logic.{inl, inr}
use Rattle.job.specs.Job.{hold_of, rollback_of}
use Rattle.book.specs.declared.Entry.{Entry}
use Rattle.book.specs.Read.{Record}
use Rattle.book.specs.Format.{no_entry, empty_record}
use Rattle.opening.specs.Start.{job_from}
use Rattle.opening.specs.Held.{entry_at, Apart, Names, named-or-free}
use Rattle.opening.proofs.HeldTheorems.{hold-entry, rollback-entry, hold-none}
use Rattle.replay.specs.Machine.{from_record}
use Rattle.replay.specs.View.{hold_on}
use Rattle.replay.specs.Lists.{Distinct, unlisted}
use Rattle.replay.specs.Listed.{unlisted-all, distinct-all, some-all, hold_at}
use Rattle.replay.specs.Same.{Same}

-- a held list that names no resource twice, and nothing at zero
pub record Orderly (x : Record) : Type 0 where
  pub apart : Apart x
  pub room : x.holds ≤ length x.held
  pub some : (k : ℕ) → k < x.holds → (0 < (entry_at x k).hold) × (0 < (entry_at x k).rollback)

module _ {x : Record} (o : Orderly x) where
  abbrev es : List Entry
  es = take x.holds x.held

  among : (k : ℕ) → k < length es → k < x.holds
  among k l = omega (arith, length-take-le x.holds x.held o.room)

  entry-is : (k : ℕ) → k < x.holds → get_or es k no_entry ≡ entry_at x k
  entry-is k l = get_or-take x.holds x.held k no_entry l

  resource-is : (k : ℕ) → k < x.holds → (get_or es k no_entry).resource ≡ (entry_at x k).resource
  resource-is k l = ap (λ (e : Entry). e.resource) (entry-is k l)

  es-distinct : Distinct es
  es-distinct = distinct-all es (λ k n l h q. o.apart.once k n (among k l) (among n h) (sym (resource-is k (among k l)) ∙ q ∙ resource-is n (among n h)))

  hold-named : (r k : ℕ) → Names x r k → hold_on es r ≡ entry_at x k
  hold-named r k n =
      ap (hold_on es) (sym (resource-is k n.among ∙ n.is))
      ∙ hold_at es k es-distinct (omega (arith, n.among, length-take-le x.holds x.held o.room))
      ∙ entry-is k n.among

  hold-unnamed : (r : ℕ) → ((k : ℕ) → Names x r k → ⊥) → hold_on es r ≡ no_entry
  hold-unnamed r none = unlisted es r (unlisted-all es r (λ k l q. none k (record { among = among k l; is = sym (resource-is k (among k l)) ∙ q })))

  pub same-record : Same (from_record x) (job_from x)
  unfolding job_from
  same-record = record {
    rolling = refl;
    run = refl;
    rollback = refl;
    request = refl;
    hold = λ r. elim (named-or-free x r) [
      | inl z ↦ ap (λ (e : Entry). e.hold) (hold-named r z.0 z.1) ∙ sym (hold-entry x o.apart z.0 z.1.among) ∙ ap (hold_of (job_from x)) z.1.is
      | inr n ↦ ap (λ (e : Entry). e.hold) (hold-unnamed r n) ∙ sym (hold-none x o.apart r n)
    ];
    undo = λ r h. elim (named-or-free x r) [
      | inl z ↦ ap (λ (e : Entry). e.rollback) (hold-named r z.0 z.1) ∙ sym (rollback-entry x o.apart z.0 z.1.among) ∙ ap (rollback_of (job_from x)) z.1.is
      | inr n ↦ absurd (omega (arith, hold-none x o.apart r n))
    ];
    distinct = es-distinct;
    some = some-all es (λ k l. rw (entry-is k (among k l)) (o.some k (among k l)));
  }

-- what stands past the last record has an empty list
pub no_record : Orderly empty_record
no_record = record {
  apart = record { few = omega arith; below = λ k l. absurd (not-suc-le-zero l); once = λ k m l n e. absurd (not-suc-le-zero l) };
  room = omega arith;
  some = λ k l. absurd (not-suc-le-zero l);
}
