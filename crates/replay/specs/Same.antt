-- One job of the machine and one of the planner agree: at each time, and each hold. A part of either mode keeps that.
use Rattle.std.specs.Prelude.{◌≡◌, refl, true, false, List, map, ℕ, ◌-◌, ◌<◌, ◌≤◌, ltb}
use Rattle.std.proofs.Common.{ap, ◌∙◌, arith, lt-ltb, le-ltb}
use Rattle.std.proofs.Math.Decide.{dec_lt}
use Rattle.job.specs.declared.Job.{Job}
use Rattle.job.specs.Job.{hold_of, rollback_of}
use Rattle.book.specs.declared.Entry.{Entry}
use Rattle.replay.specs.Machine.{MachineJob, still_held, less_hold, less_rollback}
use Rattle.replay.specs.View.{lists, hold_on}
use Rattle.replay.specs.Lists.{Distinct, Some, listed, lists-is, after-listed, after-unlisted}

pub record Same (m : MachineJob) (j : Job) : Type 0 where
  pub rolling : m.rolling ≡ j.rolling
  pub run : m.run ≡ j.run
  pub rollback : m.rollback ≡ j.rollback
  pub request : m.request ≡ j.request
  pub hold : (r : ℕ) → (hold_on m.holds r).hold ≡ hold_of j r
  pub undo : (r : ℕ) → 0 < hold_of j r → (hold_on m.holds r).rollback ≡ rollback_of j r
  pub distinct : Distinct m.holds
  pub some : Some m.holds

-- the machine's job holds r exactly when the planner's does
pub same_lists : {m : MachineJob} {j : Job} → Same m j → (r : ℕ) → lists m.holds r ≡ ltb 0 (hold_of j r)
same_lists {m} s r = lists-is m.holds r s.some ∙ ap (ltb 0) (s.hold r)

module _ {m : MachineJob} {j : Job} (s : Same m j) (n : ℕ) where
  abbrev pub es : List Entry
  es = m.holds

  -- what the job holds, with both its times
  pub has : (r : ℕ) → 0 < hold_of j r → (lists es r ≡ true) × (0 < (hold_on es r).rollback)
  has r h = let y = same_lists s r ∙ lt-ltb 0 (hold_of j r) h in (y, (listed es r s.some y).1)

  pub has-not : (r : ℕ) → hold_of j r ≤ 0 → lists es r ≡ false
  has-not r h = same_lists s r ∙ le-ltb 0 (hold_of j r) h

  -- it ran for n
  pub run-hold : (r : ℕ) → (hold_on (still_held (map (less_hold n) es)) r).hold ≡ hold_of j r - n
  run-hold r = elim (dec_lt 0 (hold_of j r)) [
    | yes h ↦ elim (dec_lt n (hold_of j r)) [
      | yes l ↦ rw (after-listed (less_hold n) (λ e. refl) es s.distinct r (has r h).0, lt-ltb 0 ((hold_on es r).hold - n) (omega (arith, s.hold r)), lt-ltb 0 (hold_on es r).rollback (has r h).1) (omega (arith, s.hold r))
      | no l ↦ rw (after-listed (less_hold n) (λ e. refl) es s.distinct r (has r h).0, le-ltb 0 ((hold_on es r).hold - n) (omega (arith, s.hold r))) (omega arith)
    ]
    | no h ↦ rw (after-unlisted (less_hold n) (λ e. refl) es s.distinct r (has-not r (omega arith))) (omega arith)
  ]

  pub run-undo : (r : ℕ) → n < hold_of j r → (hold_on (still_held (map (less_hold n) es)) r).rollback ≡ rollback_of j r
  run-undo r l =
      let h : 0 < hold_of j r = omega arith in
      rw (after-listed (less_hold n) (λ e. refl) es s.distinct r (has r h).0, lt-ltb 0 ((hold_on es r).hold - n) (omega (arith, s.hold r)), lt-ltb 0 (hold_on es r).rollback (has r h).1) (s.undo r h)

  -- it rolled back for n
  pub undone : (r : ℕ) → 0 < hold_of j r → n < rollback_of j r → hold_on (still_held (map (less_rollback n) es)) r ≡ less_rollback n (hold_on es r)
  undone r h l = rw (after-listed (less_rollback n) (λ e. refl) es s.distinct r (has r h).0, lt-ltb 0 (hold_on es r).hold (omega (arith, s.hold r)), lt-ltb 0 ((hold_on es r).rollback - n) (omega (arith, s.undo r h)))
