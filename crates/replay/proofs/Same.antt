-- What rests on specs/Same.antt.
use Rattle.std.specs.Prelude.{refl, map, ℕ, ◌-◌, ◌<◌, ◌≡◌}
use Rattle.std.proofs.Common.{sym, ◌∙◌, arith, ap, lt-ltb, le-ltb}
use Rattle.job.specs.declared.Job.{Job}
use Rattle.job.specs.Job.{hold_of, ran, rollback_of, rolled_back}
use Rattle.job.specs.Run.{ran-run, ran-rollback, ran-rolling, ran-request}
use Rattle.job.proofs.Run.{hold-ran, rollback-ran}
use Rattle.replay.specs.Machine.{MachineJob, less_hold, has_run, still_held, less_rollback, has_rolled_back}
use Rattle.replay.specs.Lists.{distinct-map, some-kept, distinct-kept, after-listed, after-unlisted}
use Rattle.replay.specs.Same.{Same, es, run-hold, run-undo, has, has-not, undone}
use Rattle.std.proofs.Math.Decide.{dec_lt}
use Rattle.job.specs.Rollback.{rolled_back-run, rolled_back-rollback, rolled_back-rolling, rolled_back-request}
use Rattle.job.proofs.Rollback.{rollback-rolled_back, hold-rolled_back, hold-rolled_back-freed, hold-rolled_back-le}
use Rattle.book.specs.declared.Entry.{Entry}
use Rattle.replay.specs.View.{hold_on}

module _ {m : MachineJob} {j : Job} (s : Same m j) (n : ℕ) where
  pub same-ran : Same (has_run n m) (ran n j)
  same-ran = record {
    rolling = s.rolling ∙ sym (ran-rolling n j);
    run = omega (arith, s.run, ran-run n j);
    rollback = s.rollback ∙ sym (ran-rollback n j);
    request = s.request ∙ sym (ran-request n j);
    hold = λ r. (run-hold s n) r ∙ sym (hold-ran n j r);
    undo = λ r h. let l : n < hold_of j r = omega (arith, hold-ran n j r) in (run-undo s n) r l ∙ sym (rollback-ran n j r l);
    distinct = distinct-kept (map (less_hold n) (es s n)) (distinct-map (less_hold n) (λ e. refl) (es s n) s.distinct);
    some = some-kept (map (less_hold n) (es s n));
  }

module _ {m : MachineJob} {j : Job} (s : Same m j) (n : ℕ) where
  back-hold : (r : ℕ) → (hold_on (still_held (map (less_rollback n) (es s n))) r).hold ≡ hold_of (rolled_back n j) r
  back-hold r = elim (dec_lt 0 (hold_of j r)) [
    | yes h ↦ elim (dec_lt n (rollback_of j r)) [
      | yes l ↦ ap (λ (e : Entry). e.hold) ((undone s n) r h l) ∙ s.hold r ∙ sym (hold-rolled_back n j r l)
      | no l ↦ rw (after-listed (less_rollback n) (λ e. refl) (es s n) s.distinct r ((has s n) r h).0, lt-ltb 0 (hold_on (es s n) r).hold (omega (arith, s.hold r)), le-ltb 0 ((hold_on (es s n) r).rollback - n) (omega (arith, s.undo r h))) (sym (hold-rolled_back-freed n j r (omega arith)))
    ]
    | no h ↦ rw (after-unlisted (less_rollback n) (λ e. refl) (es s n) s.distinct r ((has-not s n) r (omega arith))) (omega (arith, hold-rolled_back-le n j r))
  ]

  back-undo : (r : ℕ) → 0 < hold_of (rolled_back n j) r → (hold_on (still_held (map (less_rollback n) (es s n))) r).rollback ≡ rollback_of (rolled_back n j) r
  back-undo r k = elim (dec_lt n (rollback_of j r)) [
    | yes l ↦
        let h : 0 < hold_of j r = omega (arith, hold-rolled_back-le n j r) in
        omega (arith, ap (λ (e : Entry). e.rollback) ((undone s n) r h l), s.undo r h, rollback-rolled_back n j r)
    | no l ↦ absurd (omega (arith, hold-rolled_back-freed n j r (omega arith)))
  ]

  pub same-rolled_back : Same (has_rolled_back n m) (rolled_back n j)
  same-rolled_back = record {
    rolling = sym (rolled_back-rolling n j);
    run = s.run ∙ sym (rolled_back-run n j);
    rollback = omega (arith, s.rollback, rolled_back-rollback n j);
    request = sym (rolled_back-request n j);
    hold = back-hold;
    undo = back-undo;
    distinct = distinct-kept (map (less_rollback n) (es s n)) (distinct-map (less_rollback n) (λ e. refl) (es s n) s.distinct);
    some = some-kept (map (less_rollback n) (es s n));
  }
