-- What rests on specs/Granted.antt.
use Rattle.std.specs.Prelude.{◌≡◌, refl, Bool, true, false, ℕ, ◌<◌}
use Rattle.std.proofs.Math.Path.{sym, ap}
use Rattle.std.proofs.Common.{◌∙◌, arith}
use Rattle.std.proofs.Math.Decide.{dec_lt}
use borrow.Author.Tests.{eq-eqb, ne_eqb, le-ltb}
use Rattle.job.specs.declared.Request.{Request}
use Rattle.job.specs.declared.Job.{Job}
use Rattle.job.specs.Times.{le-or-never}
use Rattle.job.specs.Job.{hold_of, all_never, granted, worked}
use Rattle.job.specs.Grant.{granted-none, granted-run, granted-rolling, granted-rollback, granted-gone}
use Rattle.job.specs.Fit.{Fit}
use Rattle.replay.specs.Machine.{MachineJob, longer, longer_hold, with_request, given}
use Rattle.replay.specs.Lists.{lists-map, distinct-map}
use Rattle.replay.specs.Same.{Same, same_lists}
use Rattle.replay.proofs.Same.{same-ran}
use Rattle.replay.proofs.Same.{same-rolled_back}
use Rattle.replay.specs.Granted.{ask, granted-hold, granted-undo, longer-is, longer-some, new_is, resource}

module _ {m : MachineJob} {j : Job} (s : Same m j) (f : Fit j) (l : j.request.resource < 32) (free : hold_of j j.request.resource ≡ 0) where
  same-given : Same (with_request m) (granted j)
  unfolding with_request
  same-given = rw (ne_eqb m.request.resource 255 (λ e. absurd (omega (arith, (resource s f l free))))) (record {
    rolling = s.rolling ∙ sym (granted-rolling j);
    run = s.run ∙ sym (granted-run j);
    rollback = ap (longer m) s.rollback ∙ (longer-is s f l free) j.rollback (omega arith) ∙ sym (granted-rollback j l);
    request = sym (granted-gone j l);
    hold = (granted-hold s f l free);
    undo = (granted-undo s f l free);
    distinct = (lists-map (longer_hold m) (λ e. refl) m.holds m.request.resource ∙ same_lists s m.request.resource ∙ le-ltb 0 (hold_of j m.request.resource) (omega (arith, ap (hold_of j) (resource s f l free))), distinct-map (longer_hold m) (λ e. refl) m.holds s.distinct);
    some = (omega (arith, ap (λ (q : Request). q.hold) s.request, (ask s f l free).hold_some), omega (arith, (new_is s f l free), le-or-never (all_never j) (ask s f l free).rollback_most, (ask s f l free).rollback_some), longer-some m m.holds s.some);
  })

module _ {m : MachineJob} {j : Job} (s : Same m j) (f : Fit j) (free : hold_of j j.request.resource ≡ 0) where
  same-granted : Same (with_request m) (granted j)
  unfolding with_request
  same-granted = elim (dec_lt j.request.resource 32) [
    | yes l ↦ same-given s f l free
    | no l ↦
        let e : m.request.resource ≡ 255 = ap (λ (q : Request). q.resource) (s.request ∙ f.none (omega arith)) in
        rw (eq-eqb m.request.resource 255 e, granted-none j (omega arith)) s
  ]

  -- A JOB AFTER A PART
  pub same-worked : (b : Bool) (n : ℕ) → Same (given b n m) (worked b n j)
  same-worked true n = same-rolled_back s n
  same-worked false n = same-ran same-granted n
