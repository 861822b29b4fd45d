-- What rests on specs/Bridge.antt.
use Rattle.std.specs.Prelude.{◌≡◌, refl, List, ℕ, ◌+◌, ◌≤◌, pos, length, take}
use Rattle.std.proofs.Common.{sym, ap, ◌∙◌, true≢false, arith}
use Rattle.std.proofs.Math.Decide.{dec_lt}
use Rattle.std.proofs.Math.IntN.{+ℤ_idl}
use Rattle.curve.specs.Worth.{defined}
use Rattle.job.specs.declared.Job.{Job}
use Rattle.job.specs.Job.{hold_of}
use Rattle.gus.specs.declared.Part.{Part}
use Rattle.gus.specs.declared.Course.{Course}
use Rattle.gus.specs.State.{job_at, after_all}
use Rattle.gus.specs.View.{Pay}
use Rattle.gus.specs.Choice.{Way}
use Rattle.gus.specs.Group.{group_of}
use Rattle.gus.specs.Round.{Plan, worthwhile}
use Rattle.invariants.specs.Sound.{Sound, member-left, left-member, holder-left}
use Rattle.invariants.specs.Proper.{sound-after}
use Rattle.invariants.specs.Replay.{Replay, over, then, paid}
use Rattle.invariants.specs.Left.{count_left}
use Rattle.invariants.specs.Burden.{burden-most}
use Rattle.invariants.specs.Given.{grants_add as grants_reckoned}
use Rattle.invariants.proofs.Given.{run_kept, rollback_kept, once-rollback}
use Rattle.invariants.specs.Picked.{course_at}
use Rattle.invariants.specs.Rounds.{Replayed}
use Rattle.replay.specs.Machine.{Machine, step, follow}
use Rattle.replay.specs.View.{view_of_machine}
use Rattle.replay.specs.Agree.{Agrees, time-left, clock-all}
use Rattle.replay.proofs.Agree.{agrees_after, earnings-are, agrees-all, paid-all, unpaid-all}
use Rattle.replay.specs.Moments.{done_by, done_all, grants_add}
use Rattle.replay.specs.Sentences.{part_at, Demand3}
use Rattle.replay.specs.Parts.{sound-all, parts-before, part-inside, parts-done, rolling-stays, once-at}
use Rattle.replay.specs.Seen.{held-is, free-is, left_is, asked, view-seen}
use Rattle.replay.specs.Bridge.{before, by, proper, same-adds, sound-before, sound-by}

grants-are : {pay : Pay} {m : Machine} {js : List Job} {ps : List Part} (i : ℕ) → Agrees pay m js → Sound js → Replay js ps → grants_add i m ps ≡ grants_reckoned i js ps
unfolding grants_add grants_reckoned
grants-are i a s over = refl
grants-are {m = m} i a s (then {p = p} g r) = rw (same-adds (a.same p.job) p.rolling, grants-are {m = step m p} i (agrees_after a s g) (sound-after s g) r)

module _ {pay : Pay} {way : Way} {m : Machine} {js : List Job} {plan : Plan} (a : Agrees pay m js) (s : Sound js) (d : Replayed way pay js m.clock plan) (unpaid : (m.paid ≡ pos 0) × (m.unpaid ≡ 0)) (few : count_left js ≤ length m.jobs) where
  agrees-before : (k : ℕ) → Agrees pay (follow m (take k plan.parts)) ((before a s d unpaid few) k)
  agrees-before k = agrees-all a s (parts-before k d.replay)

  agrees-by : (t : ℕ) → Agrees pay (follow m (done_by t plan.parts)) ((by a s d unpaid few) t)
  agrees-by t = agrees-all a s (parts-done t d.replay)

  agrees-end : Agrees pay (follow m plan.parts) (after_all js plan.parts)
  agrees-end = agrees-all a s d.replay

  clock-end : plan.end ≡ (follow m plan.parts).clock
  clock-end = d.end ∙ sym (clock-all m plan.parts)

  -- a group seen at the end is the planner's
  course-seen : (i : ℕ) → (group_of way (view_of_machine (follow m plan.parts)) (follow m plan.parts).clock i).course ≡ course_at way pay (after_all js plan.parts) plan.end i
  course-seen i = λ x. (group_of way (view-seen agrees-end (sound-all s d.replay) x) (sym clock-end x) i).course

  pub keeps-demand3 : Demand3 way m plan
  keeps-demand3 = record {
    starts_free = λ k i l e. rw (asked (agrees-before k) ((sound-before a s d unpaid few) k) (part_at plan.parts k).job) (free-is (agrees-before k) ((sound-before a s d unpaid few) k) i (job_at ((before a s d unpaid few) k) (part_at plan.parts k).job).request.resource (omega (arith, ((proper a s d unpaid few) k l).free.at i)));
    one_holder = λ t i j r x y. ((sound-by a s d unpaid few) t).one i j r (held-is (agrees-by t) ((sound-by a s d unpaid few) t) i r x) (held-is (agrees-by t) ((sound-by a s d unpaid few) t) j r y);
    not_longer = λ k l. rw (time-left ((agrees-before k).same (part_at plan.parts k).job) (part_at plan.parts k).rolling) ((proper a s d unpaid few) k l).left;
    stays_rolling = λ k n h l e. rolling-stays k n s d.replay h l (sym ((agrees-before k).same (part_at plan.parts n).job).rolling ∙ e);
    parts_stay_rolling = λ k n h l q e. once-at plan.parts k n (once-rollback s d.replay) h l q e;
    finished_idle = λ k l. left_is (agrees-before k) ((sound-before a s d unpaid few) k) (part_at plan.parts k).job ∙ member-left ((proper a s d unpaid few) k l).alive;
    finished_free = λ t i r e. elim (dec_lt 0 (hold_of (job_at ((by a s d unpaid few) t) i) r)) [
      | yes h ↦ absurd (true≢false (sym (left_is (agrees-by t) ((sound-by a s d unpaid few) t) i ∙ member-left (holder-left ((sound-by a s d unpaid few) t) i r h)) ∙ e))
      | no h ↦ free-is (agrees-by t) ((sound-by a s d unpaid few) t) i r (omega arith)
    ];
    run_kept = λ t i. rw (((agrees-by t).same i).run, (a.same i).run) (run_kept i s (parts-done t d.replay));
    rollback_kept = λ t i h. rw (((agrees-by t).same i).rollback, (a.same i).rollback, grants-are i a s (parts-done t d.replay)) (rollback_kept i s (parts-done t d.replay) (rw ((agrees-by t).same i).rollback at h)).1;
    pays_total = paid-all a s d.replay ∙ rw unpaid.0 (+ℤ_idl (paid pay js m.clock plan.parts)) ∙ sym d.total;
    none_unpaid = unpaid-all a s d.replay d.inside ∙ unpaid.1;
    finishes_inside = λ k l.
        let end : ℕ = (follow m (take k plan.parts)).clock + (part_at plan.parts k).time in
        ap defined (earnings-are (agrees-before k) ((sound-before a s d unpaid few) k) ((proper a s d unpaid few) k l) end) ∙ (rw (clock-all m (take k plan.parts)) (part-inside pay js m.clock k plan.parts d.inside l));
    none_worthwhile = λ i e q. ap worthwhile (course-seen i) ∙ d.rest i (record {
      member = left-member (sound-all s d.replay) i (sym (left_is agrees-end (sound-all s d.replay) i) ∙ e);
      inside = sym (ap (λ (c : Course). c.inside) (course-seen i)) ∙ q;
    });
    last_moment = ap (follow m) (done_all plan.parts);
    clock_moved = clock-all m plan.parts;
    end_is = clock-end;
    parts_take_time = λ k l. ((proper a s d unpaid few) k l).some;
    parts_few = omega (arith, d.short, burden-most s);
    rounds_few = omega (arith, d.few, few);
  }
