-- A round sees the same of the machine's jobs as of the planner's: who is left, who waits for whom, how long, what a finish is worth.
use Rattle.std.specs.Prelude.{◌≡◌, refl, ◌⊎◌, Bool, true, false, cond, List, [], ◌∷◌, ℕ, zero, suc, ◌+◌, ◌<◌, ◌≤◌, ltb}
use Rattle.std.proofs.Common.{sym, ap, ◌∙◌, inl, inr, arith, le-ltb, ltb-true, ltb-false}
use Rattle.job.specs.declared.Request.{Request}
use Rattle.job.specs.declared.Job.{Job}
use Rattle.job.specs.Job.{hold_of, rollback_of, is_left}
use Rattle.book.specs.declared.Entry.{Entry}
use Rattle.gus.specs.State.{job_at}
use Rattle.gus.specs.Waits.{holder_of, waits_for}
use Rattle.gus.specs.View.{Pay, view_of}
use Rattle.invariants.specs.Vacant.{vacant-past}
use Rattle.invariants.specs.Sound.{Sound}
use Rattle.invariants.specs.Holders.{holder, holder-is, holder-free}
use Rattle.replay.specs.Machine.{MachineJob, Machine, numbered, job_of}
use Rattle.replay.specs.View.{lists, holds, left, hold_on, holder_from, waits, awaited, view_of_machine}
use Rattle.replay.specs.Lists.{unlisted}
use Rattle.replay.specs.Same.{same_lists}
use Rattle.replay.specs.Agree.{Agrees}

-- the search from number i on found a holder, or nobody holds r
record Found (ms : List MachineJob) (r i w : ℕ) : Type 0 where
  place : ℕ
  is : w ≡ i + place
  held : lists (numbered ms place).holds r ≡ true

record Missed (ms : List MachineJob) (r w : ℕ) : Type 0 where
  is : w ≡ 255
  free : (k : ℕ) → lists (numbered ms k).holds r ≡ false

found : (ms : List MachineJob) (r i : ℕ) → Found ms r i (holder_from ms r i) ⊎ Missed ms r (holder_from ms r i)
unfolding holder_from lists
found [] r i = inr (record { is = refl; free = λ k. refl })
found (j ∷ ms) r i = go (lists j.holds r) refl (found ms r (suc i))
  where
    go : (b : Bool) → lists j.holds r ≡ b → Found ms r (suc i) (holder_from ms r (suc i)) ⊎ Missed ms r (holder_from ms r (suc i)) → Found (j ∷ ms) r i (cond b i (holder_from ms r (suc i))) ⊎ Missed (j ∷ ms) r (cond b i (holder_from ms r (suc i)))
    go true y f = inl (record { place = 0; is = omega arith; held = y })
    go false n (inl x) = inl (record { place = suc x.place; is = omega (arith, x.is); held = x.held })
    go false n (inr x) = inr (record { is = x.is; free = each })
      where
        each : (k : ℕ) → lists (numbered (j ∷ ms) k).holds r ≡ false
        each zero = n
        each (suc k) = x.free k

module _ {pay : Pay} {m : Machine} {js : List Job} (a : Agrees pay m js) (s : Sound js) where
  holds-is : (i r : ℕ) → holds m i r ≡ ltb 0 (hold_of (job_at js i) r)
  holds-is i r = same_lists (a.same i) r

  pub held-is : (i r : ℕ) → holds m i r ≡ true → 0 < hold_of (job_at js i) r
  held-is i r h = ltb-true 0 (hold_of (job_at js i) r) (sym (holds-is i r) ∙ h)

  pub free-is : (i r : ℕ) → hold_of (job_at js i) r ≤ 0 → holds m i r ≡ false
  free-is i r h = holds-is i r ∙ le-ltb 0 (hold_of (job_at js i) r) h

  pub left_is : (i : ℕ) → left (job_of m i) ≡ is_left (job_at js i)
  left_is i = rw ((a.same i).run, (a.same i).rollback)

  pub asked : (i : ℕ) → (job_of m i).request.resource ≡ (job_at js i).request.resource
  asked i = ap (λ (q : Request). q.resource) (a.same i).request

  holder-seen : (r : ℕ) → holder_from m.jobs r 0 ≡ holder_of js r
  holder-seen r = elim (found m.jobs r 0) [
    | inl x ↦ omega (arith, x.is, holder-is s x.place r (held-is x.place r x.held))
    | inr x ↦ x.is ∙ sym (holder-free r (record { at = λ k. omega (arith, ltb-false 0 (hold_of (job_at js k) r) (sym (holds-is k r) ∙ x.free k)) }))
  ]

  waits-seen : (i : ℕ) → waits m i ≡ waits_for js i
  waits-seen i = holder-seen (job_of m i).request.resource ∙ ap (holder_of js) (asked i)

  -- what a job waits for, as its holder has it
  hold-seen : (i : ℕ) → (awaited m i).hold ≡ hold_of (job_at js (waits_for js i)) (job_at js i).request.resource
  hold-seen i = rw (waits-seen i, asked i) ((a.same (waits_for js i)).hold (job_at js i).request.resource)

  undo-at : (r : ℕ) → (hold_on (job_of m (holder_of js r)).holds r).rollback ≡ rollback_of (job_at js (holder_of js r)) r
  undo-at r = elim (holder js r) [
    | inl x ↦ (a.same (holder_of js r)).undo r x.1
    | inr x ↦
        let none : lists (job_of m (holder_of js r)).holds r ≡ false = free-is (holder_of js r) r (omega (arith, x.free.at (holder_of js r))) in
        let past : (job_at js (holder_of js r)).rollback ≡ 0 = ap (λ (j : Job). j.rollback) (vacant-past js s.size (holder_of js r) (omega (arith, x.is))) in
        omega (arith, ap (λ (e : Entry). e.rollback) (unlisted (job_of m (holder_of js r)).holds r none), (s.fit (holder_of js r)).rollbacks r)
  ]

  undo-seen : (i : ℕ) → (awaited m i).rollback ≡ rollback_of (job_at js (waits_for js i)) (job_at js i).request.resource
  undo-seen i = rw (waits-seen i, asked i) (undo-at (job_at js i).request.resource)

  pub view-seen : view_of_machine m ≡ view_of pay js
  view-seen = λ x. record {
    left = λ i. left_is i x;
    waits = λ i. waits-seen i x;
    hold = λ i. hold-seen i x;
    undo = λ i. undo-seen i x;
    run = λ i. (a.same i).run x;
    rollback = λ i. (a.same i).rollback x;
    rolling = λ i. (a.same i).rolling x;
    worth = λ b i t. a.worth b i t x;
  }
