-- THE BRIDGE: where the sheet is the rows of the jobs, it gives the view of the jobs.
use Rattle.std.specs.Prelude.{◌≡◌, Bool, true, false, ◌&&◌, List, ℕ, ◌+◌, ◌*◌, ◌<◌, ◌≤◌, ltb, eqb, pos, None, Some}
use Rattle.std.proofs.Common.{sym, ap, ◌∙◌, inl, inr, arith, lt-ltb, le-ltb}
use Rattle.std.proofs.Math.ListN.{get_or-eq_default}
use Rattle.laws.specs.Search.{lt-or-le}
use Rattle.curve.specs.Before.{worth_before}
use Rattle.job.specs.declared.Held.{Held}
use Rattle.job.specs.declared.Job.{Job}
use Rattle.job.specs.Held.{free}
use Rattle.job.specs.Job.{held_at}
use Rattle.job.specs.Part.{ended-not-left}
use Rattle.gus.specs.State.{vacant, job_at}
use Rattle.gus.specs.Waits.{nobody, waits_for}
use Rattle.gus.specs.View.{Pay, view_of}
use Rattle.invariants.specs.Vacant.{vacant-past}
use Rattle.invariants.specs.Sound.{Sound}
use Rattle.invariants.specs.Waiting.{waits-none}
use Rattle.planner.specs.Sheet.{cell, worth_seen, paid, seen}
use Rattle.planner.specs.Places.{Place}
use Rattle.planner.specs.Rows.{asked, Idle, Rows}
use Rattle.planner.specs.Unheld.{held-past}
use Rattle.planner.specs.Asking.{Beyond}

-- what is said of the 32 rows and of what stands past them is said of every index
everywhere : {A : Type 0} (f g : ℕ → A) → ((i : ℕ) → i < 32 → f i ≡ g i) → ((i : ℕ) → 32 ≤ i → f i ≡ g i) → (i : ℕ) → f i ≡ g i
everywhere f g within past i = elim (lt-or-le i 32) [ inl l ↦ within i l | inr l ↦ past i l ]

module _ {js : List Job} (s : Sound js) where
  past : (i : ℕ) → 32 ≤ i → vacant ≡ job_at js i
  past i l = sym (vacant-past js s.size i l)

  asked-past : (i : ℕ) → 32 ≤ i → 32 ≤ asked js i
  asked-past i l = omega (arith, ap (λ (j : Job). j.request.resource) (past i l))

  pub rows-beyond : {n : ℕ} (pay : Pay) → Idle n js → n ≤ 32 → Beyond n (view_of pay js)
  rows-beyond pay idle few = record {
    few = few;
    left = λ i l. ended-not-left (job_at js i) (inl (idle.run i l));
    waits = λ i l. waits-none s i (idle.request i l);
  }

  module _ (bytes : List ℕ) (pay : Pay) {places : ℕ → Place} {sheet : List ℕ} (rows : Rows js places sheet) where
    past-cell : (k z i : ℕ) → 32 ≤ i → cell k sheet z i ≡ z
    past-cell k z i l = get_or-eq_default sheet z {n = 9 * i + k} (omega (arith, rows.size))

    -- where a normal finish pays what its curve says in the bytes, and a rollback 0 at any time
    pub record Paying : Type 0 where
      pub curves : (i t : ℕ) → i < 32 → worth_before bytes (places i).end (places i).pieces t ≡ pay false i t
      pub none : (i t : ℕ) → 32 ≤ i → pay false i t ≡ None
      pub back : (i t : ℕ) → pay true i t ≡ Some (pos 0)

    pub rows-view : Paying → seen bytes sheet ≡ view_of pay js
    rows-view pays = λ d. record {
      left = λ i. ltb 0 (run i d) && ltb 0 (rollback i d);
      waits = λ i. everywhere (cell 4 sheet nobody) (waits_for js) rows.waits (λ k l. past-cell 4 nobody k l ∙ sym (waits-none s k (asked-past k l))) i d;
      hold = λ i. everywhere (cell 2 sheet 0) (λ k. (held k).hold) rows.hold (λ k l. past-cell 2 0 k l ∙ ap (λ (h : Held). h.hold) (held_none k l)) i d;
      undo = λ i. everywhere (cell 3 sheet 0) (λ k. (held k).rollback) rows.undo (λ k l. past-cell 3 0 k l ∙ ap (λ (h : Held). h.rollback) (held_none k l)) i d;
      run = λ i. run i d;
      rollback = λ i. rollback i d;
      rolling = λ i. everywhere (λ k. eqb (cell 5 sheet 0 k) 1) (λ k. (job_at js k).rolling) rows.rolling (λ k l. ap (λ (n : ℕ). eqb n 1) (past-cell 5 0 k l) ∙ ap (λ (j : Job). j.rolling) (past k l)) i d;
      worth = λ b i t. worth b i t d;
    }
      where
        held : ℕ → Held
        held i = held_at (job_at js (waits_for js i)) (asked js i)

        held_none : (i : ℕ) → 32 ≤ i → free ≡ held i
        held_none i l = sym (held-past s (waits_for js i) (asked js i) (asked-past i l))

        run : (i : ℕ) → cell 0 sheet 0 i ≡ (job_at js i).run
        run = everywhere (cell 0 sheet 0) (λ i. (job_at js i).run) rows.run (λ i l. past-cell 0 0 i l ∙ ap (λ (j : Job). j.run) (past i l))

        rollback : (i : ℕ) → cell 1 sheet 0 i ≡ (job_at js i).rollback
        rollback = everywhere (cell 1 sheet 0) (λ i. (job_at js i).rollback) rows.rollback (λ i l. past-cell 1 0 i l ∙ ap (λ (j : Job). j.rollback) (past i l))

        worth : (b : Bool) (i t : ℕ) → paid bytes sheet b i t ≡ pay b i t
        worth true i t = sym (pays.back i t)
        worth false i t = everywhere (λ k. worth_seen bytes sheet k t) (λ k. pay false k t)
            (λ k l. rw (lt-ltb k 32 l, rows.end k l, rows.pieces k l) (pays.curves k t l))
            (λ k l. rw (le-ltb k 32 l) (sym (pays.none k t l)))
            i
