-- THE SHEET AFTER A PART: the job's own row written anew, and the rows of those who ask for something linked anew, are the rows of the jobs
-- after the part.
use Rattle.std.specs.Prelude.{◌≡◌, ◌≢◌, List, ℕ, suc, ◌+◌, ◌*◌, ◌<◌, ◌≤◌}
use Rattle.std.proofs.Common.{sym, ap, ◌∙◌, arith, lt-ltb, le-ltb, eq-eqb, ne_eqb}
use Rattle.std.proofs.Math.Decide.{ℕ_discrete, dec_lt}
use Rattle.laws.specs.Count.{upto, upto-each}
use Rattle.laws.specs.Inside.{inside}
use Rattle.job.specs.declared.Held.{Held}
use Rattle.job.specs.declared.Job.{Job}
use Rattle.job.specs.Held.{free}
use Rattle.job.specs.Job.{held_at, hold_of, rollback_of}
use Rattle.gus.specs.declared.Part.{Part}
use Rattle.gus.specs.State.{job_at, worked_by, after}
use Rattle.gus.specs.Waits.{nobody, waits_for}
use Rattle.invariants.specs.Sound.{Sound}
use Rattle.invariants.specs.Proper.{Proper, at_same, at_other, at-request, sound-after}
use Rattle.invariants.specs.Waiting.{waits-none}
use Rattle.invariants.proofs.Waiting.{waits-step}
use Rattle.planner.specs.Sheet.{cell}
use Rattle.planner.specs.Places.{Place}
use Rattle.planner.specs.Rows.{asked, Rows}
use Rattle.planner.specs.Unheld.{held-past, held-nobody}
use Rattle.planner.specs.Putting.{linked, owned, relinked_at, reworked, row-taken, row-given-up, row-unmoved, turn-asking, turn-none}
use Rattle.planner.specs.Row.{Row, RowOf, row_same, owned-row, relinked-row, linked-own, owned-own, row_of, rows_of}

-- what is true of row i before turn i, and what its turn makes true, no other turn changes
turned : (f : ℕ → List ℕ → List ℕ) (before then : List ℕ → Type 0) (i n : ℕ) (sheet : List ℕ)
    → ((m : ℕ) (s : List ℕ) → i ≢ m → before s → before (f m s))
    → ((m : ℕ) (s : List ℕ) → i ≢ m → then s → then (f m s))
    → ((s : List ℕ) → before s → then (f i s))
    → before sheet
    → i < n
    → then (upto f n sheet)
turned f before then i n sheet keep keep' turn first = (upto-each (λ m s. (i < m → then s) × (m ≤ i → before s)) f n sheet (λ l. absurd (omega arith), λ l. first) next n (omega arith)).0
  where
    next : (m : ℕ) → m < n → (i < m → then (upto f m sheet)) × (m ≤ i → before (upto f m sheet)) → (i < suc m → then (f m (upto f m sheet))) × (suc m ≤ i → before (f m (upto f m sheet)))
    next m l x = elim (ℕ_discrete i m) [
      | yes e ↦ (λ h. rw (← e) (turn (upto f i sheet) (rw (← e) at x.1 (omega arith))), λ h. absurd (omega arith))
      | no ne ↦ (λ h. keep' m (upto f m sheet) ne (x.0 (omega arith)), λ h. keep m (upto f m sheet) ne (x.1 (omega arith)))
    ]

module _ {js : List Job} {p : Part} (s : Sound js) (g : Proper js p) where
  job-below : p.job < 32
  job-below = g.alive.there

  module _ (places : ℕ → Place) (i : ℕ) (l : i < 32) (ne : i ≢ p.job) where
    -- row i linked to w, where w holds what i asks for, and has it so
    row-after : {sheet : List ℕ} (w : ℕ) (x : Held) → waits_for (after js p) i ≡ w → held_at (job_at (after js p) w) (asked js i) ≡ x → Row (job_at js i) w x.hold x.rollback (places i) i sheet → RowOf (after js p) places i sheet
    row-after w x waits has r = row_same r (sym same) (sym waits) (ap (λ (h : Held). h.hold) (sym held)) (ap (λ (h : Held). h.rollback) (sym held))
      where
        same : job_at (after js p) i ≡ job_at js i
        same = at_other js p i ne

        held : held_at (job_at (after js p) (waits_for (after js p) i)) (asked (after js p) i) ≡ x
        held =
            ap (λ (k : ℕ). held_at (job_at (after js p) k) (asked (after js p) i)) waits
            ∙ ap (λ (j : Job). held_at (job_at (after js p) w) j.request.resource) same
            ∙ has

    -- the job has it now
    taken : {sheet : List ℕ} → 0 < hold_of (worked_by js p) (asked js i) → RowOf js places i sheet → RowOf (after js p) places i (linked i p.job (hold_of (worked_by js p) (asked js i)) (rollback_of (worked_by js p) (asked js i)) sheet)
    taken h r =
        row-after p.job (held_at (worked_by js p) (asked js i))
        (rw (ne_eqb i p.job ne, lt-ltb 0 (hold_of (worked_by js p) (asked js i)) h) at (waits-step s g i))
        (ap (λ (j : Job). held_at j (asked js i)) (at_same s g))
        (linked-own p.job _ _ l r)

    -- the job had it and gave it up
    given-up : {sheet : List ℕ} → hold_of (worked_by js p) (asked js i) ≤ 0 → waits_for js i ≡ p.job → RowOf js places i sheet → RowOf (after js p) places i (linked i nobody 0 0 sheet)
    given-up h e r =
        row-after nobody free
        (rw (ne_eqb i p.job ne, le-ltb 0 (hold_of (worked_by js p) (asked js i)) h, eq-eqb (waits_for js i) p.job e) at (waits-step s g i))
        (held-nobody (after js p) (sound-after s g).size (asked js i))
        (linked-own nobody 0 0 l r)

    -- the job has nothing to do with it
    unmoved : {sheet : List ℕ} → hold_of (worked_by js p) (asked js i) ≤ 0 → waits_for js i ≢ p.job → RowOf js places i sheet → RowOf (after js p) places i sheet
    unmoved h d r =
        row-after (waits_for js i) (held_at (job_at js (waits_for js i)) (asked js i))
        (rw (ne_eqb i p.job ne, le-ltb 0 (hold_of (worked_by js p) (asked js i)) h, ne_eqb (waits_for js i) p.job d) at (waits-step s g i))
        (ap (λ (j : Job). held_at j (asked js i)) (at_other js p (waits_for js i) d))
        r

    -- nobody holds what is no resource
    askless : {sheet : List ℕ} → 32 ≤ asked js i → RowOf js places i sheet → RowOf (after js p) places i sheet
    askless h r =
        unmoved
        (omega (arith, ap (λ (j : Job). hold_of j (asked js i)) (at_same s g), ap (λ (x : Held). x.hold) (held-past (sound-after s g) p.job (asked js i) h)))
        (λ e. absurd (omega (arith, waits-none s i h, job-below)))
        r

    -- so its turn brings it up to date
    relinks : (sheet : List ℕ) → RowOf js places i sheet → RowOf (after js p) places i (relinked_at p.job (worked_by js p).held i sheet)
    relinks sheet r = elim (dec_lt (asked js i) 32) [
      | yes h ↦ rw (turn-asking p.job w.held i sheet (sym r.asks) h) (elim (dec_lt 0 x.hold) [
        | yes k ↦ rw (row-taken p.job x i sheet k) (taken k r)
        | no k ↦ elim (ℕ_discrete (waits_for js i) p.job) [
          | yes d ↦ rw (row-given-up p.job x i sheet (omega arith) (now ∙ d)) (given-up (omega arith) d r)
          | no d ↦ rw (row-unmoved p.job x i sheet (omega arith) (λ q. d (sym now ∙ q))) (unmoved (omega arith) d r)
        ]
      ])
      | no h ↦ rw (turn-none p.job w.held i sheet (sym r.asks) (omega arith)) (askless (omega arith) r)
    ]
      where
        w : Job
        w = worked_by js p

        x : Held
        x = held_at w (asked js i)

        now : cell 4 sheet 0 i ≡ waits_for js i
        now = inside sheet (9 * i + 4) 0 nobody (omega (arith, r.size)) ∙ r.waits_is

  -- the job's own row: it waits for nobody
  owns : (places : ℕ → Place) (sheet : List ℕ) → RowOf js places p.job sheet → RowOf (after js p) places p.job (owned p.job (worked_by js p).run (worked_by js p).rollback (worked_by js p).rolling (worked_by js p).request.resource sheet)
  owns places sheet r =
      let held = held-past (sound-after s g) (waits_for (after js p) p.job) (asked (after js p) p.job) (at-request s g) in
      row_same
      (owned-own sheet (worked_by js p) r.size job-below r.end r.pieces)
      (sym (at_same s g))
      (sym (waits-none (sound-after s g) p.job (at-request s g)))
      (ap (λ (h : Held). h.hold) (sym held))
      (ap (λ (h : Held). h.rollback) (sym held))

  -- and it asks for nothing, so its turn leaves it
  own_turn : (places : ℕ → Place) (sheet : List ℕ) → RowOf (after js p) places p.job sheet → RowOf (after js p) places p.job (relinked_at p.job (worked_by js p).held p.job sheet)
  own_turn places sheet r = rw (turn-none p.job (worked_by js p).held p.job sheet (sym r.asks) (at-request s g)) r

  pub rows-worked : {places : ℕ → Place} {sheet : List ℕ} → Rows js places sheet → Rows (after js p) places (reworked p.job (worked_by js p) sheet)
  unfolding reworked
  rows-worked {places} {sheet} rows = rows_of (λ i l. elim (ℕ_discrete i p.job) [ yes e ↦ rw e own | no ne ↦ other i l ne ])
    where
      w : Job
      w = worked_by js p

      f : ℕ → List ℕ → List ℕ
      f = relinked_at p.job w.held

      sheet' : List ℕ
      sheet' = owned p.job w.run w.rollback w.rolling w.request.resource sheet

      own : RowOf (after js p) places p.job (upto f 32 sheet')
      own =
          turned f (RowOf (after js p) places p.job) (RowOf (after js p) places p.job) p.job 32 sheet'
          (λ m t ne r. relinked-row p.job w.held m ne r)
          (λ m t ne r. relinked-row p.job w.held m ne r)
          (own_turn places)
          (owns places sheet (row_of rows p.job job-below))
          job-below

      other : (i : ℕ) → i < 32 → i ≢ p.job → RowOf (after js p) places i (upto f 32 sheet')
      other i l ne =
          turned f (RowOf js places i) (RowOf (after js p) places i) i 32 sheet'
          (λ m t d r. relinked-row p.job w.held m d r)
          (λ m t d r. relinked-row p.job w.held m d r)
          (relinks places i l ne)
          (owned-row p.job w.run w.rollback w.rolling w.request.resource ne (row_of rows i l))
          l
