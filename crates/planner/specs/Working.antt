-- A group's parts made one after the other: the state, the sheet and the plan after each of them.
use Rattle.std.specs.Prelude.{◌≡◌, List, ◌∷◌, ℕ, ◌+◌, ◌-◌, ◌<◌, ◌≤◌, length, get_or, set, drop}
use Rattle.std.proofs.Common.{sym, ap, ◌∙◌, add-one, arith, drop-cons}
use Rattle.job.specs.declared.Job.{Job}
use Rattle.job.specs.Part.{worked-request}
use Rattle.book.specs.Format.{book_of}
use Rattle.gus.specs.declared.Part.{Part}
use Rattle.gus.specs.State.{job_at, worked_by, after}
use Rattle.gus.specs.Choice.{by_density}
use Rattle.gus.specs.Round.{Plan}
use Rattle.invariants.specs.Sound.{Sound}
use Rattle.invariants.specs.Proper.{Proper, sound-after}
use Rattle.invariants.specs.Replay.{Replay, then}
use Rattle.planner.specs.declared.State.{State}
use Rattle.planner.specs.Rows.{Idle}
use Rattle.planner.specs.Idling.{idle-after}
use Rattle.planner.specs.Shown.{pay_in}
use Rattle.planner.specs.Askers.{Askers, Reworking, counted, first-askers}
use Rattle.planner.specs.Kept.{Kept, kept-after}
use Rattle.planner.specs.Applied.{after_part, after_parts, no_part}
use Rattle.planner.specs.Applying.{Applying, apply-begin, apply-next, apply-ended}
use Rattle.planner.specs.Appended.{appended}
use Rattle.planner.specs.Appending.{Appending, append-begin, append-next, append-ended}
use Rattle.planner.specs.Stage.{Stage, joined_by, round_at, next_stage, stage_after, next-joined}
use Rattle.planner.specs.Fitting.{Sane}
use Rattle.planner.specs.Staged.{Staged}

-- what the rounds start from
pub record Starting (bytes : List ℕ) (s : State) (n t : ℕ) : Type 0 where
  pub accepted : (book_of bytes).number ≡ 0
  pub sane : Sane (pay_in bytes) s
  pub idle : Idle n s.jobs
  pub few : n ≤ 32
  pub kept : Kept bytes s
  pub now : t ≤ 2147483647

-- The inner loop's whole invariant: k of the parts ps are made. s₀ and plan₀ are the state and the plan before the first of them.
pub record Working (bytes : List ℕ) (n : ℕ) (ps : List Part) (s₀ : State) (plan₀ : List Part) (count : ℕ) (s : State) (askers : List ℕ) (asking : ℕ) (plan : List Part) (k : ℕ) : Type 0 where
  pub applying : Applying ps s₀ s k
  pub appending : Appending plan₀ count ps plan k
  pub sound : Sound s.jobs
  pub replay : Replay s.jobs (drop k ps)
  pub idle : Idle n s.jobs
  pub kept : Kept bytes s
  pub asked : Askers s.sheet asking askers

-- the first of a replay's parts, and those after it
first-proper : {js : List Job} {p : Part} {ps qs : List Part} → Replay js qs → qs ≡ p ∷ ps → Proper js p
first-proper r e = by (rw e at r)
  where
    by : {js : List Job} {p : Part} {ps : List Part} → Replay js (p ∷ ps) → Proper js p
    by (then g r) = g

rest-replay : {js : List Job} {p : Part} {ps qs : List Part} → Replay js qs → qs ≡ p ∷ ps → Replay (after js p) ps
rest-replay r e = by (rw e at r)
  where
    by : {js : List Job} {p : Part} {ps : List Part} → Replay js (p ∷ ps) → Replay (after js p) ps
    by (then g r) = r

module _ {bytes : List ℕ} {n : ℕ} {ps : List Part} {s₀ : State} {plan₀ : List Part} {count : ℕ} where
  pub working-begin : {askers : List ℕ} {asking : ℕ} → Sound s₀.jobs → Replay s₀.jobs ps → Idle n s₀.jobs → Kept bytes s₀ → Askers s₀.sheet asking askers → Working bytes n ps s₀ plan₀ count s₀ askers asking plan₀ 0
  working-begin y r i w a = record { applying = apply-begin y.size; appending = append-begin; sound = y; replay = r; idle = i; kept = w; asked = a }

  module _ {s : State} {askers : List ℕ} {asking : ℕ} {plan : List Part} {k : ℕ} (w : Working bytes n ps s₀ plan₀ count s askers asking plan k) where
    pub working-proper : k < length ps → Proper s.jobs (get_or ps k no_part)
    working-proper h = first-proper w.replay (drop-cons ps k no_part h)

    -- what keeping the sheet after this part relies on
    pub working-rework : (p : Part) {j : Job} → p.job < 32 → j ≡ worked_by s.jobs p → Reworking p.job j s.sheet asking askers
    working-rework p below e = record {
      below = below;
      size = w.kept.rows.size;
      none = rw e (worked-request p.rolling p.time (job_at s.jobs p.job));
      askers_are = w.asked;
    }

    pub working-next : {s' : State} {askers' : List ℕ} {asking' : ℕ} {p : Part} → k < length ps → p ≡ get_or ps k no_part → s' ≡ after_part s p → Askers s'.sheet asking' askers' → Working bytes n ps s₀ plan₀ count s' askers' asking' (set plan (count + k) p) (k + 1)
    working-next {s'} {p = p} h e q asked =
        let same : s' ≡ after_part s (get_or ps k no_part) = q ∙ ap (after_part s) e in
        let jobs : s'.jobs ≡ after s.jobs (get_or ps k no_part) = ap (λ (x : State). x.jobs) same in
        record {
          applying = apply-next w.applying h same;
          appending = append-next w.appending h e;
          sound = rw jobs (sound-after w.sound (working-proper h));
          replay = rw (jobs, add-one k) (rest-replay w.replay (drop-cons ps k no_part h));
          idle = rw jobs (idle-after w.idle (get_or ps k no_part));
          kept = rw same (kept-after s w.sound (working-proper h) w.kept);
          asked = asked;
        }

    pub working-ended : length ps ≤ k → (s ≡ after_parts s₀ ps) × (plan ≡ appended plan₀ count ps)
    working-ended h = (apply-ended w.applying h, append-ended w.appending h)

-- THE OUTER LOOP'S whole invariant, with i rounds made: the plan so far with the rounds left is the whole plan; and the stage, of which the
-- theorems of KeptRounds speak, is the one reached from the first by i rounds.
pub record Going (bytes : List ℕ) (n : ℕ) (whole : Plan) (first s : Stage) (askers : List ℕ) (asking i : ℕ) : Type 0 where
  pub within : i ≤ 32
  pub staged : Staged (32 - i) by_density (pay_in bytes) whole s
  pub reached : s ≡ stage_after i by_density (pay_in bytes) first
  pub idle : Idle n s.state.jobs
  pub kept : Kept bytes s.state
  pub asked : Askers s.state.sheet asking askers

-- at first every job is listed
pub starting-askers : {bytes : List ℕ} {s : State} {n t : ℕ} → Starting bytes s n t → Askers s.sheet n (counted 0 32)
starting-askers y = first-askers y.few (λ i l h. omega (arith, y.kept.rows.asks i h, y.idle.request i l))

-- one round more is reached
pub reached-next : (bytes : List ℕ) (first : Stage) (i : ℕ) {s r : Stage} → s ≡ stage_after i by_density (pay_in bytes) first → 0 < length (round_at by_density (pay_in bytes) s).parts → r ≡ joined_by (round_at by_density (pay_in bytes) s) s → r ≡ stage_after (i + 1) by_density (pay_in bytes) first
unfolding stage_after
reached-next bytes first i {s} e some q = q ∙ sym (next-joined by_density (pay_in bytes) s some) ∙ ap (next_stage by_density (pay_in bytes)) e ∙ rw add-one
