-- R-6, THE THEOREM: at every round of every accepted book the state keeps of each job what a fresh look gives.
use Rattle.std.specs.Prelude.{◌≡◌, List, length}
use Rattle.std.proofs.Common.{sym, arith}
use Rattle.std.proofs.Math.Path.{subst}
use Prim.Native.Nat.{ℕ, zero, suc, ◌<◌, ◌≤◌}
use Rattle.std.proofs.Math.Decide.{dec_lt}
use Rattle.job.specs.Job.{hold_of, rollback_of}
use Rattle.book.specs.Format.{book_of}
use Rattle.gus.specs.State.{job_at}
use Rattle.gus.specs.Choice.{Way}
use Rattle.gus.specs.Victims.{knot_of}
use Rattle.invariants.specs.Fair.{Fair}
use Rattle.invariants.specs.Replay.{runs-replay}
use Rattle.opening.proofs.Opened.{accepted-opened}
use Rattle.opening.specs.Planned.{view_from}
use Rattle.planner.specs.declared.State.{State}
use Rattle.planner.specs.Sheet.{hold_in, undo_in, waits_in}
use Rattle.planner.specs.Rows.{asked}
use Rattle.planner.specs.Shown.{pay_in}
use Rattle.planner.specs.Kept.{Kept, looked_up, kept-waits, kept-hold, kept-undo, kept-all}
use Rattle.planner.specs.Preparing.{first_state, kept-first}
use Rattle.planner.specs.Stage.{Stage, opening, joined_by, round_at, stage_after, next-joined, next-same}
use Rattle.planner.specs.Fitting.{Fitting, fitting-begin, fitting-next, round-runs}
use Rattle.planner.specs.Answering.{first-sane}

-- the stage of a book after n rounds, and its state
abbrev pub stage_in : Way → List ℕ → ℕ → Stage
stage_in way s n = stage_after n way (pay_in s) (opening (first_state s) (book_of s).now)

abbrev pub state_in : Way → List ℕ → ℕ → State
state_in way s n = (stage_in way s n).state

-- by any fair way of choosing a mode, in a book that is accepted and has no knot
module _ {way : Way} (fair : Fair way) (s : List ℕ) (accepted : (book_of s).number ≡ 0) (free : 32 ≤ knot_of (view_from (book_of s)) (book_of s).now) where
  next : (g : Stage) → Fitting (pay_in s) g → Kept s g.state → 0 < length (round_at way (pay_in s) g).parts → Fitting (pay_in s) (joined_by (round_at way (pay_in s) g) g) × Kept s (joined_by (round_at way (pay_in s) g) g).state
  unfolding joined_by
  next g fits kept some = (fitting-next fair fits some, kept-all (runs-replay (round-runs fair fits some)) fits.jobs.ready.sound kept)

  both : (n : ℕ) → Fitting (pay_in s) (stage_in way s n) × Kept s (state_in way s n)
  unfolding stage_after opening
  both zero = (fitting-begin (first-sane s accepted free) (accepted-opened s accepted).now, kept-first s accepted)
  both (suc n) = let g = stage_in way s n in elim (dec_lt 0 (length (round_at way (pay_in s) g).parts)) [
    | yes l ↦ subst (λ (x : Stage). Fitting (pay_in s) x × Kept s x.state) (sym (next-joined way (pay_in s) g l)) (next g (both n).0 (both n).1 l)
    | no l ↦ subst (λ (x : Stage). Fitting (pay_in s) x × Kept s x.state) (sym (next-same way (pay_in s) g (omega arith))) (both n)
  ]

  pub kept-at-round : (n : ℕ) → Kept s (state_in way s n)
  kept-at-round n = (both n).1

  -- in numbers: whom each job waits for, and how long that one needs what the job requests
  module _ (n i : ℕ) (l : i < 32) where
    pub waits-at-round : waits_in (state_in way s n).sheet i ≡ looked_up (state_in way s n) i
    waits-at-round = kept-waits (both n).0.jobs.ready.sound (kept-at-round n) i l

    pub hold-at-round : hold_in (state_in way s n).sheet i ≡ hold_of (job_at (state_in way s n).jobs (looked_up (state_in way s n) i)) (asked (state_in way s n).jobs i)
    hold-at-round = kept-hold (both n).0.jobs.ready.sound (kept-at-round n) i l

    pub undo-at-round : undo_in (state_in way s n).sheet i ≡ rollback_of (job_at (state_in way s n).jobs (looked_up (state_in way s n) i)) (asked (state_in way s n).jobs i)
    undo-at-round = kept-undo (both n).0.jobs.ready.sound (kept-at-round n) i l
