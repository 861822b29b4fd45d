-- R-6: WHAT THE STATE KEEPS OF EACH JOB IS WHAT A FRESH LOOK GIVES, after every victim and after every part.
use Rattle.std.specs.Prelude.{◌≡◌, List, ℕ, ◌<◌, get_or}
use Rattle.std.proofs.Common.{sym, ap, ◌∙◌, arith}
use Rattle.std.proofs.Math.Decide.{dec_lt}
use Rattle.std.proofs.Math.ListN.{get_or-eq_default}
use Rattle.job.specs.declared.Job.{Job}
use Rattle.job.specs.Job.{hold_of, rollback_of}
use Rattle.gus.specs.declared.Part.{Part}
use Rattle.gus.specs.State.{job_at, after_all}
use Rattle.gus.specs.Waits.{nobody, waits_for}
use Rattle.gus.specs.Victims.{settled}
use Rattle.invariants.specs.Sound.{Sound}
use Rattle.invariants.specs.Proper.{Proper, sound-after}
use Rattle.invariants.specs.Replay.{Replay, over, then}
use Rattle.invariants.specs.Waiting.{waits-none}
use Rattle.invariants.specs.Settled.{holder-settled}
use Rattle.planner.specs.declared.State.{State}
use Rattle.planner.specs.Sheet.{hold_in, undo_in, waits_in}
use Rattle.planner.specs.Rows.{asked}
use Rattle.planner.specs.Shown.{Shown}
use Rattle.planner.specs.Putting.{sent_rows}
use Rattle.planner.specs.WorkedRows.{rows-worked}
use Rattle.planner.specs.SettledRows.{rows_settled}
use Rattle.planner.specs.Applied.{after_part, in_turn, after_parts}
use Rattle.planner.specs.Holding.{Holding, holding-after}

-- THE INVARIANT: the holders are as the jobs have them, and the sheet is the rows of the jobs, with the book's curves
pub record Kept (bytes : List ℕ) (s : State) : Type 0 where
  pub holding : Holding s
  pub rows : Shown bytes s.jobs s.sheet

-- "what a fresh look through requests and holders gives": the holder of what job i requests, or nobody
abbrev pub looked_up : State → ℕ → ℕ
looked_up s i = get_or s.holders (asked s.jobs i) nobody

module _ {bytes : List ℕ} {s : State} (sound : Sound s.jobs) (kept : Kept bytes s) where
  looked-up : (i : ℕ) → looked_up s i ≡ waits_for s.jobs i
  looked-up i = elim (dec_lt (asked s.jobs i) 32) [
    | yes l ↦ kept.holding.agree (asked s.jobs i) l
    | no l ↦ get_or-eq_default s.holders nobody {n = asked s.jobs i} (omega (arith, kept.holding.size)) ∙ sym (waits-none sound i (omega arith))
  ]

  -- the kept number of the job that job i waits for
  pub kept-waits : (i : ℕ) → i < 32 → waits_in s.sheet i ≡ looked_up s i
  kept-waits i l = kept.rows.waits i l ∙ sym (looked-up i)

  -- and how long that one needs what job i requests, running and rolling back
  pub kept-hold : (i : ℕ) → i < 32 → hold_in s.sheet i ≡ hold_of (job_at s.jobs (looked_up s i)) (asked s.jobs i)
  kept-hold i l = kept.rows.hold i l ∙ ap (λ (k : ℕ). hold_of (job_at s.jobs k) (asked s.jobs i)) (sym (looked-up i))

  pub kept-undo : (i : ℕ) → i < 32 → undo_in s.sheet i ≡ rollback_of (job_at s.jobs (looked_up s i)) (asked s.jobs i)
  kept-undo i l = kept.rows.undo i l ∙ ap (λ (k : ℕ). rollback_of (job_at s.jobs k) (asked s.jobs i)) (sym (looked-up i))

-- THE VICTIMS: "It goes into rollback and loses its request."
abbrev pub settled_in : State → List ℕ → State
settled_in s is = record { jobs = settled s.jobs is; holders = s.holders; sheet = sent_rows is s.sheet }

pub kept-settled : {bytes : List ℕ} (s : State) (is : List ℕ) → Sound s.jobs → Kept bytes s → Kept bytes (settled_in s is)
kept-settled s is sound kept = record {
  holding = record { size = kept.holding.size; agree = λ r l. kept.holding.agree r l ∙ sym (holder-settled s.jobs is r) };
  rows = rows_settled sound is kept.rows;
}

-- A PART, whatever it does: grants, releases, removals and rollbacks
pub kept-after : {bytes : List ℕ} (s : State) {p : Part} → Sound s.jobs → Proper s.jobs p → Kept bytes s → Kept bytes (after_part s p)
kept-after s sound proper kept = record { holding = holding-after s sound proper kept.holding; rows = rows-worked sound proper kept.rows }

-- and a row of them
pub kept-all : {bytes : List ℕ} {js : List Job} {holders sheet : List ℕ} {ps : List Part} → Replay js ps → Sound js → Kept bytes (record { jobs = js; holders = holders; sheet = sheet }) → Kept bytes (after_parts (record { jobs = js; holders = holders; sheet = sheet }) ps)
unfolding after_all in_turn
kept-all over sound kept = kept
kept-all {js = js} {holders = holders} {sheet = sheet} (then g r) sound kept = kept-all r (sound-after sound g) (kept-after (record { jobs = js; holders = holders; sheet = sheet }) sound g kept)
