-- The loop that takes a state along a row of parts.
use Rattle.std.specs.Prelude.{◌≡◌, refl, List, ℕ, ◌+◌, ◌<◌, ◌≤◌, length, get_or, set, drop}
use Rattle.std.proofs.Common.{sym, ◌∙◌, add-one, drop_of_length-le, length-set, drop-cons, arith}
use Rattle.std.proofs.Math.Path.{ap}
use Rattle.laws.specs.Inside.{inside}
use Rattle.job.specs.declared.Job.{Job}
use Rattle.job.specs.Job.{no_job, worked}
use Rattle.gus.specs.declared.Part.{Part}
use Rattle.gus.specs.State.{vacant}
use Rattle.gus.specs.State.{worked_by, after_all}
use Rattle.planner.specs.declared.State.{State}
use Rattle.planner.specs.Putting.{reworked}
use Rattle.planner.specs.Applied.{holders_after, in_turn, after_part, after_parts, no_part}

-- The loop's whole invariant, after i parts: those left lead from s to where all lead from s₀.
pub record Applying (ps : List Part) (s₀ s : State) (i : ℕ) : Type 0 where
  pub size : length s.jobs ≡ 32
  pub rest : after_parts s (drop i ps) ≡ after_parts s₀ ps

module _ {ps : List Part} {s₀ : State} where
  pub apply-begin : length s₀.jobs ≡ 32 → Applying ps s₀ s₀ 0
  apply-begin h = record { size = h; rest = refl }

  pub apply-next : {s s' : State} {i : ℕ} → Applying ps s₀ s i → i < length ps → s' ≡ after_part s (get_or ps i no_part) → Applying ps s₀ s' (i + 1)
  unfolding after_all in_turn
  apply-next {s} {s'} {i} inv h e = record { size = rw e (length-set s.jobs (get_or ps i no_part).job _ ∙ inv.size); rest = rw (add-one, e) (ap (after_parts s) (sym (drop-cons ps i no_part h)) ∙ inv.rest) }

  pub apply-ended : {s : State} {i : ℕ} → Applying ps s₀ s i → length ps ≤ i → s ≡ after_parts s₀ ps
  unfolding after_all in_turn
  apply-ended {s} {i} inv h = ap (after_parts s) (sym (drop_of_length-le ps h)) ∙ inv.rest

pub made : (s : State) (p : Part) {number : ℕ} {j : Job} {holders sheet : List ℕ}
    → p.job < 32
    → length s.jobs ≡ 32
    → number ≡ p.job
    → j ≡ worked p.rolling p.time (get_or s.jobs number no_job)
    → holders ≡ holders_after p.job j.held s.holders
    → sheet ≡ reworked p.job j s.sheet
    → ◌≡◌ {A = State} (record { jobs = set s.jobs number j; holders = holders; sheet = sheet }) (after_part s p)
made s p lt size n w h q = rw (q, h, w, n, inside s.jobs p.job no_job vacant (omega arith))

-- the job as the code finds and works it is the definition's
pub worked-by : (js : List Job) (p : Part) {number : ℕ} {j : Job}
    → p.job < 32
    → length js ≡ 32
    → number ≡ p.job
    → j ≡ worked p.rolling p.time (get_or js number no_job)
    → j ≡ worked_by js p
worked-by js p lt size n w = rw (w, n, inside js p.job no_job vacant (omega arith))
