-- DEMAND 3 of the rounds, for any fair way of choosing a mode.
use Prim.Native.Nat.{ℕ, ◌+◌, ◌≤◌}
use Rattle.std.specs.Prelude.{◌≡◌, List, length}
use Rattle.std.proofs.Math.Bool.{true, false}
use Rattle.laws.specs.Signed.{dn}
use Rattle.job.specs.declared.Job.{Job}
use Rattle.gus.specs.State.{after_all}
use Rattle.gus.specs.View.{Pay, view_of}
use Rattle.gus.specs.Choice.{Way}
use Rattle.gus.specs.Group.{Group, group_of}
use Rattle.gus.specs.Round.{Plan, worthwhile, rounds}
use Rattle.invariants.specs.Fair.{Fair}
use Rattle.invariants.specs.Replay.{Replay, lasts, paid, all_inside}
use Rattle.invariants.specs.Left.{count_left}
use Rattle.invariants.specs.Burden.{burden}
use Rattle.invariants.specs.Picked.{course_at, Candidate}

-- of a plan from the jobs js at the moment t
pub record Replayed (way : Way) (pay : Pay) (js : List Job) (t : ℕ) (plan : Plan) : Type 0 where
  -- every part is proper where it starts
  pub replay : Replay js plan.parts
  -- "What the machine pays at normal finishes sums to the stated total"
  pub total : plan.total ≡ paid pay js t plan.parts
  -- "every finish in a plan that earns from a curve is inside it"
  pub inside : all_inside pay js t plan.parts ≡ true
  pub never_less : dn plan.total ≡ 0
  pub end : plan.end ≡ t + lasts plan.parts
  -- "at most as many rounds as jobs"
  pub few : plan.rounds ≤ count_left js
  -- each part lowers the burden, which is at most 96
  pub short : length plan.parts + burden (after_all js plan.parts) ≤ burden js
  -- "no job left has a candidate group worth more than zero"
  pub rest : (i : ℕ) → Candidate way pay (after_all js plan.parts) plan.end i → worthwhile (course_at way pay (after_all js plan.parts) plan.end i) ≡ false

module _ (pay : Pay) {way : Way} (f : Fair way) where
  abbrev pub group_at : List Job → ℕ → ℕ → Group
  group_at js t i = group_of way (view_of pay js) t i

  abbrev pub rest_at : ℕ → List Job → ℕ → ℕ → Plan
  rest_at n js t i = rounds n way pay (after_all js (group_at js t i).parts) (t + (group_at js t i).course.time)
