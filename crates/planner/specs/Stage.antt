-- One round of the code's loop, as a step from stage to stage (VI.1, for any way of choosing a mode).
use Rattle.std.specs.Prelude.{List, [], ◌≡◌, true, false, ℕ, zero, suc, ◌+◌, ◌<◌, ◌≤◌, ltb, ℤ, pos, ◌+ℤ◌, length}
use Rattle.std.proofs.Common.{lt-ltb, le-ltb}
use Rattle.laws.specs.Fill.{padded}
use Rattle.gus.specs.declared.Part.{Part}
use Rattle.gus.specs.View.{Pay, view_of}
use Rattle.gus.specs.Choice.{Way}
use Rattle.gus.specs.Group.{Group}
use Rattle.planner.specs.declared.State.{State}
use Rattle.planner.specs.LaidOut.{empty_part}
use Rattle.planner.specs.Round.{round_of}
use Rattle.planner.specs.Applied.{after_parts}
use Rattle.planner.specs.Appended.{appended}

-- the jobs after some rounds, the plan so far (the first count of its parts), and the planned moment: the loop's locals together
pub record Stage : Type 0 where
  pub state : State
  pub parts : List Part
  pub count : ℕ
  pub rounds : ℕ
  pub total : ℤ
  pub moment : ℕ

unfoldable pub opening : State → ℕ → Stage
opening s now = record { state = s; parts = padded 96 empty_part []; count = 0; rounds = 0; total = pos 0; moment = now }

-- a group is appended, a round is counted, and "an appended group's time moves it on"
unfoldable pub joined_by : Group → Stage → Stage
joined_by g s = record {
  state = after_parts s.state g.parts;
  parts = appended s.parts s.count g.parts;
  count = s.count + length g.parts;
  rounds = s.rounds + 1;
  total = s.total +ℤ g.course.gain;
  moment = s.moment + g.course.time;
}

-- what the next round appends
abbrev pub round_at : Way → Pay → Stage → Group
round_at way pay s = round_of way (view_of pay s.state.jobs) s.moment

-- the stage after n rounds; a round without a group is the last, and nothing is changed after it
unfoldable pub next_stage : Way → Pay → Stage → Stage
next_stage way pay s = elim (ltb 0 (length (round_at way pay s).parts)) [ true ↦ joined_by (round_at way pay s) s | false ↦ s ]

unfoldable pub stage_after : ℕ → Way → Pay → Stage → Stage
stage_after zero way pay s = s
stage_after (suc n) way pay s = next_stage way pay (stage_after n way pay s)

module _ (way : Way) (pay : Pay) (s : Stage) where
  pub next-joined : 0 < length (round_at way pay s).parts → next_stage way pay s ≡ joined_by (round_at way pay s) s
  unfolding next_stage
  next-joined l = rw (lt-ltb 0 (length (round_at way pay s).parts) l, next_stage)

  pub next-same : length (round_at way pay s).parts ≤ 0 → next_stage way pay s ≡ s
  unfolding next_stage
  next-same l = rw (le-ltb 0 (length (round_at way pay s).parts) l, next_stage)
