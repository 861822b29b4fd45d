-- THE ROUNDS AS A LOOP: the plan so far, joined with the rounds left from here, is the whole plan.
use Rattle.std.specs.Prelude.{◌≡◌, refl, ℕ, suc, ◌+◌, ◌<◌, ◌≤◌, ◌+ℤ◌, length}
use Rattle.std.proofs.Common.{sym, ◌∙◌, arith}
use Rattle.std.proofs.Math.IntN.{+ℤ_idl, +ℤ_idr, +ℤ_assoc}
use Rattle.laws.specs.Fill.{Pushing, padded, push-begin, push-ended, push-length}
use Rattle.gus.specs.View.{Pay, View, view_of}
use Rattle.gus.specs.Choice.{Way}
use Rattle.gus.specs.Round.{Plan, stop, joined, rounds}
use Rattle.invariants.specs.Fair.{Fair}
use Rattle.invariants.proofs.Burden.{runs-burden}
use Rattle.planner.specs.declared.State.{State}
use Rattle.planner.specs.declared.PlanParts.{PlanParts}
use Rattle.planner.specs.LaidOut.{empty_part}
use Rattle.planner.specs.Appending.{appended-pushing}
use Rattle.planner.specs.Round.{round-won, some-won, none_over}
use Rattle.planner.specs.Stage.{Stage, opening, joined_by, round_at}
use Rattle.planner.specs.Fitting.{Sane, Fitting, fitting-begin, fitting-next, round-runs}

-- a plan laid out
pub record Rounded (plan : Plan) (s : PlanParts) : Type 0 where
  pub parts : s.parts ≡ padded 96 empty_part plan.parts
  pub count : s.count ≡ length plan.parts
  pub rounds : s.rounds ≡ plan.rounds
  pub total : s.total ≡ plan.total
  pub end : s.moment ≡ plan.end

-- a stage and the plan from there on make the whole
record Making (whole : Plan) (s : Stage) (rest : Plan) : Type 0 where
  parts : Pushing 96 empty_part whole.parts rest.parts s.parts s.count
  rounds : s.rounds + rest.rounds ≡ whole.rounds
  total : s.total +ℤ rest.total ≡ whole.total
  end : rest.end ≡ whole.end

abbrev pub plan_of : Stage → PlanParts
plan_of s = record { parts = s.parts; count = s.count; rounds = s.rounds; total = s.total; moment = s.moment }

made : {whole : Plan} {s : Stage} → Making whole s (stop s.moment) → Rounded whole (plan_of s)
made {s = s} m = record {
  parts = push-ended m.parts;
  count = push-length m.parts;
  rounds = omega (arith, m.rounds);
  total = sym (+ℤ_idr s.total) ∙ m.total;
  end = m.end;
}

abbrev rest_of : ℕ → Way → Pay → Stage → Plan
rest_of n way pay s = rounds n way pay s.state.jobs s.moment

-- The loop's whole invariant, with n rounds left.
pub record Staged (n : ℕ) (way : Way) (pay : Pay) (whole : Plan) (s : Stage) : Type 0 where
  pub fits : Fitting pay s
  making : Making whole s (rest_of n way pay s)

pub staged-begin : {n : ℕ} {way : Way} {pay : Pay} {s : State} {now : ℕ} → Sane pay s → now ≤ 2147483647 → Staged n way pay (rounds n way pay s.jobs now) (opening s now)
unfolding opening padded
staged-begin y h = record {
  fits = fitting-begin y h;
  making = record { parts = push-begin; rounds = omega arith; total = +ℤ_idl _; end = refl };
}

module _ {way : Way} {pay : Pay} {whole : Plan} where
  pub staged-ended : {s : Stage} → Staged 0 way pay whole s → Rounded whole (plan_of s)
  unfolding rounds
  staged-ended y = made y.making

  module _ {n : ℕ} {s : Stage} (y : Staged (suc n) way pay whole s) where
    abbrev v : View
    v = view_of pay s.state.jobs

    rest-stop : length (round_at way pay s).parts ≤ 0 → rest_of (suc n) way pay s ≡ stop s.moment
    unfolding rounds
    rest-stop h = rw (none_over way v s.moment h, rounds)

    rest-join : 0 < length (round_at way pay s).parts → rest_of (suc n) way pay s ≡ joined (round_at way pay s) (rest_of n way pay (joined_by (round_at way pay s) s))
    unfolding rounds joined_by
    rest-join h = let w = some-won way v s.moment h in rw (round-won way v s.moment w, w, rounds)

    -- the end
    pub staged-stopped : length (round_at way pay s).parts ≤ 0 → Rounded whole (plan_of s)
    staged-stopped h = made (rw (rest-stop h) at y.making)

    -- one round on
    pub staged-next : Fair way → 0 < length (round_at way pay s).parts → {r : Stage} → r ≡ joined_by (round_at way pay s) s → Staged n way pay whole r
    unfolding joined_by
    staged-next fair h e =
        let m : Making whole s (joined (round_at way pay s) (rest_of n way pay (joined_by (round_at way pay s) s))) = rw (rest-join h) at y.making in
        rw e (record { fits = fitting-next fair y.fits h; making = onward m })
      where
        onward : {rest : Plan} → Making whole s (joined (round_at way pay s) rest) → Making whole (joined_by (round_at way pay s) s) rest
        onward {rest} m = record {
          parts = appended-pushing (round_at way pay s).parts m.parts (omega (arith, y.fits.room, runs-burden (round-runs fair y.fits h) y.fits.jobs.ready.sound));
          rounds = omega (arith, m.rounds);
          total = +ℤ_assoc s.total (round_at way pay s).course.gain rest.total ∙ m.total;
          end = m.end;
        }
