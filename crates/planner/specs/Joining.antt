-- What a round finds by the lent arrays is what the definition finds by the jobs, and its group can be joined to the plan.
use Rattle.std.specs.Prelude.{◌≡◌, List, ℕ, ◌+◌, ◌-◌, ◌<◌, ◌≤◌, ℤ, nat_abs, ◌+ℤ◌, get_or, take, replicate}
use Rattle.std.proofs.Math.Path.{sym, ap}
use Rattle.std.proofs.Common.{◌∙◌, arith}
use Rattle.std.proofs.Math.ListN.{length, get_or-append}
use Rattle.std.proofs.Math.Seq.{take-append_seam}
use Rattle.laws.specs.Fill.{padded}
use Rattle.gus.specs.declared.Part.{Part}
use Rattle.gus.specs.View.{Pay, View, view_of}
use Rattle.gus.specs.Choice.{Way}
use Rattle.gus.specs.Group.{Group}
use Rattle.invariants.specs.Fair.{Fair}
use Rattle.invariants.proofs.Burden.{runs-burden}
use Rattle.planner.specs.declared.State.{State}
use Rattle.planner.specs.declared.GroupParts.{GroupParts}
use Rattle.planner.specs.Bounds.{Planned}
use Rattle.planner.specs.LaidOut.{empty_part, laid_out}
use Rattle.planner.specs.Round.{round-short, small-round}
use Rattle.planner.specs.Applied.{after_parts, no_part, Numbered}
use Rattle.planner.specs.Appended.{appended}
use Rattle.planner.specs.Stage.{Stage, joined_by, round_at}
use Rattle.planner.specs.Fitting.{Fitting, sane-modest, numbered, round-runs}

-- a group that can be joined to a stage: the parts find room, and no number grows too large
pub record Joinable (s : Stage) (g : GroupParts) : Type 0 where
  pub few : g.count ≤ 32
  pub room : s.count + g.count ≤ 96
  pub jobs : Numbered g.count g.parts
  pub total : nat_abs s.total ≤ 1024000000
  pub gain : nat_abs g.course.gain ≤ 32000000
  pub moment : Planned s.moment
  pub time : g.course.time ≤ 2097120

-- the parts of a group laid out are that group's
laid-parts : (g : Group) → take (laid_out g).count (laid_out g).parts ≡ g.parts
unfolding laid_out padded
laid-parts g = take-append_seam g.parts (replicate (32 - length g.parts) empty_part)

laid-numbered : (g : Group) → ((k : ℕ) → k < length g.parts → (get_or g.parts k no_part).job < 32) → Numbered (length g.parts) (laid_out g).parts
unfolding laid_out padded
laid-numbered g h = record { below = λ k l. rw (get_or-append g.parts _ no_part k l) (h k l) }

pub fitting-moment : {pay : Pay} {s : Stage} → Fitting pay s → Planned s.moment
fitting-moment f = omega (arith, f.moment, f.few)

module _ (way : Way) (pay : Pay) (s : Stage) {g : GroupParts} (e : g ≡ laid_out (round_at way pay s)) where
  pub some-parts : 0 < g.count → 0 < length (round_at way pay s).parts
  unfolding laid_out
  some-parts h = rw e at h

  pub no-parts : g.count ≤ 0 → length (round_at way pay s).parts ≤ 0
  unfolding laid_out
  no-parts h = rw e at h

  pub joinable : Fair way → Fitting pay s → 0 < g.count → Joinable s g
  unfolding laid_out
  joinable fair f h =
      let v : View = view_of pay s.state.jobs in
      let runs = round-runs fair f (some-parts h) in
      let c = small-round way v s.moment (sane-modest f.jobs) in
      rw e (record {
        few = round-short way v s.moment;
        room = omega (arith, f.room, runs-burden runs f.jobs.ready.sound);
        jobs = laid-numbered (round_at way pay s) (numbered runs);
        total = omega (arith, f.total, f.few);
        gain = c.gain;
        moment = fitting-moment f;
        time = c.time;
      })

  pub group-parts : take g.count g.parts ≡ (round_at way pay s).parts
  group-parts = ap (λ (x : GroupParts). take x.count x.parts) e ∙ laid-parts (round_at way pay s)

  pub group-length : length (take g.count g.parts) ≡ g.count
  unfolding laid_out
  group-length = ap length group-parts ∙ sym (ap (λ (x : GroupParts). x.count) e)

  -- what the code makes of the group is the stage that the group makes
  pub round-joined : {state : State} {parts : List Part} {total : ℤ}
      → state ≡ after_parts s.state (take g.count g.parts)
      → parts ≡ appended s.parts s.count (take g.count g.parts)
      → total ≡ s.total +ℤ g.course.gain
      → ◌≡◌ {A = Stage} (record { state = state; parts = parts; count = s.count + g.count; rounds = s.rounds + 1; total = total; moment = s.moment + g.course.time }) (joined_by (round_at way pay s) s)
  unfolding joined_by laid_out
  round-joined a p t = λ j. record {
    state = (a ∙ ap (after_parts s.state) group-parts) j;
    parts = (p ∙ ap (appended s.parts s.count) group-parts) j;
    count = s.count + (e j).count;
    rounds = s.rounds + 1;
    total = (t ∙ ap (λ (x : GroupParts). s.total +ℤ x.course.gain) e) j;
    moment = s.moment + (e j).course.time;
  }
