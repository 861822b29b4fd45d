-- A stage from which a round may start, and that it stays so.
use Rattle.std.specs.Prelude.{◌≡◌, Bool, true, List, ℕ, zero, suc, ◌+◌, ◌*◌, ◌<◌, ◌≤◌, nat_abs, length, get_or}
use Rattle.std.proofs.lemmas.Bool.{false≢true}
use Rattle.std.proofs.Common.{not-suc-le-zero, le_of_suc-le-suc, arith}
use Rattle.laws.proofs.Signed.{abs-add}
use Rattle.curve.specs.Worth.{amount}
use Rattle.job.specs.declared.Job.{Job}
use Rattle.gus.specs.declared.Part.{Part}
use Rattle.gus.specs.declared.Course.{Course}
use Rattle.gus.specs.declared.Best.{Best}
use Rattle.gus.specs.View.{Pay, View, view_of}
use Rattle.gus.specs.Course.{denser}
use Rattle.gus.specs.Choice.{Way}
use Rattle.gus.specs.Group.{Group}
use Rattle.gus.specs.Round.{best_of, worthwhile}
use Rattle.invariants.specs.Sound.{Member}
use Rattle.invariants.specs.Waiting.{Ready}
use Rattle.invariants.specs.Fair.{Fair}
use Rattle.invariants.specs.Runs.{Runs, last, next}
use Rattle.invariants.proofs.Runs.{group-runs}
use Rattle.invariants.specs.Replay.{runs-replay}
use Rattle.invariants.proofs.Replay.{replay-ready}
use Rattle.invariants.specs.Left.{count_left, count_most}
use Rattle.invariants.proofs.Left.{runs-count}
use Rattle.invariants.specs.Burden.{burden, burden-most}
use Rattle.invariants.proofs.Burden.{runs-burden}
use Rattle.invariants.specs.Winner.{Won, no_one, some_one}
use Rattle.invariants.specs.Picked.{Candidate, picked}
use Rattle.invariants.specs.End.{Small}
use Rattle.opening.specs.Modest.{Modest, modest}
use Rattle.opening.specs.Small.{small-after-all}
use Rattle.planner.specs.declared.State.{State}
use Rattle.planner.specs.Round.{round-won, some-won, small-round}
use Rattle.planner.specs.Applied.{no_part}
use Rattle.planner.specs.Stage.{Stage, opening, joined_by, round_at}

-- jobs as they stand between two rounds
pub record Sane (pay : Pay) (s : State) : Type 0 where
  pub ready : Ready s.jobs
  pub small : Small s.jobs
  pub worth : (b : Bool) (i t : ℕ) → nat_abs (amount (pay b i t)) ≤ 1000000

-- each round ends a job, adds at most 32 parts that lower the burden, 32 worths and 32 times
pub record Fitting (pay : Pay) (s : Stage) : Type 0 where
  pub jobs : Sane pay s.state
  pub room : s.count + burden s.state.jobs ≤ 96
  pub few : s.rounds + count_left s.state.jobs ≤ 32
  pub total : nat_abs s.total ≤ s.rounds * 32000000
  pub moment : s.moment ≤ 2147483647 + s.rounds * 2097120

pub sane-modest : {pay : Pay} {s : State} → Sane pay s → Modest (view_of pay s.jobs)
sane-modest {pay} y = modest pay y.worth y.ready.sound y.small

pub fitting-begin : {pay : Pay} {s : State} {now : ℕ} → Sane pay s → now ≤ 2147483647 → Fitting pay (opening s now)
unfolding opening
fitting-begin y h = record {
  jobs = y;
  room = omega (arith, burden-most y.ready.sound);
  few = omega (arith, count_most y.ready.sound);
  total = omega arith;
  moment = omega arith;
}

-- a group worth more than nothing is that of a job left
winner-left : {way : Way} {pay : Pay} {js : List Job} {t : ℕ} {course : ℕ → Course} (b : Best) → Won denser (Candidate way pay js t) course 32 b → worthwhile b.course ≡ true → Member js b.last
winner-left b (no_one h) w = absurd (false≢true w)
winner-left b (some_one i l m e x) w = m.member

-- every part of a run names a job
pub numbered : {js₀ js : List Job} {ps : List Part} → Runs js₀ js ps → (k : ℕ) → k < length ps → (get_or ps k no_part).job < 32
numbered (last g e l) zero h = g.alive.there
numbered (last g e l) (suc k) h = absurd (not-suc-le-zero (le_of_suc-le-suc h))
numbered (next g e u r) zero h = g.alive.there
numbered (next g e u r) (suc k) h = numbered r k (le_of_suc-le-suc h)

-- a round that appends parts, by a fair way of choosing
module _ {way : Way} (fair : Fair way) {pay : Pay} {s : Stage} (f : Fitting pay s) (some : 0 < length (round_at way pay s).parts) where
  abbrev js : List Job
  js = s.state.jobs

  pub round-runs : Runs s.state.jobs s.state.jobs (round_at way pay s).parts
  round-runs =
      let y = f.jobs.ready in
      let v : View = view_of pay js in
      let w = some-won way v s.moment some in
      rw (round-won way v s.moment w)
      (group-runs pay s.moment (best_of way v s.moment).last fair y (winner-left (best_of way v s.moment) (picked way pay s.moment y.sound) w))

  pub fitting-next : Fitting pay (joined_by (round_at way pay s) s)
  unfolding joined_by
  fitting-next =
      let y = f.jobs.ready in
      let g : Group = round_at way pay s in
      let runs : Runs js js g.parts = round-runs in
      let c = small-round way (view_of pay js) s.moment (sane-modest f.jobs) in
      record {
        jobs = record {
          ready = replay-ready (runs-replay runs) y;
          small = small-after-all f.jobs.small g.parts;
          worth = f.jobs.worth;
        };
        room = omega (arith, f.room, runs-burden runs y.sound);
        few = omega (arith, f.few, runs-count runs y.sound);
        total = omega (arith, f.total, abs-add s.total g.course.gain, c.gain);
        moment = omega (arith, f.moment, c.time);
      }
