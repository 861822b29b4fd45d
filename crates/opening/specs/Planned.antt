-- THE PLAN OF AN ACCEPTED BOOK without a knot: it starts ready, keeps demand 3, and its numbers fit the answer.
use Rattle.std.specs.Prelude.{◌+◌, ◌*◌, ◌≤◌, ◌≡◌, List, length}
use Rattle.laws.specs.Signed.{up, dn}
use Rattle.job.specs.declared.Job.{Job}
use Rattle.book.specs.Read.{Book}
use Rattle.accepted.specs.Good.{Good}
use Rattle.gus.specs.declared.Part.{Part}
use Rattle.gus.specs.State.{after_all}
use Rattle.gus.specs.View.{View, view_of}
use Rattle.gus.specs.Choice.{by_density}
use Rattle.gus.specs.Victims.{victims_of, knot_of, settled}
use Rattle.gus.specs.Plan.{Answer, answer_to, answer_of}
use Rattle.invariants.specs.Waiting.{Ready}
use Rattle.invariants.specs.Replay.{Replay}
use Rattle.invariants.specs.Left.{count_left}
use Rattle.invariants.specs.Rounds.{Replayed}
use Rattle.invariants.specs.End.{Small}
use Rattle.invariants.specs.Victims.{victims-few}
use Rattle.opening.specs.Start.{jobs_from, pay_from}
use Rattle.opening.specs.Falls.{settled-falls}
use Rattle.opening.specs.Small.{small-from, small-settled}
use Rattle.opening.specs.Modest.{Modest}
use Rattle.opening.specs.Few.{few-left}

abbrev pub view_from : Book → View
view_from b = view_of (pay_from b) (jobs_from b)

-- "starting from an accepted book with the victims in rollback"
abbrev pub start_from : Book → List Job
start_from b = settled (jobs_from b) (victims_of (view_from b) b.now)

abbrev pub answer_from : Book → Answer
answer_from b = answer_of (pay_from b) (jobs_from b) b.now

pub record Planned (b : Book) : Type 0 where
  pub ready : Ready (start_from b)
  pub small : Small (start_from b)
  -- the numbers of every round, and of every moment between two parts
  pub modest : (ps : List Part) → Replay (start_from b) ps → Modest (view_of (pay_from b) (after_all (start_from b) ps))
  -- demand 3
  pub replayed : Replayed by_density (pay_from b) (start_from b) b.now (answer_from b).plan
  pub victims : length (answer_from b).victims ≤ 32
  -- "A plan has at most 96 parts and at most as many rounds as jobs."
  pub parts : length (answer_from b).plan.parts ≤ 96
  pub rounds : (answer_from b).plan.rounds ≤ b.jobs
  pub rounds_most : (answer_from b).plan.rounds ≤ 32
  pub total_some : dn (answer_from b).plan.total ≡ 0
  pub total_most : up (answer_from b).plan.total ≤ 32000000
  pub end : (answer_from b).plan.end ≤ b.now + 32 * (3 * 65535)

module _ {b : Book} (g : Good b) (none : 32 ≤ knot_of (view_from b) b.now) where
  pub small : Small (start_from b)
  small = small-settled (small-from g) (victims_of (view_from b) b.now)

  pub few : count_left (start_from b) ≤ b.jobs
  few = few-left g (start_from b) (settled-falls (jobs_from b) (victims_of (view_from b) b.now))

  pub few_victims : length (answer_from b).victims ≤ 32
  unfolding answer_to
  few_victims = victims-few (view_from b) b.now
