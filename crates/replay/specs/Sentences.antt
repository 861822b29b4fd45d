-- DEMAND 3, sentence by sentence, of a machine m that follows a plan: all of it is said of the machine's own jobs.
use Rattle.std.specs.Prelude.{◌≡◌, true, false, List, ℕ, ◌+◌, ◌<◌, ◌≤◌, length, get_or, take}
use Rattle.curve.specs.Worth.{defined}
use Rattle.gus.specs.declared.Part.{Part}
use Rattle.gus.specs.declared.Course.{Course}
use Rattle.gus.specs.Choice.{Way}
use Rattle.gus.specs.Group.{group_of}
use Rattle.gus.specs.Round.{Plan, worthwhile}
use Rattle.invariants.specs.Replay.{lasts}
use Rattle.invariants.specs.Given.{run_given, rollback_given}
use Rattle.replay.specs.Machine.{MachineJob, Machine, never, job_of, time_left, earnings, part_job, follow}
use Rattle.replay.specs.View.{holds, left, view_of_machine}
use Rattle.replay.specs.Moments.{done_by, grants_add}

abbrev pub part_at : List Part → ℕ → Part
part_at ps k = get_or ps k (record { job = 0; rolling = false; time = 0 })

module _ (way : Way) (m : Machine) (plan : Plan) where
  -- part k, the machine when it starts, and its job as it is then
  abbrev part : ℕ → Part
  part k = part_at plan.parts k

  abbrev starting : ℕ → Machine
  starting k = follow m (take k plan.parts)

  abbrev runner : ℕ → MachineJob
  runner k = job_of (starting k) (part k).job

  -- what is done t milliseconds after the start, and the machine then
  abbrev done : ℕ → List Part
  done t = done_by t plan.parts

  abbrev moment : ℕ → Machine
  moment t = follow m (done t)

  -- the machine when all is done, and the course of job i's group then: it is a candidate where its finishes are inside their curves
  abbrev ended : Machine
  ended = follow m plan.parts

  abbrev group : ℕ → Course
  group i = (group_of way (view_of_machine ended) ended.clock i).course

  pub record Demand3 : Type 0 where
    -- "No normal part starts while another job holds what its job asks for": nor while its own does
    pub starts_free : (k i : ℕ) → k < length plan.parts → (part k).rolling ≡ false → holds (starting k) i (runner k).request.resource ≡ false
    -- "nothing has two holders", at any moment
    pub one_holder : (t i j r : ℕ) → holds (moment t) i r ≡ true → holds (moment t) j r ≡ true → i ≡ j
    -- "no part is longer than what its job has left in that mode"
    pub not_longer : (k : ℕ) → k < length plan.parts → (part k).time ≤ time_left (part k).rolling (runner k)
    -- "a job once in rollback never runs normally again": where it is so before part k, or by part k, each later part of it is in rollback
    pub stays_rolling : (k l : ℕ) → k ≤ l → l < length plan.parts → (job_of (starting k) (part l).job).rolling ≡ true → (part l).rolling ≡ true
    pub parts_stay_rolling : (k l : ℕ) → k < l → l < length plan.parts → (part l).job ≡ (part k).job → (part k).rolling ≡ true → (part l).rolling ≡ true
    -- "no finished job runs
    pub finished_idle : (k : ℕ) → k < length plan.parts → left (runner k) ≡ true
    -- or holds"
    pub finished_free : (t i r : ℕ) → left (job_of (moment t) i) ≡ false → holds (moment t) i r ≡ false
    -- "For each job, run time given plus run time left is what it began with"
    pub run_kept : (t i : ℕ) → run_given i (done t) + (job_of (moment t) i).run ≡ (job_of m i).run
    -- "so for rollback time where rollback stays possible, counting what a granted request adds"
    pub rollback_kept : (t i : ℕ) → (job_of (moment t) i).rollback < never → rollback_given i (done t) + (job_of (moment t) i).rollback ≡ (job_of m i).rollback + grants_add i m (done t)
    -- "What the machine pays at normal finishes sums to the stated total"
    pub pays_total : ended.paid ≡ plan.total
    -- "every finish in a plan that earns from a curve is inside it": by the machine's account none is left unpaid, so what each part earns is a number
    pub none_unpaid : ended.unpaid ≡ 0
    pub finishes_inside : (k : ℕ) → k < length plan.parts → defined (earnings (part k).rolling (part_job (starting k) (part k)) ((starting k).clock + (part k).time)) ≡ true
    -- "no job left has a candidate group worth more than zero"
    pub none_worthwhile : (i : ℕ) → left (job_of ended i) ≡ true → (group i).inside ≡ true → worthwhile (group i) ≡ false
    -- and besides: the last of the moments is the end, where the clock has moved on by the parts' times to the stated end,
    pub last_moment : moment (lasts plan.parts) ≡ ended
    pub clock_moved : ended.clock ≡ m.clock + lasts plan.parts
    pub end_is : plan.end ≡ ended.clock
    -- every part takes some time, "A plan has at most 96 parts and at most as many rounds as jobs."
    pub parts_take_time : (k : ℕ) → k < length plan.parts → 1 ≤ (part k).time
    pub parts_few : length plan.parts ≤ 96
    pub rounds_few : plan.rounds ≤ length m.jobs
