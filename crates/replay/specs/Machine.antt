-- THE BARE MACHINE of demand 3: it follows any list of parts and checks none.
-- It knows the clock and, of each job, the times left, the request, the holds and the curve. Of the planner it has only the parts;
-- the never mark and the rest of 01 that it needs stand here once more.
use Rattle.std.specs.Prelude.{Bool, true, false, cond, ◌&&◌, ◌||◌, List, [], ◌∷◌, map, ℕ, ◌+◌, ◌-◌, eqb, ltb, ℤ, pos, ◌+ℤ◌, get_or, set, take, Option, Some}
use Rattle.curve.specs.Curve.{Curve}
use Rattle.curve.specs.Worth.{worth_at, defined, amount}
use Rattle.job.specs.declared.Request.{Request}
use Rattle.book.specs.declared.Entry.{Entry}
use Rattle.book.specs.Read.{Record, Book}
use Rattle.book.specs.Format.{empty_record}
use Rattle.gus.specs.declared.Part.{Part}

-- "each job has its own list of holds in it": resource, hold and rollback of each, as in the book
pub record MachineJob : Type 0 where
  pub rolling : Bool
  pub run : ℕ
  pub rollback : ℕ
  pub request : Request
  pub holds : List Entry
  pub curve : Curve

-- what it has paid so far, and how many finishes it could not pay since they were outside their curves, is its account, and decides nothing
pub record Machine : Type 0 where
  pub clock : ℕ
  pub paid : ℤ
  pub unpaid : ℕ
  pub jobs : List MachineJob

-- "65,535, the never mark"
abbrev pub never : ℕ
never = 65535

-- "255 none", and then both times are 0
abbrev pub nothing : Request
nothing = record { resource = 255; hold = 0; rollback = 0 }

-- THE START: a job as its record stands in the book, "mode 1 (0 normal, 1 rollback)",
abbrev pub from_record : Record → MachineJob
from_record x = record {
  rolling = eqb x.mode 1;
  run = x.run;
  rollback = x.rollback;
  request = x.request;
  holds = take x.holds x.held;
  curve = x.curve;
}

-- what stands past the last job: no time, no request, nothing held, worth none at any time
abbrev pub no_machine_job : MachineJob
no_machine_job = from_record empty_record

abbrev pub numbered : List MachineJob → ℕ → MachineJob
numbered js i = get_or js i no_machine_job

-- a victim "goes into rollback and loses its request",
abbrev pub as_victim : MachineJob → MachineJob
as_victim j = record { rolling = true; run = j.run; rollback = j.rollback; request = nothing; holds = j.holds; curve = j.curve }

unfoldable pub with_victims : List ℕ → List MachineJob → List MachineJob
with_victims [] js = js
with_victims (i ∷ is) js = with_victims is (set js i (as_victim (numbered js i)))

-- and the clock is at the book's now
abbrev pub machine_from : Book → List ℕ → Machine
machine_from b victims = record { clock = b.now; paid = pos 0; unpaid = 0; jobs = with_victims victims (map from_record (take b.jobs b.records)) }

abbrev pub job_of : Machine → ℕ → MachineJob
job_of m i = numbered m.jobs i

-- A NORMAL PART "adds its request there without asking who else holds it": the request's rollback is added to the job's, to each
-- held one, and to nothing for the new one. "If either is never, all are never."
abbrev pub longer : MachineJob → ℕ → ℕ
longer j rollback = cond (eqb j.rollback never || eqb j.request.rollback never) never (rollback + j.request.rollback)

abbrev pub longer_hold : MachineJob → Entry → Entry
longer_hold j e = record { resource = e.resource; hold = e.hold; rollback = longer j e.rollback }

abbrev pub new_hold : MachineJob → Entry
new_hold j = record { resource = j.request.resource; hold = j.request.hold; rollback = longer j 0 }

unfoldable pub with_request : MachineJob → MachineJob
with_request j =
    cond (eqb j.request.resource 255) j
    (record {
      rolling = j.rolling;
      run = j.run;
      rollback = longer j j.rollback;
      request = nothing;
      holds = new_hold j ∷ map (longer_hold j) j.holds;
      curve = j.curve;
    })

-- What reaches zero in a hold or a held rollback is freed, and "the end of a job frees nothing whose hold or held rollback is not at zero".
abbrev pub lasting : Entry → Bool
lasting e = ltb 0 e.hold && ltb 0 e.rollback

unfoldable pub still_held : List Entry → List Entry
still_held [] = []
still_held (e ∷ es) = cond (lasting e) (e ∷ still_held es) (still_held es)

-- A normal part then takes its time from run time and holds;
abbrev pub less_hold : ℕ → Entry → Entry
less_hold n e = record { resource = e.resource; hold = e.hold - n; rollback = e.rollback }

abbrev pub has_run : ℕ → MachineJob → MachineJob
has_run n j = record { rolling = j.rolling; run = j.run - n; rollback = j.rollback; request = j.request; holds = still_held (map (less_hold n) j.holds); curve = j.curve }

-- A ROLLBACK PART "puts its job into rollback and drops its request", and takes its time from the job's and held rollbacks.
abbrev pub less_rollback : ℕ → Entry → Entry
less_rollback n e = record { resource = e.resource; hold = e.hold; rollback = e.rollback - n }

abbrev pub has_rolled_back : ℕ → MachineJob → MachineJob
has_rolled_back n j = record { rolling = true; run = j.run; rollback = j.rollback - n; request = nothing; holds = still_held (map (less_rollback n) j.holds); curve = j.curve }

abbrev pub given : Bool → ℕ → MachineJob → MachineJob
given true n j = has_rolled_back n j
given false n j = has_run n (with_request j)

-- what a job has left in a mode, true for rollback
abbrev pub time_left : Bool → MachineJob → ℕ
time_left true j = j.rollback
time_left false j = j.run

-- what finishing it in that mode is worth at a moment: normally what its curve says, and none outside it; rollback 0 at any time
abbrev pub finish_worth : Bool → MachineJob → ℕ → Option ℤ
finish_worth true j moment = Some (pos 0)
finish_worth false j moment = worth_at j.curve moment

-- A FINISH: a part after which its job has no time left in the part's mode. It earns what it is worth at that moment, or none; any other 0.
unfoldable pub earnings : Bool → MachineJob → ℕ → Option ℤ
earnings rolling j moment = cond (eqb (time_left rolling j) 0) (finish_worth rolling j moment) (Some (pos 0))

-- ONE PART: its job is changed, its time passes, and a finish is paid, or counted where it can't be. Nothing is refused: a part of a job
-- that is not there changes no job and can't be paid; what is not left is not taken; a finished job that runs is paid again; never counts
-- down like any other time; and a part without time still adds its job's request, or still puts it into rollback.
abbrev pub part_job : Machine → Part → MachineJob
part_job m p = given p.rolling p.time (job_of m p.job)

abbrev pub step : Machine → Part → Machine
step m p = record {
  clock = m.clock + p.time;
  paid = m.paid +ℤ amount (earnings p.rolling (part_job m p) (m.clock + p.time));
  unpaid = m.unpaid + cond (defined (earnings p.rolling (part_job m p) (m.clock + p.time))) 0 1;
  jobs = set m.jobs p.job (part_job m p);
}

unfoldable pub follow : Machine → List Part → Machine
follow m [] = m
follow m (p ∷ ps) = follow (step m p) ps
