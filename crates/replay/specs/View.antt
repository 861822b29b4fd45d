-- What the machine's own jobs show: who holds what, who is left, and what a round sees of them.
use Rattle.std.specs.Prelude.{Bool, false, cond, ◌&&◌, ◌||◌, List, [], ◌∷◌, ℕ, suc, eqb, ltb}
use Rattle.book.specs.declared.Entry.{Entry}
use Rattle.book.specs.Format.{no_entry}
use Rattle.gus.specs.View.{View}
use Rattle.replay.specs.Machine.{MachineJob, Machine, job_of, finish_worth}

-- a list of holds has one of r
unfoldable pub lists : List Entry → ℕ → Bool
lists [] r = false
lists (e ∷ es) r = eqb e.resource r || lists es r

-- JOB i HOLDS r
abbrev pub holds : Machine → ℕ → ℕ → Bool
holds m i r = lists (job_of m i).holds r

-- A JOB IS LEFT while it has time in both modes; "a job at zero is removed"
abbrev pub left : MachineJob → Bool
left j = ltb 0 j.run && ltb 0 j.rollback

-- the hold of r in a list, and one of no time where there is none
unfoldable pub hold_on : List Entry → ℕ → Entry
hold_on [] r = no_entry
hold_on (e ∷ es) r = cond (eqb e.resource r) e (hold_on es r)

-- the first of these jobs, numbered from i on, that holds r; 255 where none does
unfoldable pub holder_from : List MachineJob → ℕ → ℕ → ℕ
holder_from [] r i = 255
holder_from (j ∷ js) r i = cond (lists j.holds r) i (holder_from js r (suc i))

-- "A job waits for the holder of what it requests."
abbrev pub waits : Machine → ℕ → ℕ
waits m i = holder_from m.jobs (job_of m i).request.resource 0

-- what job i waits for, as its holder has it
abbrev pub awaited : Machine → ℕ → Entry
awaited m i = hold_on (job_of m (waits m i)).holds (job_of m i).request.resource

-- WHAT A ROUND SEES of the machine
abbrev pub view_of_machine : Machine → View
view_of_machine m = record {
  left = λ i. left (job_of m i);
  waits = λ i. waits m i;
  hold = λ i. (awaited m i).hold;
  undo = λ i. (awaited m i).rollback;
  run = λ i. (job_of m i).run;
  rollback = λ i. (job_of m i).rollback;
  rolling = λ i. (job_of m i).rolling;
  worth = λ b i t. finish_worth b (job_of m i) t;
}
