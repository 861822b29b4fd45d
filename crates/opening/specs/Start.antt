-- What the planner starts from: the jobs of a book, and what their finishes are worth.
use Rattle.std.specs.Prelude.{◌≡◌, refl, true, false, List, map, ℕ, min, eqb, pos, get_or, set, replicate, Some}
use Rattle.laws.specs.Count.{upto}
use Rattle.curve.specs.Worth.{worth_at}
use Rattle.job.specs.declared.Held.{Held}
use Rattle.job.specs.declared.Job.{Job}
use Rattle.job.specs.Held.{free}
use Rattle.book.specs.declared.Entry.{Entry}
use Rattle.book.specs.Read.{Record, Book}
use Rattle.book.specs.Format.{no_entry, empty_record}
use Rattle.gus.specs.State.{vacant}
use Rattle.gus.specs.View.{Pay}

abbrev pub held_of_entry : Entry → Held
held_of_entry e = record { hold = e.hold; rollback = e.rollback }

-- one line of a held list, laid at its resource's number; a resource past the last changes nothing
abbrev pub with_entry : Entry → List Held → List Held
with_entry e held = set held e.resource (held_of_entry e)

abbrev pub entry_laid : Record → ℕ → List Held → List Held
entry_laid x i held = with_entry (get_or x.held i no_entry) held

-- entries 0 .. holds of a held list, by resource
unfoldable pub held_from : Record → List Held
held_from x = upto (entry_laid x) (min x.holds 32) (replicate 32 free)

-- "mode 1 (0 normal, 1 rollback)"
unfoldable pub job_from : Record → Job
job_from x = record { rolling = eqb x.mode 1; run = x.run; rollback = x.rollback; request = x.request; held = held_from x }

abbrev pub jobs_from : Book → List Job
jobs_from b = map job_from b.records

-- a normal finish is worth what its job's curve says; "Version 1 rollback still earns 0 at any time" (R-7)
abbrev pub pay_from : Book → Pay
pay_from b rolling i t = elim rolling [ true ↦ Some (pos 0) | false ↦ worth_at (get_or b.records i empty_record).curve t ]

-- a place without a record is a place without a job
pub vacant-from : job_from empty_record ≡ vacant
unfolding job_from held_from upto
vacant-from = refl
