-- R-8, FROM A BOOK'S BYTES: "for every accepted book that no member of a wait circle is in rollback, also after earlier victims are settled".
-- So 01's loss of 0 for a job in rollback is asked of nobody, and neither the victims nor the knot depend on it.
use Rattle.std.specs.Prelude.{ℕ, take}
use mathlib.Core.List.{List}
use Rattle.job.specs.declared.Job.{Job}
use Rattle.book.specs.Read.{Book}
use Rattle.gus.specs.Victims.{victims_of, settled}
use Rattle.opening.specs.Start.{jobs_from}
use Rattle.opening.specs.Planned.{view_from}

-- the first n victims of a book, and its jobs after these were settled
abbrev pub first_victims : ℕ → Book → List ℕ
first_victims n b = take n (victims_of (view_from b) b.now)

abbrev pub after_victims : ℕ → Book → List Job
after_victims n b = settled (jobs_from b) (first_victims n b)
