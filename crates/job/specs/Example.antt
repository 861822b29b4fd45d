-- Jobs of 01's cases before and after a part.
use Rattle.std.specs.Prelude.{ℕ, ◌-◌, ◌≡◌, refl, true, false, List, [], ◌∷◌, ◌++◌, length, replicate}
use Rattle.job.specs.declared.Held.{Held}
use Rattle.job.specs.declared.Job.{Job}
use Rattle.job.specs.Times.{never}
use Rattle.job.specs.Held.{free}
use Rattle.job.specs.Job.{no_request, granted, ran, rolled_back, worked}

-- these from resource 0 on, and the others free
abbrev only : List Held → List Held
only l = l ++ replicate (32 - length l) free

-- Case 8, job 0: a part of 8 ends the hold of 8, and takes that of 3 to zero and no further.
case8-runs :
    worked false 8 (record { rolling = false; run = 12; rollback = never; request = no_request; held = only (record { hold = 3; rollback = never } ∷ record { hold = 8; rollback = never } ∷ []) })
    ≡ record { rolling = false; run = 4; rollback = never; request = no_request; held = only [] }
unfolding granted ran
case8-runs = refl

-- Case 9, job 1: the victim rolls back to its end.
case9-rolls-back :
    worked true 3 (record { rolling = true; run = 10; rollback = 3; request = no_request; held = only (free ∷ record { hold = 10; rollback = 3 } ∷ []) })
    ≡ record { rolling = true; run = 10; rollback = 0; request = no_request; held = only [] }
unfolding rolled_back
case9-rolls-back = refl

-- Case 9, job 0: it holds resource 0 and asks for resource 1, with a rollback of 1 there.
abbrev asking : ℕ → Job
asking rollback = record { rolling = false; run = 10; rollback = 3; request = record { resource = 1; hold = 4; rollback = rollback }; held = only (record { hold = 10; rollback = 3 } ∷ []) }

case9-granted :
    granted (asking 1)
    ≡ record { rolling = false; run = 10; rollback = 4; request = no_request; held = only (record { hold = 10; rollback = 4 } ∷ record { hold = 4; rollback = 1 } ∷ []) }
unfolding granted
case9-granted = refl

never-granted :
    granted (asking never)
    ≡ record { rolling = false; run = 10; rollback = never; request = no_request; held = only (record { hold = 10; rollback = never } ∷ record { hold = 4; rollback = never } ∷ []) }
unfolding granted
never-granted = refl
