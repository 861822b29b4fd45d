-- A sheet of three jobs before and after a part of job 0, which gives up resource 5 and is granted 7. Job 1 asks for 5, job 2 for 7.
use Rattle.std.specs.Prelude.{◌≡◌, refl, false, List, [], ◌∷◌, ℕ, set, replicate}
use Rattle.laws.specs.Count.{upto}
use Rattle.job.specs.declared.Job.{Job}
use Rattle.job.specs.Held.{free}
use Rattle.job.specs.Job.{no_request}
use Rattle.planner.specs.Putting.{linked, owned, relinked_row, relinked_at, reworked, sent_row, turns, sent_rows}
use Rattle.planner.specs.Askers.{asking}

-- run, rollback, hold, undo, waits, mode, end, pieces, asks
before : List ℕ
before =
    20 ∷ 6 ∷ 0 ∷ 0 ∷ 255 ∷ 0 ∷ 100 ∷ 1 ∷ 7 ∷
    30 ∷ 0 ∷ 3 ∷ 2 ∷ 0 ∷ 0 ∷ 200 ∷ 2 ∷ 5 ∷
    40 ∷ 9 ∷ 0 ∷ 0 ∷ 255 ∷ 0 ∷ 300 ∷ 1 ∷ 7 ∷ []

worker : Job
worker = record { rolling = false; run = 17; rollback = 8; request = no_request; held = set (replicate 32 free) 7 (record { hold = 4; rollback = 6 }) }

-- the release: job 1 waits for nobody; the grant: job 2 waits for job 0, and how long that one needs 7, running and rolling back
after-part : reworked 0 worker before
    ≡ 17 ∷ 8 ∷ 0 ∷ 0 ∷ 255 ∷ 0 ∷ 100 ∷ 1 ∷ 255 ∷
    30 ∷ 0 ∷ 0 ∷ 0 ∷ 255 ∷ 0 ∷ 200 ∷ 2 ∷ 5 ∷
    40 ∷ 9 ∷ 4 ∷ 6 ∷ 0 ∷ 0 ∷ 300 ∷ 1 ∷ 7 ∷ []
unfolding before worker reworked owned linked upto relinked_at relinked_row
after-part = refl

-- job 1 as a victim: in rollback, it asks for nothing and waits for nobody
after-victim : sent_rows (1 ∷ []) before
    ≡ 20 ∷ 6 ∷ 0 ∷ 0 ∷ 255 ∷ 0 ∷ 100 ∷ 1 ∷ 7 ∷
    30 ∷ 0 ∷ 0 ∷ 0 ∷ 255 ∷ 1 ∷ 200 ∷ 2 ∷ 255 ∷
    40 ∷ 9 ∷ 0 ∷ 0 ∷ 255 ∷ 0 ∷ 300 ∷ 1 ∷ 7 ∷ []
unfolding before turns sent_row linked
after-victim = refl

-- and who still asks then
still-asking : asking (sent_rows (1 ∷ []) before) (0 ∷ 1 ∷ 2 ∷ []) ≡ 0 ∷ 2 ∷ []
unfolding before turns sent_row linked asking
still-asking = refl
