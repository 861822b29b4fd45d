-- One held resource, and what a part does to it (01, "What a part does to the book").
use Rattle.std.specs.Prelude.{ℕ, ◌-◌, Bool, cond, ltb, leb}
use Rattle.job.specs.declared.Held.{Held}
use Rattle.job.specs.Times.{plus, or_never}

-- a resource that is not held
abbrev pub free : Held
free = record { hold = 0; rollback = 0 }

-- Another request of the job is granted: its rollback is added. If the job's or the request's is never, all are never.
abbrev pub after_grant : Bool → ℕ → Held → Held
after_grant is_never amount h =
    cond (ltb 0 h.hold) (record { hold = h.hold; rollback = or_never is_never (plus h.rollback amount) }) h

-- The time is taken from the hold; at zero the resource is free.
abbrev pub after_run : ℕ → Held → Held
after_run time h = cond (leb h.hold time) free (record { hold = h.hold - time; rollback = h.rollback })

-- The time is taken from the held rollback; at zero the resource is free. (One that is not held has no rollback to take from.)
abbrev pub after_rollback : ℕ → Held → Held
after_rollback time h = cond (leb h.rollback time) free (record { hold = h.hold; rollback = h.rollback - time })
