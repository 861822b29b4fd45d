-- What of a row of parts is done at a moment, and what its grants add.
use Rattle.std.specs.Prelude.{◌≡◌, refl, Bool, true, false, cond, List, [], ◌∷◌, ℕ, ◌+◌, ◌-◌, leb, eqb}
use Rattle.std.proofs.Common.{arith, le-leb}
use Rattle.gus.specs.declared.Part.{Part}
use Rattle.invariants.specs.Replay.{lasts}
use Rattle.replay.specs.Machine.{MachineJob, Machine, job_of, step}

-- a part as far as it is after t milliseconds
abbrev pub shortened : ℕ → Part → Part
shortened t p = record { job = p.job; rolling = p.rolling; time = t }

-- what is done t milliseconds after the start: the parts that have ended, and the one that is under way as far as it is
unfoldable pub done_by : ℕ → List Part → List Part
done_by t [] = []
done_by t (p ∷ ps) = elim (leb p.time t) [ true ↦ p ∷ done_by (t - p.time) ps | false ↦ elim (eqb t 0) [ true ↦ [] | false ↦ shortened t p ∷ [] ] ]

-- after all their time all parts are done
pub done_all : (ps : List Part) → done_by (lasts ps) ps ≡ ps
unfolding done_by lasts
done_all [] = refl
done_all (p ∷ ps) =
    let e : p.time + lasts ps - p.time ≡ lasts ps = omega arith in
    rw (le-leb p.time (p.time + lasts ps) (omega arith), done_by, e, done_all ps)

-- what the grants among these parts add to the rollback time of job i: a normal part adds its job's request
abbrev pub adds : Bool → MachineJob → ℕ
adds true j = 0
adds false j = j.request.rollback

unfoldable pub grants_add : ℕ → Machine → List Part → ℕ
grants_add i m [] = 0
grants_add i m (p ∷ ps) = cond (eqb i p.job) (adds p.rolling (job_of m p.job)) 0 + grants_add i (step m p) ps
