-- What rests on specs/End.antt.
use Rattle.std.specs.Prelude.{ℕ, ◌+◌, ◌*◌, ◌≤◌, refl, List}
use Rattle.std.proofs.Common.{arith}
use Rattle.job.specs.declared.Job.{Job}
use Rattle.gus.specs.declared.Part.{Part}
use Rattle.gus.specs.State.{job_at, after_all}
use Rattle.invariants.specs.Sound.{Sound}
use Rattle.invariants.specs.Proper.{sound-after}
use Rattle.invariants.specs.Replay.{Replay, over, then, lasts}
use Rattle.invariants.specs.Tally.{tally, tally-after, tally-most}
use Rattle.invariants.specs.End.{Small, effort, effort-worked, request-most}

pub lasts-within : {js : List Job} {ps : List Part} → Sound js → Replay js ps → lasts ps + tally effort (after_all js ps) ≤ tally effort js
unfolding lasts after_all
lasts-within s over = omega arith
lasts-within {js} s (then {p = p} g r) = omega (arith, tally-after effort s g, effort-worked p.rolling p.time (s.fit p.job) g.left, lasts-within (sound-after s g) r)

pub lasts-most : {js : List Job} {ps : List Part} → Sound js → Small js → Replay js ps → lasts ps ≤ 32 * (3 * 65535)
lasts-most {js} s m r =
    let each : (i : ℕ) → effort (job_at js i) ≤ 3 * 65535 = λ i. omega (arith, m.run i, (s.fit i).most, request-most (s.fit i)) in
    omega (arith, lasts-within s r, tally-most effort (3 * 65535) s refl each)
