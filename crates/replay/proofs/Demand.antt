-- What rests on specs/Demand.antt.
use Rattle.std.specs.Prelude.{◌≡◌, refl}
use Rattle.std.proofs.Common.{arith}
use mathlib.Core.List.{List}
use Prim.Native.Nat.{ℕ, ◌≤◌}
use Rattle.book.specs.Read.{Book}
use Rattle.book.specs.Format.{book_of}
use Rattle.accepted.specs.Good.{Good}
use Rattle.accepted.proofs.Good.{accepted-good}
use Rattle.gus.specs.Choice.{Way, by_density}
use Rattle.gus.specs.Victims.{victims_of, knot_of, settled}
use Rattle.gus.specs.Plan.{answer_to}
use Rattle.invariants.specs.Fair.{Fair, by-density-fair}
use Rattle.invariants.proofs.Start.{ready-settled}
use Rattle.invariants.proofs.Answer.{answer-replayed}
use Rattle.opening.specs.Start.{jobs_from, pay_from}
use Rattle.opening.proofs.Sound.{sound-from}
use Rattle.opening.specs.Falls.{settled-falls}
use Rattle.opening.specs.Few.{few-left}
use Rattle.opening.specs.Planned.{view_from, answer_from}
use Rattle.replay.specs.Machine.{machine_from}
use Rattle.replay.specs.Sentences.{Demand3}
use Rattle.replay.proofs.Bridge.{keeps-demand3}
use Rattle.replay.specs.Opening.{machine-size}
use Rattle.replay.proofs.Opening.{agrees_start}
use Rattle.replay.specs.Demand.{answer_for, victim-below}

module _ {b : Book} (g : Good b) (none : 32 ≤ knot_of (view_from b) b.now) where
  pub demand3-good : {way : Way} → Fair way → Demand3 way (machine_from b (answer_for way b).victims) (answer_for way b).plan
  unfolding answer_to
  demand3-good f =
      let victims : List ℕ = victims_of (view_from b) b.now in
      keeps-demand3
      (agrees_start g victims (victim-below g none))
      (ready-settled (pay_from b) b.now (sound-from g) none).sound
      (answer-replayed (pay_from b) b.now f (sound-from g) none)
      (refl, refl)
      (omega (arith, machine-size g victims, few-left g (settled (jobs_from b) victims) (settled-falls (jobs_from b) victims)))

-- for any fair way of choosing a mode,
pub demand3-by : {way : Way} → Fair way → (s : List ℕ) → (book_of s).number ≡ 0 → 32 ≤ knot_of (view_from (book_of s)) (book_of s).now → Demand3 way (machine_from (book_of s) (answer_for way (book_of s)).victims) (answer_for way (book_of s)).plan
demand3-by f s h none = demand3-good (accepted-good s h) none f

-- and for 01's
pub demand3 : (s : List ℕ) → (book_of s).number ≡ 0 → 32 ≤ knot_of (view_from (book_of s)) (book_of s).now → Demand3 by_density (machine_from (book_of s) (answer_from (book_of s)).victims) (answer_from (book_of s)).plan
demand3 = demand3-by by-density-fair
