-- What rests on specs/Picked.antt.
use Rattle.std.specs.Prelude.{ℕ, ◌<◌, ◌≡◌, Bool, true, false, List}
use Rattle.std.proofs.Common.{arith, sym, ◌∙◌}
use Rattle.std.proofs.Math.Path.{refl}
use Rattle.std.proofs.lemmas.Bool.{false≢true}
use Rattle.curve.proofs.Density.{denser-some}
use Rattle.job.specs.declared.Job.{Job}
use Rattle.gus.specs.declared.Course.{Course}
use Rattle.gus.specs.View.{Pay}
use Rattle.gus.specs.Course.{denser}
use Rattle.gus.specs.Choice.{Way}
use Rattle.gus.specs.Round.{worthwhile}
use Rattle.invariants.specs.Sound.{Member}
use Rattle.invariants.specs.Waiting.{Ready}
use Rattle.invariants.specs.Fair.{Fair}
use Rattle.invariants.proofs.Runs.{group-runs}
use Rattle.invariants.specs.Paid.{group-lasts}
use Rattle.invariants.specs.Winner.{Timed, Wins}
use Rattle.invariants.specs.Picked.{Candidate, course_at, runs-some}

module _ (pay : Pay) {way : Way} {js : List Job} (t : ℕ) (f : Fair way) (y : Ready js) where
  -- a group takes time
  some-time : (i : ℕ) → Member js i → 0 < (course_at way pay js t i).time
  some-time i m = omega (arith, group-lasts pay t i f y m, runs-some (group-runs pay t i f y m))

  pub groups-timed : Timed denser (Candidate way pay js t) (course_at way pay js t)
  groups-timed = record { some = λ i m. some-time i m.member }

  -- where the best is not worth more than zero, no candidate is
  pub none_worthwhile : {i : ℕ} → Candidate way pay js t i → Wins denser (Candidate way pay js t) (course_at way pay js t) 32 i → worthwhile (course_at way pay js t i) ≡ false → (k : ℕ) → Candidate way pay js t k → worthwhile (course_at way pay js t k) ≡ false
  unfolding denser
  none_worthwhile {i} mi w q k m = go (worthwhile a) refl
    where
      a : Course
      a = course_at way pay js t k

      b : Course
      b = course_at way pay js t i

      go : (x : Bool) → worthwhile a ≡ x → worthwhile a ≡ false
      go false e = e
      go true e = absurd (false≢true (sym (w.unbeaten k m.member.there m) ∙ denser-some a.gain a.time b.gain b.time (some-time i mi.member) e q))
