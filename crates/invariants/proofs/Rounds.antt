-- What rests on specs/Rounds.antt.
use Prim.Native.Nat.{ℕ, ◌+◌, zero, suc, ◌≤◌}
use Rattle.std.specs.Prelude.{List, ◌≡◌, refl, pos}
use Rattle.job.specs.declared.Job.{Job}
use Rattle.gus.specs.State.{after_all}
use Rattle.gus.specs.View.{Pay, view_of}
use Rattle.gus.specs.Choice.{Way}
use Rattle.gus.specs.Round.{Plan, stop, worthwhile, best_of, joined, rounds}
use Rattle.invariants.specs.Fair.{Fair}
use Rattle.invariants.specs.Rounds.{Replayed, group_at, rest_at}
use Rattle.std.proofs.Common.{arith, length-append}
use Rattle.std.proofs.Math.Bool.{false, Bool, true}
use Rattle.invariants.specs.Replay.{over, lasts, paid, all_inside, runs-replay, replay-append, after-append, lasts-append, paid-append, inside-append}
use Rattle.invariants.specs.Picked.{course_at, Candidate, picked}
use Rattle.laws.specs.Signed.{tight, lt_z-true}
use Rattle.laws.proofs.Signed.{dn-add}
use Rattle.gus.specs.declared.Best.{Best}
use Rattle.gus.specs.Course.{denser}
use Rattle.gus.specs.Group.{Group}
use Rattle.invariants.specs.Sound.{Member}
use Rattle.invariants.specs.Waiting.{Ready}
use Rattle.invariants.specs.Runs.{Runs}
use Rattle.invariants.proofs.Runs.{group-runs}
use Rattle.invariants.proofs.Replay.{replay-ready}
use Rattle.invariants.specs.Paid.{group-lasts}
use Rattle.invariants.proofs.Paid.{group-paid, group-inside}
use Rattle.invariants.specs.Left.{count_left, count-some}
use Rattle.invariants.proofs.Left.{runs-count}
use Rattle.invariants.proofs.Burden.{runs-burden}
use Rattle.invariants.specs.Winner.{Won, no_one, some_one}
use Rattle.invariants.proofs.Picked.{groups-timed, none_worthwhile}

module _ (pay : Pay) {way : Way} (f : Fair way) where
  -- a plan from where the group of i has ended
  abbrev pub After : List Job → ℕ → ℕ → Plan → Type 0
  After js t i plan = Replayed way pay (after_all js ((group_at pay f) js t i).parts) (t + ((group_at pay f) js t i).course.time) plan

pub stopped : (way : Way) (pay : Pay) (js : List Job) (t : ℕ) → ((i : ℕ) → Candidate way pay js t i → worthwhile (course_at way pay js t i) ≡ false) → Replayed way pay js t (stop t)
unfolding after_all lasts paid all_inside
stopped way pay js t h = record { replay = over; total = refl; inside = refl; never_less = refl; end = omega arith; few = omega arith; short = omega arith; rest = h }

module _ (pay : Pay) {way : Way} (f : Fair way) where
  -- a group worth more than zero, and what is replayed after it
  join : (js : List Job) (t i : ℕ) → Ready js → Candidate way pay js t i → worthwhile ((group_at pay f) js t i).course ≡ true → (r : Plan) → (After pay f) js t i r → Replayed way pay js t (joined ((group_at pay f) js t i) r)
  join js t i y m w r d =
      let left : Member js i = m.member in
      let g : Group = (group_at pay f) js t i in
      let runs : Runs js js g.parts = group-runs pay t i f y left in
      let time : g.course.time ≡ lasts g.parts = group-lasts pay t i f y left in
      record {
        replay = replay-append (runs-replay runs) d.replay;
        total = rw (paid-append pay js t g.parts r.parts, ← time, d.total, group-paid pay t i f y left) refl;
        inside = rw (inside-append pay js t g.parts r.parts, ← time, d.inside, ← group-inside pay t i f y left, m.inside);
        never_less = omega (arith, dn-add g.course.gain r.total, lt_z-true (pos 0) g.course.gain w, tight g.course.gain, d.never_less);
        end = omega (arith, d.end, lasts-append g.parts r.parts);
        few = omega (arith, d.few, runs-count runs y.sound);
        short = rw (after-append js g.parts r.parts) (omega (arith, d.short, length-append g.parts r.parts, runs-burden runs y.sound));
        rest = rw (after-append js g.parts r.parts) d.rest;
      }

  pub replayed : (n : ℕ) (js : List Job) (t : ℕ) → count_left js ≤ n → Ready js → Replayed way pay js t (rounds n way pay js t)
  unfolding rounds
  replayed zero js t l y = stopped way pay js t (λ i m. absurd (omega (arith, count-some y.sound m.member)))
  replayed (suc n) js t l y =
      go (best_of way (view_of pay js) t) (picked way pay t y.sound)
      (λ i m. let runs = group-runs pay t i f y m in replayed n (after_all js ((group_at pay f) js t i).parts) (t + ((group_at pay f) js t i).course.time) (omega (arith, runs-count runs y.sound)) (replay-ready (runs-replay runs) y))
    where
      pick : ℕ → Bool → Plan
      pick i b = elim b [ true ↦ joined ((group_at pay f) js t i) ((rest_at pay f) n js t i) | false ↦ stop t ]

      go : (b : Best) → Won denser (Candidate way pay js t) (course_at way pay js t) 32 b → ((i : ℕ) → Member js i → (After pay f) js t i ((rest_at pay f) n js t i)) → Replayed way pay js t (pick b.last (worthwhile b.course))
      go b (no_one h) ih = stopped way pay js t (λ i m. absurd (h i m.member.there m))
      go b (some_one {c = c} i l' m e x) ih = by-worth (worthwhile c) refl
        where
          by-worth : (b : Bool) → worthwhile c ≡ b → Replayed way pay js t (pick i b)
          by-worth true w = join js t i y m (rw e at w) ((rest_at pay f) n js t i) (ih i m.member)
          by-worth false w = stopped way pay js t (none_worthwhile pay t f y m (x (groups-timed pay t f y)) (rw e at w))
