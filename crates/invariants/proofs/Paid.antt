-- What rests on specs/Paid.antt.
use Rattle.std.specs.Prelude.{ℕ, ◌+◌, ◌≡◌, true, ◌&&◌, ◌+ℤ◌}
use Rattle.std.proofs.Common.{arith, ap, ◌∙◌}
use mathlib.Core.List.{List}
use Rattle.std.proofs.Math.IntN.{+ℤ_idl, +ℤ_idr, +ℤ_assoc}
use Rattle.curve.specs.Worth.{defined}
use Rattle.job.specs.declared.Job.{Job}
use Rattle.gus.specs.declared.Part.{Part}
use Rattle.gus.specs.declared.Course.{Course}
use Rattle.gus.specs.View.{Pay, view_of}
use Rattle.gus.specs.Course.{start, earned, onward}
use Rattle.gus.specs.Choice.{Way}
use Rattle.gus.specs.Group.{group_of}
use Rattle.invariants.specs.Sound.{Member}
use Rattle.invariants.specs.Waiting.{Ready}
use Rattle.invariants.specs.Fair.{Fair}
use Rattle.invariants.specs.Runs.{Runs, last, next}
use Rattle.invariants.proofs.Runs.{group-runs}
use Rattle.invariants.specs.Replay.{paid, all_inside}
use Rattle.invariants.specs.Paid.{and-true, between, course-is, course_of, earns-earned}

course-paid : (pay : Pay) {js₀ js : List Job} {ps : List Part} (t : ℕ) (c : Course) → Runs js₀ js ps → (course_of (view_of pay js₀) t ps c).gain ≡ c.gain +ℤ paid pay js (t + c.time) ps
unfolding course_of onward paid
course-paid pay {js₀} {js} t c (last {p = p} g e l) =
    let m : t + c.time + p.time ≡ t + (c.time + p.time) = omega arith in
    rw (m, earns-earned pay js₀ (t + (c.time + p.time)) g e, +ℤ_idr)
course-paid pay {js₀} {js} t c (next {p = p} {ps = ps} g e u r) =
    let m : t + c.time + p.time ≡ t + (c.time + p.time) = omega arith in
    rw (m, earns-earned pay js₀ (t + (c.time + p.time)) g e, ← +ℤ_assoc) (course-paid pay t (onward (view_of pay js₀) t p.job p.rolling p.time c) r)

course-inside : (pay : Pay) {js₀ js : List Job} {ps : List Part} (t : ℕ) (c : Course) → Runs js₀ js ps → (course_of (view_of pay js₀) t ps c).inside ≡ all_inside pay js (t + c.time) ps && c.inside
unfolding course_of onward all_inside
course-inside pay {js₀} {js} t c (last {p = p} g e l) =
    let m : t + c.time + p.time ≡ t + (c.time + p.time) = omega arith in
    rw (m, earns-earned pay js₀ (t + (c.time + p.time)) g e) (between (defined (earned (view_of pay js₀) p.job p.rolling p.time (t + (c.time + p.time)))) true c.inside)
course-inside pay {js₀} {js} t c (next {p = p} {ps = ps} g e u r) =
    let m : t + c.time + p.time ≡ t + (c.time + p.time) = omega arith in
    rw (m, earns-earned pay js₀ (t + (c.time + p.time)) g e)
    (course-inside pay t (onward (view_of pay js₀) t p.job p.rolling p.time c) r ∙ between (defined (earned (view_of pay js₀) p.job p.rolling p.time (t + (c.time + p.time)))) _ c.inside)

-- THE GROUP OF A JOB that is left
module _ (pay : Pay) {way : Way} {js : List Job} (t i : ℕ) (f : Fair way) (y : Ready js) (m : Member js i) where
  pub group-paid : (group_of way (view_of pay js) t i).course.gain ≡ paid pay js t (group_of way (view_of pay js) t i).parts
  group-paid =
      let e : t + 0 ≡ t = omega arith in
      ap (λ (c : Course). c.gain) (course-is pay t i f y m) ∙ course-paid pay t start (group-runs pay t i f y m) ∙ +ℤ_idl _ ∙ ap (λ (x : ℕ). paid pay js x (group_of way (view_of pay js) t i).parts) e

  -- an equation, so that a group is a candidate exactly where its parts are inside
  pub group-inside : (group_of way (view_of pay js) t i).course.inside ≡ all_inside pay js t (group_of way (view_of pay js) t i).parts
  group-inside =
      let e : t + 0 ≡ t = omega arith in
      ap (λ (c : Course). c.inside) (course-is pay t i f y m) ∙ course-inside pay t start (group-runs pay t i f y m) ∙ (and-true pay t i f y m) _ ∙ ap (λ (x : ℕ). all_inside pay js x (group_of way (view_of pay js) t i).parts) e
