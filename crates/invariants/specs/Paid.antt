-- A group's course is how long its parts last, what they pay, and whether each of their finishes is inside its curve.
use Rattle.std.specs.Prelude.{ℕ, ◌+◌, ◌≡◌, refl, Bool, true, false, ◌&&◌}
use Rattle.std.proofs.Math.Decide.{ℕ_discrete}
use Rattle.std.proofs.Common.{arith, sym, ap, ◌∙◌, eq-eqb, ne_eqb}
use mathlib.Core.List.{List, [], ◌∷◌}
use Rattle.job.specs.declared.Job.{Job}
use Rattle.job.specs.Job.{worked, left_in}
use Rattle.job.specs.Part.{given-and-left}
use Rattle.gus.specs.declared.Part.{Part}
use Rattle.gus.specs.declared.Course.{Course}
use Rattle.gus.specs.State.{job_at}
use Rattle.gus.specs.Waits.{waits_for, chain_of}
use Rattle.gus.specs.View.{Pay, View, view_of}
use Rattle.gus.specs.Course.{start, whole, earned, onward, to_free, to_end}
use Rattle.gus.specs.Choice.{Way}
use Rattle.gus.specs.Group.{grow, group_of}
use Rattle.invariants.specs.Sound.{Member}
use Rattle.invariants.specs.Proper.{Proper}
use Rattle.invariants.specs.Waiting.{Ready}
use Rattle.invariants.specs.Chains.{Chain, chain-of}
use Rattle.invariants.specs.Fair.{Fair}
use Rattle.invariants.specs.Replay.{lasts, earns}

-- the course of parts read off a view
unfoldable pub course_of : View → ℕ → List Part → Course → Course
course_of v t [] c = c
course_of v t (p ∷ ps) c = course_of v t ps (onward v t p.job p.rolling p.time c)

grow-course : (way : Way) (v : View) (t i : ℕ) (ks : List ℕ) (c : Course) → (grow way v t (i ∷ ks) c).course ≡ course_of v t (grow way v t (i ∷ ks) c).parts c
unfolding grow course_of to_free to_end
grow-course way v t i [] c = refl
grow-course way v t i (k ∷ ks) c = grow-course way v t k ks (to_free v t i k (way v t i k ks c) c)

course-time : (v : View) (t : ℕ) (ps : List Part) (c : Course) → (course_of v t ps c).time ≡ c.time + lasts ps
unfolding course_of onward lasts
course-time v t [] c = omega arith
course-time v t (p ∷ ps) c = omega (arith, course-time v t ps (onward v t p.job p.rolling p.time c))

-- all that a view gives a job is all that it has left
whole-left : (pay : Pay) (js : List Job) (b : Bool) (i : ℕ) → whole (view_of pay js) b i ≡ left_in b (job_at js i)
whole-left pay js true i = refl
whole-left pay js false i = refl

-- a proper part of a job that is as it was when it was read earns what the view says
pub earns-earned : (pay : Pay) (js₀ : List Job) {js : List Job} {p : Part} (moment : ℕ) → Proper js p → job_at js p.job ≡ job_at js₀ p.job → earns pay js p moment ≡ earned (view_of pay js₀) p.job p.rolling p.time moment
unfolding earns earned
earns-earned pay js₀ {js} {p} moment g q =
    let j : Job = job_at js p.job in
    let b : Bool = p.rolling in
    let rest : ℕ = left_in b (worked b p.time j) in
    let given : p.time + rest ≡ left_in b j = given-and-left b p.time j g.left in
    let all : whole (view_of pay js₀) b p.job ≡ left_in b j = whole-left pay js₀ b p.job ∙ ap (left_in b) (sym q) in
    elim (ℕ_discrete p.time (left_in b j)) [
      | yes y ↦ rw (eq-eqb rest 0 (omega (arith, given, y)), earned, eq-eqb p.time (whole (view_of pay js₀) b p.job) (y ∙ sym all))
      | no ne ↦ rw (ne_eqb rest 0 (λ e. ne (omega (arith, given, e))), earned, ne_eqb p.time (whole (view_of pay js₀) b p.job) (λ e. ne (e ∙ all)))
    ]

-- what came before joins what comes after
pub between : (d a c : Bool) → a && (d && c) ≡ (d && a) && c
between true a c = refl
between false true c = refl
between false false c = refl

-- THE GROUP OF A JOB that is left
module _ (pay : Pay) {way : Way} {js : List Job} (t i : ℕ) (f : Fair way) (y : Ready js) (m : Member js i) where
  pub course-is : (group_of way (view_of pay js) t i).course ≡ course_of (view_of pay js) t (group_of way (view_of pay js) t i).parts start
  unfolding group_of
  course-is = go (chain_of (waits_for js) i) (chain-of y i m).0
    where
      go : (cs : List ℕ) → Chain js cs → (grow way (view_of pay js) t cs start).course ≡ course_of (view_of pay js) t (grow way (view_of pay js) t cs start).parts start
      go [] ch = elim ch [ ]
      go (i ∷ ks) ch = grow-course way (view_of pay js) t i ks start

  pub and-true : (a : Bool) → a && true ≡ a
  and-true true = refl
  and-true false = refl

  pub group-lasts : (group_of way (view_of pay js) t i).course.time ≡ lasts (group_of way (view_of pay js) t i).parts
  group-lasts = omega (arith, ap (λ (c : Course). c.time) course-is, course-time (view_of pay js) t (group_of way (view_of pay js) t i).parts start)
