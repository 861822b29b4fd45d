-- What each part of a plan lowers: resources held, requests, and jobs left. So a plan has at most 96 parts.
use Rattle.std.specs.Prelude.{ℕ, ◌+◌, ◌<◌, ◌≤◌, ◌≡◌, refl, List, ltb}
use Rattle.std.proofs.Math.Decide.{ℕ_discrete, dec_lt}
use Rattle.std.proofs.Common.{arith, sym, ◌∙◌, lt-ltb, le-ltb}
use Rattle.std.proofs.Math.Path.{ap}
use Rattle.std.proofs.Math.Logic.{inl, inr}
use Rattle.job.specs.declared.Job.{Job}
use Rattle.job.specs.Job.{hold_of, left_in}
use Rattle.job.specs.Fit.{held_below}
use Rattle.job.specs.Part.{worked-request}
use Rattle.gus.specs.declared.Part.{Part}
use Rattle.gus.specs.State.{job_at, worked_by, after}
use Rattle.gus.specs.Waits.{holder_of}
use Rattle.invariants.specs.Sound.{Free, Sound, holder-left}
use Rattle.invariants.specs.Proper.{Proper, Frees, holder-after}
use Rattle.invariants.specs.Holders.{holder, holder-is, holder-free}
use Rattle.invariants.specs.Tally.{bit, bit-most, tally, tally-after, tally-most}
use Rattle.invariants.specs.Left.{count_left, count_most, count-after, count-last}
use Rattle.laws.specs.Points.{sum_to, point, point-same, point-other, sum-le, sum-most, points-out, points-in}

abbrev held_bit : List Job → ℕ → ℕ
held_bit js r = bit (ltb (holder_of js r) 32)

abbrev ask_one : Job → ℕ
ask_one j = bit (ltb j.request.resource 32)

unfoldable pub burden : List Job → ℕ
burden js = sum_to 32 (held_bit js) + tally ask_one js + count_left js

held-some : {js : List Job} → Sound js → (a r : ℕ) → 0 < hold_of (job_at js a) r → held_bit js r ≡ 1
held-some {js} s a r h = ap bit (lt-ltb (holder_of js r) 32 (omega (arith, holder-is s a r h, (holder-left s a r h).there)))

held_none : {js : List Job} (r : ℕ) → Free js r → held_bit js r ≡ 0
held_none {js} r f = ap bit (le-ltb (holder_of js r) 32 (omega (arith, holder-free r f)))

-- a request is one point at most
ask-point : (j : Job) → sum_to 32 (point j.request.resource) ≡ ask_one j
ask-point j = elim (dec_lt j.request.resource 32) [
  | yes l ↦ points-in 32 j.request.resource l ∙ sym (ap bit (lt-ltb j.request.resource 32 l))
  | no l ↦ points-out 32 j.request.resource (omega arith) ∙ sym (ap bit (le-ltb j.request.resource 32 (omega arith)))
]

module _ {js : List Job} {p : Part} (s : Sound js) (g : Proper js p) where
  wanted : ℕ
  wanted = (job_at js p.job).request.resource

  -- what is held after a part was held, or was asked for
  held_after : (r : ℕ) → held_bit (after js p) r ≤ held_bit js r + point wanted r
  unfolding wanted
  held_after r = elim (holder (after js p) r) [
    | inl x ↦ elim (holder-after s g (holder_of (after js p) r) r x.1) [
      | inl y ↦ omega (arith, bit-most (ltb (holder_of (after js p) r) 32), held-some s (holder_of (after js p) r) r y)
      | inr y ↦ omega (arith, bit-most (ltb (holder_of (after js p) r) 32), ap (point (job_at js p.job).request.resource) y.2, point-same (job_at js p.job).request.resource)
    ]
    | inr x ↦ omega (arith, held_none {js = after js p} r x.free)
  ]

  freed-after : (u : Frees js p) (r : ℕ) → held_bit (after js p) r + point u.what r ≤ held_bit js r + point wanted r
  freed-after u r = elim (ℕ_discrete u.what r) [
    | yes e ↦ rw (← e) (omega (arith, held_none {js = after js p} u.what u.gone, held-some s p.job u.what u.held, point-same u.what))
    | no ne ↦ omega (arith, held_after r, point-other u.what r ne)
  ]

  -- the request of the part's job is gone
  asks-after : tally ask_one (after js p) + sum_to 32 (point wanted) ≡ tally ask_one js
  unfolding wanted
  asks-after = omega (arith, tally-after ask_one s g, ask-point (job_at js p.job), ap bit (le-ltb (worked_by js p).request.resource 32 (worked-request p.rolling p.time (job_at js p.job))))

  pub burden-next : Frees js p → burden (after js p) < burden js
  unfolding burden
  burden-next u = omega (arith, count-after s g, asks-after, points-in 32 u.what (held_below (s.fit p.job) u.what u.held), sum-le 32 (held_bit (after js p)) (point u.what) (held_bit js) (point wanted) (freed-after u))

  pub burden-last : p.time ≡ left_in p.rolling (job_at js p.job) → burden (after js p) < burden js
  unfolding burden
  burden-last l = omega (arith, count-last s g l, asks-after, sum-le 32 (held_bit (after js p)) (λ r. 0) (held_bit js) (point wanted) (λ r. omega (arith, held_after r)))

pub burden-most : {js : List Job} → Sound js → burden js ≤ 96
unfolding burden
burden-most {js} s = omega (arith, sum-most 32 (held_bit js) (λ r. bit-most (ltb (holder_of js r) 32)), tally-most ask_one 1 s refl (λ i. bit-most (ltb (job_at js i).request.resource 32)), count_most s)
