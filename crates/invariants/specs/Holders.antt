-- The holder found by search is the one who holds; and how one part changes the array of holders.
use Rattle.std.specs.Prelude.{ℕ, zero, suc, ◌+◌, ◌<◌, ◌≤◌, ◌≡◌, refl, ◌⊎◌, cond, List, [], ◌∷◌, length, ltb, eqb}
use Rattle.std.proofs.Math.Decide.{dec_lt}
use Rattle.std.proofs.Common.{arith, sym, ◌∙◌, inl, inr, lt-ltb, le-ltb}
use Rattle.job.specs.declared.Job.{Job}
use Rattle.job.specs.Job.{hold_of}
use Rattle.gus.specs.State.{job_at}
use Rattle.gus.specs.Waits.{nobody, holder_from, holder_of}
use Rattle.invariants.specs.Vacant.{vacant-holds}
use Rattle.invariants.specs.Sound.{Free, Sound}

-- the search from number i on found w, or missed
record Found (js : List Job) (r i w : ℕ) : Type 0 where
  place : ℕ
  within : place < length js
  is : w ≡ i + place
  held : 0 < hold_of (job_at js place) r

pub record Missed (js : List Job) (r w : ℕ) : Type 0 where
  pub is : w ≡ nobody
  pub free : Free js r

free-cons : {j : Job} {js : List Job} {r : ℕ} → hold_of j r ≤ 0 → Free js r → Free (j ∷ js) r
free-cons {j} {js} {r} h f = record { at = each }
  where
    each : (a : ℕ) → hold_of (job_at (j ∷ js) a) r ≡ 0
    each zero = omega arith
    each (suc a) = f.at a

hit : (j : Job) (js : List Job) (r i : ℕ) → 0 < hold_of j r → holder_from (j ∷ js) r i ≡ i
unfolding holder_from
hit j js r i h = rw (lt-ltb 0 (hold_of j r) h, holder_from)

miss : (j : Job) (js : List Job) (r i : ℕ) → hold_of j r ≤ 0 → holder_from (j ∷ js) r i ≡ holder_from js r (suc i)
unfolding holder_from
miss j js r i h = rw (le-ltb 0 (hold_of j r) h, holder_from)

found : (js : List Job) (r i : ℕ) → Found js r i (holder_from js r i) ⊎ Missed js r (holder_from js r i)
unfolding holder_from
found [] r i = inr (record { is = refl; free = record { at = λ a. vacant-holds r } })
found (j ∷ js) r i = elim (dec_lt 0 (hold_of j r)) [
  | yes h ↦ inl (record { place = 0; within = omega arith; is = omega (arith, hit j js r i h); held = h })
  | no h ↦ elim (found js r (suc i)) [
    | inl x ↦ inl (record { place = suc x.place; within = omega arith; is = omega (arith, miss j js r i (omega arith), x.is); held = x.held })
    | inr x ↦ inr (record { is = miss j js r i (omega arith) ∙ x.is; free = free-cons (omega arith) x.free })
  ]
]

-- the holder of r holds it, or nobody does
pub holder : (js : List Job) (r : ℕ) → ((holder_of js r < length js) × (0 < hold_of (job_at js (holder_of js r)) r)) ⊎ Missed js r (holder_of js r)
holder js r = elim (found js r 0) [
  | inl x ↦ let e : holder_of js r ≡ x.place = omega (arith, x.is) in inl (omega (arith, x.within), rw e x.held)
  | inr x ↦ inr x
]

pub holder-free : {js : List Job} (r : ℕ) → Free js r → holder_of js r ≡ nobody
holder-free {js} r f = elim (holder js r) [ inl x ↦ absurd (omega (arith, x.1, f.at (holder_of js r))) | inr x ↦ x.is ]

module _ {js : List Job} (s : Sound js) where
  -- THE HOLDER is the one job that holds
  pub holder-is : (a r : ℕ) → 0 < hold_of (job_at js a) r → holder_of js r ≡ a
  holder-is a r h = elim (holder js r) [ inl x ↦ s.one (holder_of js r) a r x.1 h | inr x ↦ absurd (omega (arith, x.free.at a)) ]

  pub holder-holds : (r : ℕ) → holder_of js r < 32 → 0 < hold_of (job_at js (holder_of js r)) r
  holder-holds r l = elim (holder js r) [ inl x ↦ x.1 | inr x ↦ absurd (omega (arith, x.is)) ]

  pub holder-none : (r : ℕ) → 32 ≤ holder_of js r → Free js r
  holder-none r l = elim (holder js r) [ inl x ↦ absurd (omega (arith, x.0, s.size)) | inr x ↦ x.free ]

-- THE ARRAY OF HOLDERS depends on what is held alone.
pub holder-same : (js js' : List Job) (r i : ℕ) → length js' ≡ length js → ((k : ℕ) → hold_of (job_at js' k) r ≡ hold_of (job_at js k) r) → holder_from js' r i ≡ holder_from js r i
unfolding holder_from
holder-same [] [] r i z h = refl
holder-same [] (j' ∷ js') r i z h = absurd (omega arith)
holder-same (j ∷ js) [] r i z h = absurd (omega arith)
holder-same (j ∷ js) (j' ∷ js') r i z h = elim (dec_lt 0 (hold_of j r)) [
  | yes l ↦ hit j' js' r i (omega (arith, h 0)) ∙ sym (hit j js r i l)
  | no l ↦ miss j' js' r i (omega (arith, h 0)) ∙ holder-same js js' r (suc i) (omega arith) (λ k. h (suc k)) ∙ sym (miss j js r i (omega arith))
]

-- who holds a resource after a part of a job that then has this hold of it:
-- that job where it has one; nobody where it had one and gave it up; else whoever held it
abbrev pub holder_after : ℕ → ℕ → ℕ → ℕ
holder_after job hold holder = cond (ltb 0 hold) job (cond (eqb holder job) nobody holder)
