-- Without circles the chain of a job that is left is a chain: each holds what the next asks for, all are left, all are different.
use Prim.Native.Nat.{ℕ, zero, suc, ◌<◌, ◌≤◌}
use Rattle.std.proofs.Common.{arith, ◌∙◌, inl, inr, le-leb}
use Rattle.std.specs.Prelude.{◌≡◌, ◌≢◌}
use Rattle.std.proofs.Math.Path.{refl}
use mathlib.Core.List.{List, [], ◌∷◌}
use Rattle.std.proofs.lemmas.Bool.{lt-leb}
use Rattle.laws.specs.Search.{lt-or-le}
use Rattle.laws.specs.Walk.{follow, follow-zero, follow-in, follow-last, step_in}
use Rattle.laws.specs.Circle.{NoCircle}
use Rattle.laws.proofs.Circle.{paths-end}
use Rattle.job.specs.declared.Job.{Job}
use Rattle.job.specs.Job.{hold_of}
use Rattle.gus.specs.State.{job_at}
use Rattle.gus.specs.Waits.{nobody, waits_for, chain_to, chain_of}
use Rattle.invariants.specs.Sound.{Free, Member, holder-left}
use Rattle.invariants.specs.Holders.{holder-holds, holder-none}
use Rattle.invariants.specs.Waiting.{Ready}

abbrev pub NotIn : ℕ → List ℕ → Type 0
NotIn i [] = Unit {0}
NotIn i (k ∷ ks) = (k ≢ i) × NotIn i ks

pub data Chain (js : List Job) : List ℕ → Type 0 where
  alone : {i : ℕ} → Member js i → Chain js (i ∷ [])
  link : {i k : ℕ} {ks : List ℕ} → Member js i → waits_for js k ≡ i → 0 < hold_of (job_at js i) (job_at js k).request.resource → NotIn i (k ∷ ks) → Chain js (k ∷ ks) → Chain js (i ∷ k ∷ ks)

-- what the first of a chain asks for
abbrev pub asked : List Job → List ℕ → ℕ
asked js [] = nobody
asked js (i ∷ ks) = (job_at js i).request.resource

module _ (waits : ℕ → ℕ) where
  out : (n i : ℕ) (chain : List ℕ) → 32 ≤ i → chain_to waits n i chain ≡ chain
  unfolding chain_to
  out zero i chain l = refl
  out (suc n) i chain l = rw (le-leb 32 i l, chain_to)

  on : (n i : ℕ) (chain : List ℕ) → i < 32 → chain_to waits (suc n) i chain ≡ chain_to waits n (waits i) (i ∷ chain)
  unfolding chain_to
  on n i chain l = rw (lt-leb 32 i l, chain_to)

-- each of ks comes to i by one step or more
abbrev ComeTo : (ℕ → ℕ) → ℕ → List ℕ → Type 0
ComeTo f i [] = Unit {0}
ComeTo f i (k ∷ ks) = ((m : ℕ) × (follow f 32 (suc m) k ≡ i)) × ComeTo f i ks

come-on : (f : ℕ → ℕ) (i : ℕ) (ks : List ℕ) → i < 32 → ComeTo f i ks → ComeTo f (f i) ks
come-on f i [] h c = tt
come-on f i (k ∷ ks) h c = ((suc c.0.0, follow-last f 32 (suc c.0.0) k ∙ rw c.0.1 (step_in f 32 i h)), come-on f i ks h c.1)

come-not : (f : ℕ → ℕ) (i : ℕ) (ks : List ℕ) → NoCircle f 32 → i < 32 → ComeTo f i ks → NotIn i ks
come-not f i [] nc h c = tt
come-not f i (k ∷ ks) nc h c = (λ e. nc.never i (record { node = h; steps = suc c.0.0; some_steps = omega arith; back = rw e at c.0.1 }), come-not f i ks nc h c.1)

-- THE CHAIN OF A JOB, and its first asks for nothing that is held
module _ {js : List Job} (y : Ready js) where
  chain-to : (n i : ℕ) (ks : List ℕ) → 32 ≤ follow (waits_for js) 32 n i → Member js i → Chain js (i ∷ ks) → ComeTo (waits_for js) i ks → Chain js (chain_to (waits_for js) n i ks) × Free js (asked js (chain_to (waits_for js) n i ks))
  chain-to zero i ks o m ch co = absurd (omega (arith, m.there, follow-zero (waits_for js) 32 i))
  chain-to (suc n) i ks o m ch co = rw (on (waits_for js) n i ks m.there) (elim (lt-or-le (waits_for js i) 32) [
    | inl l ↦
        let w : ℕ = waits_for js i in
        let r : ℕ = (job_at js i).request.resource in
        let h : 0 < hold_of (job_at js w) r = holder-holds y.sound r l in
        let m' : Member js w = holder-left y.sound w r h in
        let one : follow (waits_for js) 32 1 i ≡ w = follow-in (waits_for js) 32 0 i m.there ∙ follow-zero (waits_for js) 32 w in
        let co' : ComeTo (waits_for js) w (i ∷ ks) = ((0, one), come-on (waits_for js) i ks m.there co) in
        chain-to n w (i ∷ ks) (rw (follow-in (waits_for js) 32 n i m.there) at o) m' (link m' refl h (come-not (waits_for js) w (i ∷ ks) y.clear l co') ch) co'
    | inr l ↦ rw (out (waits_for js) n (waits_for js i) (i ∷ ks) l) (ch, holder-none y.sound (job_at js i).request.resource l)
  ])

  pub chain-of : (i : ℕ) → Member js i → Chain js (chain_of (waits_for js) i) × Free js (asked js (chain_of (waits_for js) i))
  unfolding chain_of
  chain-of i m = chain-to 32 i [] (paths-end y.clear i) m (alone m) tt
