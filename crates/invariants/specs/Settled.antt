-- What settling does: the jobs of the list are sent back, and no other job changes.
use Rattle.std.specs.Prelude.{ℕ, ◌<◌, ◌≡◌, refl, List, [], ◌∷◌, length, set}
use Rattle.std.proofs.Math.Decide.{ℕ_discrete, dec_lt}
use Rattle.std.proofs.Common.{arith, sym, ap, ◌∙◌, inl, inr, length-set, get_or-set_same, get_or-set_other}
use Rattle.std.proofs.Math.ListN.{get_or-eq_default}
use Rattle.job.specs.declared.Job.{Job}
use Rattle.job.specs.Job.{hold_of}
use Rattle.gus.specs.State.{vacant, job_at}
use Rattle.gus.specs.Waits.{nobody, holder_of, waits_for}
use Rattle.gus.specs.Victims.{sent_back, settled}
use Rattle.invariants.specs.Sound.{Sound}
use Rattle.invariants.specs.Holders.{holder-same}
use Rattle.invariants.specs.Waiting.{holder-past}
use Rattle.laws.specs.Among.{Among, among-or-not}

pub settled-size : (js : List Job) (is : List ℕ) → length (settled js is) ≡ length js
unfolding settled
settled-size js [] = refl
settled-size js (i ∷ is) = settled-size (set js i (sent_back (job_at js i))) is ∙ length-set js i (sent_back (job_at js i))

pub settled-other : (js : List Job) (is : List ℕ) (k : ℕ) → (Among k is → ⊥) → job_at (settled js is) k ≡ job_at js k
unfolding settled
settled-other js [] k h = refl
settled-other js (i ∷ is) k h = settled-other (set js i (sent_back (job_at js i))) is k (λ a. h (inr a)) ∙ get_or-set_other js i k (sent_back (job_at js i)) vacant (λ e. h (inl e))

-- to send back is to send back once
back_at : (js : List Job) (i k : ℕ) → k < length js → k ≡ i → job_at (set js i (sent_back (job_at js i))) k ≡ sent_back (job_at js k)
back_at js i k l e = rw e (get_or-set_same js i (sent_back (job_at js i)) vacant (omega arith))

back-same : (js : List Job) (i k : ℕ) → k < length js → sent_back (job_at (set js i (sent_back (job_at js i))) k) ≡ sent_back (job_at js k)
back-same js i k l = elim (ℕ_discrete k i) [
  | yes e ↦ ap (λ (j : Job). sent_back j) (back_at js i k l e)
  | no ne ↦ ap (λ (j : Job). sent_back j) (get_or-set_other js i k (sent_back (job_at js i)) vacant ne)
]

kept_back : (js : List Job) (is : List ℕ) (k : ℕ) (j : Job) → k < length js → job_at js k ≡ sent_back j → job_at (settled js is) k ≡ sent_back j
unfolding settled
kept_back js [] k j l e = e
kept_back js (i ∷ is) k j l e = kept_back (set js i (sent_back (job_at js i))) is k j (rw length-set l) (elim (ℕ_discrete k i) [
  | yes q ↦ back_at js i k l q ∙ ap (λ (x : Job). sent_back x) e
  | no ne ↦ get_or-set_other js i k (sent_back (job_at js i)) vacant ne ∙ e
])

pub settled_back : (js : List Job) (is : List ℕ) (k : ℕ) → k < length js → Among k is → job_at (settled js is) k ≡ sent_back (job_at js k)
unfolding settled
settled_back js [] k l h = absurd h
settled_back js (i ∷ is) k l (inl e) = kept_back (set js i (sent_back (job_at js i))) is k (job_at js k) (rw length-set l) (back_at js i k l e)
settled_back js (i ∷ is) k l (inr h) = settled_back (set js i (sent_back (job_at js i))) is k (rw length-set l) h ∙ back-same js i k l

-- what sending back keeps, settling keeps
pub settled-keeps : {A : Type 0} (f : Job → A) → ((j : Job) → f (sent_back j) ≡ f j) → (js : List Job) (is : List ℕ) (k : ℕ) → f (job_at (settled js is) k) ≡ f (job_at js k)
settled-keeps f same js is k = elim (dec_lt k (length js)) [
  | yes l ↦ elim (among-or-not k is) [
    | inl a ↦ ap f (settled_back js is k l a) ∙ same (job_at js k)
    | inr a ↦ ap f (settled-other js is k a)
  ]
  | no l ↦ ap f (get_or-eq_default (settled js is) vacant {n = k} (omega (arith, settled-size js is)) ∙ sym (get_or-eq_default js vacant {n = k} (omega arith)))
]

-- so the array of holders does not change
pub holder-settled : (js : List Job) (is : List ℕ) (r : ℕ) → holder_of (settled js is) r ≡ holder_of js r
holder-settled js is r = holder-same js (settled js is) r 0 (settled-size js is) (λ k. settled-keeps (λ j. hold_of j r) (λ j. refl) js is k)

-- R-6, WHOM JOB I WAITS FOR AFTER THE VICTIMS: a victim for nobody, and each other job for whom it waited for
module _ {js : List Job} (s : Sound js) (is : List ℕ) (i : ℕ) where
  pub waits-victim : i < 32 → Among i is → waits_for (settled js is) i ≡ nobody
  waits-victim l a =
      ap (λ (j : Job). holder_of (settled js is) j.request.resource) (settled_back js is i (omega (arith, s.size)) a)
      ∙ holder-settled js is nobody
      ∙ holder-past s nobody (omega arith)

  pub waits-other : (Among i is → ⊥) → waits_for (settled js is) i ≡ waits_for js i
  waits-other a = ap (λ (j : Job). holder_of (settled js is) j.request.resource) (settled-other js is i a) ∙ holder-settled js is (job_at js i).request.resource
