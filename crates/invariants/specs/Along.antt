-- The parts of a group as they are read off the jobs at the round's start, one along each link of the chain.
use Rattle.std.specs.Prelude.{ℕ, ◌<◌, ◌≡◌, refl, Bool, true, false, List, [], ◌∷◌}
use Rattle.std.proofs.Math.Decide.{ℕ_discrete}
use Rattle.std.proofs.Common.{arith, sym, ap, ◌∙◌, true≢false}
use Rattle.job.specs.declared.Job.{Job}
use Rattle.job.specs.Times.{never}
use Rattle.job.specs.Job.{left_in, span_in}
use Rattle.gus.specs.declared.Part.{Part}
use Rattle.gus.specs.declared.Course.{Course}
use Rattle.gus.specs.State.{job_at}
use Rattle.gus.specs.Waits.{waits_for}
use Rattle.gus.specs.View.{Pay, View, view_of}
use Rattle.gus.specs.Course.{span, whole, to_free}
use Rattle.gus.specs.Choice.{Way}
use Rattle.gus.specs.Group.{part_of, grow}
use Rattle.invariants.specs.Sound.{Sound}
use Rattle.invariants.specs.Chains.{Chain, alone, link}
use Rattle.invariants.specs.Fair.{Fair}

-- ps are parts along the chain, in modes that are allowed: a job passes the time until what the next one asks for is free, and the last all it has left
pub data Along (js : List Job) : List ℕ → List Part → Type 0 where
  ends : {i n : ℕ} → n ≡ left_in (job_at js i).rolling (job_at js i) → Along js (i ∷ []) (part_of i (job_at js i).rolling n ∷ [])
  goes : {i k n : ℕ} {ks : List ℕ} {ps : List Part} (b : Bool) → n ≡ span_in b (job_at js i) (job_at js k).request.resource → ((job_at js i).rolling ≡ true → b ≡ true) → (b ≡ true → (job_at js i).rollback < never) → Along js (k ∷ ks) ps → Along js (i ∷ k ∷ ks) (part_of i b n ∷ ps)

module _ (pay : Pay) (js : List Job) where
  -- the view's times are those of the job that is waited for
  span-is : (b : Bool) {i : ℕ} (k : ℕ) → waits_for js k ≡ i → span (view_of pay js) b k ≡ span_in b (job_at js i) (job_at js k).request.resource
  span-is true k e = ap (λ (x : ℕ). span_in true (job_at js x) (job_at js k).request.resource) e
  span-is false k e = ap (λ (x : ℕ). span_in false (job_at js x) (job_at js k).request.resource) e

  whole_is : (b : Bool) (i : ℕ) → whole (view_of pay js) b i ≡ left_in b (job_at js i)
  whole_is true i = refl
  whole_is false i = refl

  pub grow-along : {way : Way} (t : ℕ) {cs : List ℕ} (c : Course) → Fair way → Sound js → Chain js cs → Along js cs (grow way (view_of pay js) t cs c).parts
  unfolding grow
  grow-along t c f s (alone {i = i} m) = ends (whole_is (job_at js i).rolling i)
  grow-along {way} t c f s (link {i = i} {k = k} {ks = ks} m w h n ch) = goes b (span-is b k w) (f.keeps v t i k ks c) (real (job_at js i).rolling refl) (grow-along t (to_free v t i k b c) f s ch)
    where
      v : View
      v = view_of pay js

      b : Bool
      b = way v t i k ks c

      real : (m : Bool) → (job_at js i).rolling ≡ m → way v t i k ks c ≡ true → (job_at js i).rollback < never
      real true e q = (s.fit i).real e
      real false e q = elim (ℕ_discrete (job_at js i).rollback never) [
        | yes x ↦ absurd (true≢false (sym q ∙ f.spares v t i k ks c e x))
        | no ne ↦ omega (arith, (s.fit i).most)
      ]
