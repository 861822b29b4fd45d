-- THE RUN OF A GROUP: its parts are proper, each in its turn; each but the last frees a resource, and the last takes all that is left.
use Rattle.std.specs.Prelude.{ℕ, ◌<◌, ◌≤◌, ◌≡◌, refl, Bool, true, false, List, [], ◌∷◌}
use Rattle.std.proofs.Common.{arith, sym, ap, ◌∙◌}
use Rattle.job.specs.declared.Job.{Job}
use Rattle.job.specs.Job.{hold_of, left_in, span_in}
use Rattle.job.specs.Fit.{Fit}
use Rattle.gus.specs.declared.Part.{Part}
use Rattle.gus.specs.State.{job_at, after}
use Rattle.gus.specs.Group.{part_of}
use Rattle.invariants.specs.Sound.{Free, Sound, Member}
use Rattle.invariants.specs.Proper.{Proper, Frees, at_other, sound-after, freed}
use Rattle.invariants.specs.Chains.{NotIn, Chain, alone, link, asked}
use Rattle.invariants.specs.Along.{Along, ends, goes}

-- over the jobs js, that were js₀ at the round's start: the job of each part is, where the part starts, as it was then
pub data Runs (js₀ : List Job) : List Job → List Part → Type 0 where
  last : {js : List Job} {p : Part} → Proper js p → job_at js p.job ≡ job_at js₀ p.job → p.time ≡ left_in p.rolling (job_at js p.job) → Runs js₀ js (p ∷ [])
  next : {js : List Job} {p : Part} {ps : List Part} → Proper js p → job_at js p.job ≡ job_at js₀ p.job → Frees js p → Runs js₀ (after js p) ps → Runs js₀ js (p ∷ ps)

-- the jobs of cs are in js as they were in js₀
abbrev Agree : List Job → List Job → List ℕ → Type 0
Agree js₀ js [] = Unit {0}
Agree js₀ js (k ∷ ks) = (job_at js k ≡ job_at js₀ k) × Agree js₀ js ks

pub agree_refl : (js : List Job) (cs : List ℕ) → Agree js js cs
agree_refl js [] = tt
agree_refl js (k ∷ ks) = (refl, agree_refl js ks)

agree_after : (js₀ js : List Job) (p : Part) (cs : List ℕ) → NotIn p.job cs → Agree js₀ js cs → Agree js₀ (after js p) cs
agree_after js₀ js p [] n a = tt
agree_after js₀ js p (k ∷ ks) n a = (at_other js p k n.0 ∙ a.0, agree_after js₀ js p ks n.1 a.1)

left-some : {js : List Job} {i : ℕ} (b : Bool) → Member js i → 1 ≤ left_in b (job_at js i)
left-some true m = m.rollback_some
left-some false m = m.run_some

span-some : (b : Bool) {j : Job} (r : ℕ) → Fit j → 0 < hold_of j r → 1 ≤ span_in b j r
span-some true r f h = f.both r h
span-some false r f h = h

span_left : (b : Bool) {j : Job} (r : ℕ) → Fit j → span_in b j r ≤ left_in b j
span_left true r f = f.rollbacks r
span_left false r f = f.holds r

moved : {js₀ js : List Job} {i : ℕ} → Member js₀ i → job_at js i ≡ job_at js₀ i → Member js i
moved m e = record { there = m.there; run_some = rw e m.run_some; rollback_some = rw e m.rollback_some }

-- ALONG THE CHAIN the jobs still to come are as they were, and what the next one asks for is free
pub along-runs : {js₀ js : List Job} {cs : List ℕ} {ps : List Part} → Along js₀ cs ps → Chain js₀ cs → Sound js₀ → Sound js → Agree js₀ js cs → Free js (asked js₀ cs) → Runs js₀ js ps
along-runs {js₀} {js} (ends {i = i} {n = n} e) (alone m) s₀ s a f =
    let p : Part = part_of i (job_at js₀ i).rolling n in
    let all : n ≡ left_in (job_at js₀ i).rolling (job_at js i) = e ∙ ap (left_in (job_at js₀ i).rolling) (sym a.0) in
    let g : Proper js p = record {
      alive = moved m a.0;
      some = rw e (left-some (job_at js₀ i).rolling m);
      left = omega arith;
      free = rw a.0 f;
      stays = λ x. sym (ap (λ (j : Job). j.rolling) a.0) ∙ x;
      real = λ x. rw a.0 ((s₀.fit i).real x);
    } in
    last g a.0 all
along-runs {js₀} {js} (goes {i = i} {k = k} {n = n} {ks = ks} b e stays real al) (link m w h ni ch) s₀ s a f =
    let p : Part = part_of i b n in
    let r : ℕ = (job_at js₀ k).request.resource in
    let g : Proper js p = record {
      alive = moved m a.0;
      some = rw e (span-some b r (s₀.fit i) h);
      left = rw (a.0, e) (span_left b r (s₀.fit i));
      free = rw a.0 f;
      stays = λ x. stays (sym (ap (λ (j : Job). j.rolling) a.0) ∙ x);
      real = λ x. rw a.0 (real x);
    } in
    let fr : Free (after js p) r = freed s g r (rw a.0 h) (rw a.0 e) in
    next g a.0 (record { what = r; held = rw a.0 h; gone = fr }) (along-runs {js = after js p} al ch s₀ (sound-after s g) (agree_after js₀ js p (k ∷ ks) ni a.1) fr)
