-- The victims sent into rollback one after the other.
use Rattle.std.specs.Prelude.{◌≡◌, refl, List, ◌∷◌, set, take, drop}
use Rattle.std.proofs.Math.Path.{ap}
use Rattle.std.proofs.Common.{◌∙◌, add-one, arith, drop-cons, length-take-le, get_or-take}
use Prim.Native.Nat.{ℕ, suc, ◌+◌, ◌<◌, ◌≤◌}
use Rattle.std.proofs.Math.ListN.{length, get_or, length-set}
use Rattle.std.proofs.Math.Seq.{drop-length}
use Rattle.laws.specs.Inside.{inside}
use Rattle.job.specs.declared.Job.{Job}
use Rattle.job.specs.Job.{no_job}
use Rattle.gus.specs.State.{vacant}
use Rattle.gus.specs.Victims.{sent_back, settled}
use Rattle.planner.specs.declared.Victims.{Victims}

-- the victims that an array and a count say
abbrev pub victims_in : Victims → List ℕ
victims_in v = take v.count v.list

-- which are jobs
pub record Handed (v : Victims) : Type 0 where
  pub size : length v.list ≡ 32
  pub few : v.count ≤ 32
  pub jobs : (k : ℕ) → get_or v.list k 0 < 32

-- The loop's whole invariant: what is left of the victims leads from js to where all of them lead from js₀.
pub record Settling (v : Victims) (js₀ js : List Job) (k : ℕ) : Type 0 where
  pub within : k ≤ v.count
  pub size : length js ≡ 32
  pub rest : settled js (drop k (victims_in v)) ≡ settled js₀ (victims_in v)

module _ {v : Victims} (h : Handed v) where
  pub victims-long : length (victims_in v) ≡ v.count
  victims-long = length-take-le v.count v.list (omega (arith, h.size, h.few))

  -- the k-th is the first of those left from it on
  pub victims-next : (k : ℕ) → k < v.count → drop k (victims_in v) ≡ get_or v.list k 0 ∷ drop (suc k) (victims_in v)
  victims-next k l = drop-cons (victims_in v) k 0 (omega (arith, victims-long)) ∙ ap (λ (x : ℕ). x ∷ drop (suc k) (victims_in v)) (get_or-take v.count v.list k 0 l)

module _ {v : Victims} {js₀ : List Job} (h : Handed v) where
  pub settling-begin : length js₀ ≡ 32 → Settling v js₀ js₀ 0
  settling-begin e = record { within = omega arith; size = e; rest = refl }

  module _ {js : List Job} {k : ℕ} (s : Settling v js₀ js k) where
    pub settling-next : {j : Job} → k < v.count → j ≡ sent_back (get_or js (get_or v.list k 0) no_job) → Settling v js₀ (set js (get_or v.list k 0) j) (k + 1)
    unfolding settled
    settling-next {j} l e =
        let i : ℕ = get_or v.list k 0 in
        let q : j ≡ sent_back (get_or js i vacant) = e ∙ ap sent_back (inside js i no_job vacant (omega (arith, h.jobs k, s.size))) in
        record {
          within = omega arith;
          size = length-set js i j ∙ s.size;
          rest = rw (add-one, q) (rw (victims-next h k l) at s.rest);
        }

    pub settling-ended : v.count ≤ k → js ≡ settled js₀ (victims_in v)
    unfolding settled
    settling-ended l =
        let e : k ≡ length (victims_in v) = omega (arith, victims-long h, s.within) in
        rw (e, drop-length (victims_in v)) at s.rest
