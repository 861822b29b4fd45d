-- The walk along a circle of waits, and the circle of each job.
use Rattle.std.specs.Prelude.{◌≡◌, List, get_or, replicate}
use Rattle.std.proofs.Math.Path.{refl}
use Rattle.std.proofs.Common.{sym, ◌∙◌, not-suc-le-zero}
use Prim.Native.Nat.{ℕ, zero, suc, ◌-◌, ◌<◌, ◌≤◌, min}
use native.Mathlib.Omega.{arith}
use borrow.Author.Tests.{le-leb, lt-leb, eq-eqb, ne_eqb}
use Rattle.std.proofs.lemmas.List.{get_or-replicate}
use Rattle.laws.specs.Each.{map_ix, at-map_ix, Doing, ended-idle}
use Rattle.gus.specs.Waits.{nobody}
use Rattle.gus.specs.Victims.{circle_from, circle_of}

module _ (waits : ℕ → ℕ) (home : ℕ) where
  step : (steps job low : ℕ) → 0 < steps → job < 32 → (job ≡ home → ⊥) → circle_from waits steps home job low ≡ circle_from waits (steps - 1) home (waits job) (min low job)
  unfolding circle_from
  step zero job low h l n = absurd (not-suc-le-zero h)
  step (suc steps) job low h l n = let e : suc steps - 1 ≡ steps = omega arith in rw (e, lt-leb 32 job l, ne_eqb job home n, circle_from)

  met : (steps low : ℕ) → 0 < steps → home < 32 → circle_from waits steps home home low ≡ low
  unfolding circle_from
  met zero low h l = absurd (not-suc-le-zero h)
  met (suc steps) low h l = rw (lt-leb 32 home l, eq-eqb home home refl, circle_from)

  left : (steps job low : ℕ) → 32 ≤ job → circle_from waits steps home job low ≡ nobody
  unfolding circle_from
  left zero job low h = refl
  left (suc steps) job low h = rw (le-leb 32 job h, circle_from)

  spent : (steps job low : ℕ) → steps ≤ 0 → circle_from waits steps home job low ≡ nobody
  unfolding circle_from
  spent zero job low h = refl
  spent (suc steps) job low h = absurd (not-suc-le-zero h)

-- The loop's whole invariant: the walk stands at job, and the lowest so far is low.
pub record Circling (waits : ℕ → ℕ) (home low job steps : ℕ) : Type 0 where
  pub lowest : low < 32
  pub rest : circle_from waits steps home job low ≡ circle_of waits home

module _ {waits : ℕ → ℕ} {home : ℕ} where
  pub circling-begin : {job : ℕ} → home < 32 → job ≡ waits home → Circling waits home home job 32
  unfolding circle_of
  circling-begin h e = record { lowest = h; rest = rw e }

  module _ {low job steps : ℕ} (c : Circling waits home low job steps) where
    pub circling-next : {lower next : ℕ} → 0 < steps → job < 32 → (job ≡ home → ⊥) → lower ≡ min low job → next ≡ waits job → Circling waits home lower next (steps - 1)
    circling-next h l n e q = record {
      lowest = omega (arith, c.lowest);
      rest = rw (e, q) (sym (step waits home steps job low h l n) ∙ c.rest);
    }

    pub circling-met : 0 < steps → job < 32 → job ≡ home → low ≡ circle_of waits home
    circling-met h l e = sym (met waits home steps low h (omega arith)) ∙ (rw e at c.rest)

    pub circling-left : 32 ≤ job → nobody ≡ circle_of waits home
    circling-left h = sym (left waits home steps job low h) ∙ c.rest

    pub circling-spent : steps ≤ 0 → nobody ≡ circle_of waits home
    circling-spent h = sym (spent waits home steps job low h) ∙ c.rest

-- who waits for nobody is on no circle
pub circle-none : (waits : ℕ → ℕ) (job : ℕ) → waits job ≡ nobody → circle_of waits job ≡ nobody
unfolding circle_of
circle-none waits job e = rw e (left waits job 32 nobody job (omega arith))

-- the circle of each of the 32 jobs, by number
unfoldable pub circles_of : (ℕ → ℕ) → List ℕ
circles_of waits = map_ix (λ job none. circle_of waits job) (replicate 32 nobody)

pub circle-at : {circles : List ℕ} (waits : ℕ → ℕ) (job : ℕ) → circles ≡ circles_of waits → job < 32 → get_or circles job 0 ≡ circle_of waits job
unfolding circles_of
circle-at waits job e h = rw e (at-map_ix (λ job none. circle_of waits job) (replicate 32 nobody) job 0 h)

-- the circles of the first jobs are all, where the others wait for nobody
pub circles-ended : {waits : ℕ → ℕ} {found : List ℕ} {n : ℕ} → Doing (λ job none. circle_of waits job) 32 (replicate 32 nobody) found n → ((job : ℕ) → n ≤ job → waits job ≡ nobody) → found ≡ circles_of waits
unfolding circles_of
circles-ended {waits} d idle = ended-idle nobody d (λ job h q. circle-none waits job (idle job h) ∙ sym (get_or-replicate 32 job nobody nobody q))
