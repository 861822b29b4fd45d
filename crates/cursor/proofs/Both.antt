-- A function over a struct that holds a reference has its contract as an assertion alone: what two facts of one state give together.
use seplogic.Ra.Ura.{Ura}
use base.Logic.{ent, emp, via}
use contract.Monad.{conj, conj_r, fact, fact_mono, guard-conj}

pub both : {M : Type 1} (𝓤 : Ura M) (φ ψ χ : Type 0) → (φ → ψ → χ) → ent 𝓤 (conj 𝓤 (fact 𝓤 φ) (fact 𝓤 ψ)) (fact 𝓤 χ)
both 𝓤 φ ψ χ f = guard-conj 𝓤 φ (emp 𝓤) (fact 𝓤 ψ) (λ p. via 𝓤 (fact 𝓤 ψ) (conj_r 𝓤 (emp 𝓤) (fact 𝓤 ψ)) (fact_mono 𝓤 ψ χ (f p)))
