-- Who waits for whom: "A job waits for the holder of what it requests."
use Rattle.std.specs.Prelude.{true, false, List, [], ◌∷◌, ℕ, zero, suc, ltb, leb}
use Rattle.job.specs.declared.Job.{Job}
use Rattle.job.specs.Job.{hold_of}
use Rattle.gus.specs.State.{job_at}

-- the number of no job; every number from 32 on is none
abbrev pub nobody : ℕ
nobody = 255

-- the first of these jobs, numbered from i on, that holds r
unfoldable pub holder_from : List Job → ℕ → ℕ → ℕ
holder_from [] r i = nobody
holder_from (j ∷ js) r i = elim (ltb 0 (hold_of j r)) [ true ↦ i | false ↦ holder_from js r (suc i) ]

abbrev pub holder_of : List Job → ℕ → ℕ
holder_of js r = holder_from js r 0

-- whom job i waits for
abbrev pub waits_for : List Job → ℕ → ℕ
waits_for js i = holder_of js (job_at js i).request.resource

-- VI.2: the chain of i, farthest holder first: before the chain so far comes i, before i whom it waits for, and so on
unfoldable pub chain_to : (ℕ → ℕ) → ℕ → ℕ → List ℕ → List ℕ
chain_to waits zero i chain = chain
chain_to waits (suc n) i chain = elim (leb 32 i) [ true ↦ chain | false ↦ chain_to waits n (waits i) (i ∷ chain) ]

unfoldable pub chain_of : (ℕ → ℕ) → ℕ → List ℕ
chain_of waits i = chain_to waits 32 i []
