-- The planner's state after a part, and after a row of parts: the jobs as gus has them, who holds each resource, and the sheet.
use Rattle.std.specs.Prelude.{◌≡◌, false, List, [], ◌∷◌, ℕ, ◌<◌, length, get_or}
use Rattle.laws.specs.Each.{map_ix, at-map_ix}
use Rattle.job.specs.declared.Held.{Held}
use Rattle.job.specs.Held.{free}
use Rattle.gus.specs.declared.Part.{Part}
use Rattle.gus.specs.State.{worked_by, after, after_all}
use Rattle.gus.specs.Waits.{nobody}
use Rattle.invariants.specs.Holders.{holder_after}
use Rattle.planner.specs.declared.State.{State}
use Rattle.planner.specs.Putting.{reworked}

-- who holds each resource, by what the job holds after the part
unfoldable pub holders_after : ℕ → List Held → List ℕ → List ℕ
holders_after job held holders = map_ix (λ r. holder_after job (get_or held r free).hold) holders

abbrev pub after_part : State → Part → State
after_part s p = record {
  jobs = after s.jobs p;
  holders = holders_after p.job (worked_by s.jobs p).held s.holders;
  sheet = reworked p.job (worked_by s.jobs p) s.sheet;
}

-- a row of parts, one after the other; its jobs are `after_all`'s
unfoldable pub in_turn : State → List Part → State
in_turn s [] = s
in_turn s (p ∷ ps) = in_turn (after_part s p) ps

abbrev pub after_parts : State → List Part → State
after_parts s ps = record { jobs = after_all s.jobs ps; holders = (in_turn s ps).holders; sheet = (in_turn s ps).sheet }

-- what an array of parts has past its end
abbrev pub no_part : Part
no_part = record { job = 0; rolling = false; time = 0 }

-- the first count parts name jobs below 32
pub record Numbered (count : ℕ) (parts : List Part) : Type 0 where
  pub below : (k : ℕ) → k < count → (get_or parts k no_part).job < 32

-- one resource's holder after a part
pub holder-after : (job : ℕ) (held : List Held) (holders : List ℕ) (r : ℕ) → r < length holders → get_or (holders_after job held holders) r nobody ≡ holder_after job (get_or held r free).hold (get_or holders r nobody)
unfolding holders_after
holder-after job held holders r h = at-map_ix (λ k. holder_after job (get_or held k free).hold) holders r nobody h
