-- From what one question of a round may rely on to what the next one may.
use Rattle.std.specs.Prelude.{◌≡◌, List, ℕ, ◌<◌, get_or}
use Rattle.std.proofs.Common.{arith}
use Rattle.gus.specs.declared.Course.{Course}
use Rattle.gus.specs.View.{View}
use Rattle.gus.specs.Course.{start}
use Rattle.planner.specs.Bounds.{Small, small-more, small-start}
use Rattle.planner.specs.Asking.{Stepping, Placing, Along, Scanning}
use Rattle.planner.specs.Following.{Followed}

-- one of the jobs that are asked about
pub scanned : {v : View} {n t i : ℕ} → Scanning v n t → i < n → Stepping v t i start
scanned s h = record { seeing = s.seeing; job = omega (arith, s.beyond.few); small = small-start }

-- its chain
pub chained : {v : View} {t i : ℕ} {members : List ℕ} {from : ℕ} {c : Course} → Stepping v t i c → Followed v.waits i members from → Along v t members from start
chained s f = record { seeing = s.seeing; members_below = f.below; place = f.low; small = small-start }

-- further along a chain, after the course c: the rest of it, its place, and the member there
module _ {v : View} {t : ℕ} {members : List ℕ} {from : ℕ} {c₀ : Course} (a : Along v t members from c₀) {k : ℕ} {c : Course} (h : k < 32) (s : Small k c) where
  pub along : Along v t members k c
  along = record { seeing = a.seeing; members_below = a.members_below; place = h; small = s }

  pub placing : Placing members k
  placing = record { members_below = a.members_below; place = h }

  pub stepping : {i : ℕ} → i ≡ get_or members k 0 → Stepping v t i c
  stepping e = record { seeing = a.seeing; job = omega (arith, a.members_below.below k); small = small-more (omega arith) s }
