-- What the functions of a round may rely on, a record for each kind of question.
use Rattle.std.specs.Prelude.{◌≡◌, true, false, List, ℕ, suc, ◌*◌, ◌<◌, ◌≤◌, length}
use Rattle.gus.specs.declared.Course.{Course}
use Rattle.gus.specs.Waits.{nobody}
use Rattle.gus.specs.View.{View}
use Rattle.gus.specs.Course.{start}
use Rattle.planner.specs.Bounds.{Modest, Short, Small, Planned}
use Rattle.laws.specs.Placed.{Below}
use Rattle.planner.specs.Circling.{circles_of}

-- of any job, at the planned moment t
pub record Seeing (v : View) (t : ℕ) : Type 0 where
  pub modest : Modest v
  pub planned : Planned t

-- of job i, after the course c
pub record Stepping (v : View) (t i : ℕ) (c : Course) : Type 0 where
  pub seeing : Seeing v t
  pub job : i < 32
  pub small : Small 31 c

-- of a part of n of that job
pub record Spending (v : View) (t i n : ℕ) (c : Course) : Type 0 where
  pub step : Stepping v t i c
  pub short : n ≤ 65535

-- of job i whose part is done after so much time
pub record Earning (t i time : ℕ) : Type 0 where
  pub planned : Planned t
  pub job : i < 32
  pub time_small : time ≤ 32 * 65535

-- of an array for the chain of job i
pub record Tracing (i : ℕ) (members : List ℕ) : Type 0 where
  pub job : i < 32
  pub long : length members ≡ 32
  pub below : Below 32 members

-- of the member at place k of a chain in an array
pub record Placing (members : List ℕ) (k : ℕ) : Type 0 where
  pub members_below : Below 32 members
  pub place : k < 32

-- and of how long it takes
pub record Spanning (v : View) (members : List ℕ) (k : ℕ) : Type 0 where
  pub placing : Placing members k
  pub short : Short v

-- of a chain in an array, from place k on, after the course c
pub record Along (v : View) (t : ℕ) (members : List ℕ) (k : ℕ) (c : Course) : Type 0 where
  pub seeing : Seeing v t
  pub members_below : Below 32 members
  pub place : k < 32
  pub small : Small k c

-- of the member at place k of it, which is not the last, where the course has no none among its credits
pub record Undoing (v : View) (t : ℕ) (members : List ℕ) (k : ℕ) (c : Course) : Type 0 where
  pub along : Along v t members k c
  pub more : k < 31
  pub inside : c.inside ≡ true

-- of those after place k, by the time that a course has taken before them
pub record Lasting (v : View) (t : ℕ) (members : List ℕ) (k time : ℕ) : Type 0 where
  pub seeing : Seeing v t
  pub members_below : Below 32 members
  pub place : k < 32
  pub time_small : time ≤ suc k * 65535

-- from the n-th job on nobody is left and nobody waits
pub record Beyond (n : ℕ) (v : View) : Type 0 where
  pub few : n ≤ 32
  pub left : (i : ℕ) → n ≤ i → v.left i ≡ false
  pub waits : (i : ℕ) → n ≤ i → v.waits i ≡ nobody

-- of all jobs, of which there are n
pub record Scanning (v : View) (n t : ℕ) : Type 0 where
  pub seeing : Seeing v t
  pub beyond : Beyond n v

-- of all jobs and the circles that they are on; of the circle whose lowest member is `low`; of job i and its circle
pub record Circled (v : View) (n t : ℕ) (circles : List ℕ) : Type 0 where
  pub scanning : Scanning v n t
  pub circles_are : circles ≡ circles_of v.waits

pub record Seeking (v : View) (n t : ℕ) (circles : List ℕ) (low : ℕ) : Type 0 where
  pub circled : Circled v n t circles
  pub lowest : low < 32

pub record Offered (v : View) (t i : ℕ) (circles : List ℕ) : Type 0 where
  pub step : Stepping v t i start
  pub circles_are : circles ≡ circles_of v.waits

-- of whom the first n jobs wait for; the others wait for nobody
pub record Waiting (n : ℕ) (waits : ℕ → ℕ) : Type 0 where
  pub few : n ≤ 32
  pub others : (i : ℕ) → n ≤ i → waits i ≡ nobody
