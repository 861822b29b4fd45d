-- What the writers leave in the sheet.
use Rattle.std.specs.Prelude.{◌≡◌, Bool, true, false, cond, List, [], ◌∷◌, ℕ, ◌+◌, ◌*◌, ◌<◌, ◌≤◌, ltb, eqb, get_or, set}
use Rattle.std.proofs.Common.{arith}
use borrow.Author.Tests.{lt-ltb, le-ltb, eq-eqb, ne_eqb}
use Rattle.laws.specs.Count.{upto}
use Rattle.job.specs.declared.Held.{Held}
use Rattle.job.specs.declared.Job.{Job}
use Rattle.job.specs.Held.{free}
use Rattle.gus.specs.Waits.{nobody}
use Rattle.planner.specs.Sheet.{cell, asks_in}

-- number k of job i's row becomes n
abbrev pub put : ℕ → ℕ → ℕ → List ℕ → List ℕ
put k i n sheet = set sheet (9 * i + k) n

-- whom job i waits for, and how long that one needs what i requests
unfoldable pub linked : ℕ → ℕ → ℕ → ℕ → List ℕ → List ℕ
linked i waits hold undo sheet = put 3 i undo (put 2 i hold (put 4 i waits sheet))

abbrev pub mode_of : Bool → ℕ
mode_of rolling = cond rolling 1 0

-- job i's own numbers; it is linked to nobody yet
unfoldable pub owned : ℕ → ℕ → ℕ → Bool → ℕ → List ℕ → List ℕ
owned i run rollback rolling asks sheet = linked i nobody 0 0 (put 8 i asks (put 5 i (mode_of rolling) (put 1 i rollback (put 0 i run sheet))))

-- row i, of one who asks for what the job then has so: it waits for the job where that has it, and where it waited for the job and that gave
-- it up, for nobody
unfoldable pub relinked_row : ℕ → Held → ℕ → List ℕ → List ℕ
relinked_row job h i sheet = elim (ltb 0 h.hold) [
  | true ↦ linked i job h.hold h.rollback sheet
  | false ↦ elim (eqb (cell 4 sheet 0 i) job) [ true ↦ linked i nobody 0 0 sheet | false ↦ sheet ]
]

-- the same by what row i's job asks for, where it asks for something
unfoldable pub relinked_at : ℕ → List Held → ℕ → List ℕ → List ℕ
relinked_at job held i sheet = elim (ltb (asks_in sheet i) 32) [
  | true ↦ relinked_row job (get_or held (asks_in sheet i) free) i sheet
  | false ↦ sheet
]

-- THE SHEET AFTER A PART of this job, which then is j: its own row written anew, and then every row linked anew
unfoldable pub reworked : ℕ → Job → List ℕ → List ℕ
reworked job j sheet = upto (relinked_at job j.held) 32 (owned job j.run j.rollback j.rolling j.request.resource sheet)

-- a victim's row
unfoldable pub sent_row : ℕ → List ℕ → List ℕ
sent_row i sheet = linked i nobody 0 0 (put 8 i nobody (put 5 i 1 sheet))

-- a turn for each of a list, one after the other
unfoldable pub turns : (ℕ → List ℕ → List ℕ) → List ℕ → List ℕ → List ℕ
turns f [] sheet = sheet
turns f (i ∷ is) sheet = turns f is (f i sheet)

-- the rows of these victims
abbrev pub sent_rows : List ℕ → List ℕ → List ℕ
sent_rows is sheet = turns sent_row is sheet

module _ (job : ℕ) (h : Held) (i : ℕ) (sheet : List ℕ) where
  pub row-taken : 0 < h.hold → relinked_row job h i sheet ≡ linked i job h.hold h.rollback sheet
  unfolding relinked_row
  row-taken l = rw (lt-ltb 0 h.hold l, relinked_row)

  pub row-given-up : h.hold ≤ 0 → cell 4 sheet 0 i ≡ job → relinked_row job h i sheet ≡ linked i nobody 0 0 sheet
  unfolding relinked_row
  row-given-up l e = rw (le-ltb 0 h.hold l, eq-eqb (cell 4 sheet 0 i) job e, relinked_row)

  pub row-unmoved : h.hold ≤ 0 → (cell 4 sheet 0 i ≡ job → ⊥) → relinked_row job h i sheet ≡ sheet
  unfolding relinked_row
  row-unmoved l ne = rw (le-ltb 0 h.hold l, ne_eqb (cell 4 sheet 0 i) job ne, relinked_row)

module _ (job : ℕ) (held : List Held) (i : ℕ) (sheet : List ℕ) {r : ℕ} (e : r ≡ asks_in sheet i) where
  pub turn-asking : r < 32 → relinked_at job held i sheet ≡ relinked_row job (get_or held r free) i sheet
  unfolding relinked_at
  turn-asking l = rw (e, lt-ltb (asks_in sheet i) 32 (omega arith), relinked_at)

  -- who asks for nothing is passed over
  pub turn-none : 32 ≤ r → relinked_at job held i sheet ≡ sheet
  unfolding relinked_at
  turn-none l = rw (le-ltb (asks_in sheet i) 32 (omega arith), relinked_at)
