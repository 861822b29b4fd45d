-- One entry more of a held list is laid; one for a resource past the last changes nothing.
use Rattle.std.proofs.Common.{ℕ, ◌+◌, ◌*◌, ◌<◌, ◌≤◌, ◌≡◌, List, length, set, arith, add-one, sym, ap, ◌∙◌}
use Rattle.std.proofs.Math.Seq.{set_out}
use Rattle.laws.specs.Count.{upto}
use Rattle.job.specs.declared.Held.{Held}
use Rattle.book.specs.declared.Entry.{Entry}
use Rattle.accepted.specs.Layout.{held_at}
use Rattle.opening.specs.Start.{held_of_entry}
use Rattle.opening.specs.Taken.{head_in, held_in, held-size, entry-inside}

pub laid_next : (s : List ℕ) (p k : ℕ) {held : List Held} {e : Entry} → held ≡ held_in s p k → e ≡ held_at s p k → set held e.resource (held_of_entry e) ≡ held_in s p (k + 1)
unfolding upto
laid_next s p k h q = rw (h, q, add-one k)

pub laid_past : (s : List ℕ) (p k : ℕ) {held : List Held} {e : Entry} → held ≡ held_in s p k → e ≡ held_at s p k → 32 ≤ e.resource → held ≡ held_in s p (k + 1)
laid_past s p k {held} {e} h q far =
    sym (set_out held e.resource (held_of_entry e) (omega (arith, ap length h, held-size s p k))) ∙ laid_next s p k h q

-- an entry that a head counts is there
pub listed_ends : (s : List ℕ) (p k : ℕ) → k < (head_in s p).holds → p + 11 + 5 * k + 5 ≤ length s
listed_ends s p k h = omega (arith, entry-inside s p k h)

pub ruleset laying = (laid_next, laid_past)
