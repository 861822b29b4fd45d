-- What a finish pays is at most a million, gained or lost.
use Rattle.std.specs.Prelude.{ℕ, ◌≤◌, ◌≡◌, refl, Bool, true, false, ltb, nat_abs, None}
use Rattle.std.proofs.Common.{zero-le, inl, inr}
use Rattle.laws.specs.Search.{lt-or-le}
use Rattle.cursor.specs.Outcome.{by-test}
use Rattle.curve.specs.Worth.{worth_in, worth_at, amount}
use Rattle.book.specs.Read.{Book}
use Rattle.book.specs.Format.{empty_record}
use Rattle.accepted.specs.Good.{Good, worth-small}
use Rattle.opening.specs.Start.{pay_from}

-- a job that is not there has a worth at no moment
pub no-worth : (t : ℕ) → worth_at empty_record.curve t ≡ None
unfolding worth_at worth_in
no-worth t = by-test (ltb 0 t) None None (λ w. w ≡ None) (λ y. refl) (λ y. refl)

pub pay-within : {b : Book} → Good b → (rolling : Bool) (i t : ℕ) → nat_abs (amount (pay_from b rolling i t)) ≤ 1000000
pay-within {b} g true i t = zero-le
pay-within {b} g false i t = elim (lt-or-le i b.jobs) [
  | inl l ↦ worth-small (g.each i l) t
  | inr l ↦ rw (g.past i l, no-worth t) zero-le
]
