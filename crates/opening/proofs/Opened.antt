-- FROM AN ACCEPTED STRING OF BYTES to what the planner relies on.
use Rattle.std.specs.Prelude.{ℕ, ◌≤◌, ◌≡◌, Bool, List, nat_abs, length, get_or}
use Rattle.curve.specs.Worth.{amount}
use Rattle.book.specs.Read.{Book}
use Rattle.book.specs.Format.{book_of}
use Rattle.accepted.specs.Good.{Good}
use Rattle.accepted.proofs.Good.{accepted-good}
use Rattle.gus.specs.Waits.{holder_of}
use Rattle.gus.specs.Victims.{knot_of}
use Rattle.invariants.specs.Sound.{Sound}
use Rattle.invariants.specs.End.{Small}
use Rattle.opening.specs.Start.{jobs_from, pay_from}
use Rattle.opening.proofs.Sound.{sound-from}
use Rattle.opening.proofs.Holders.{holders-agree}
use Rattle.opening.specs.Small.{small-from}
use Rattle.opening.specs.Pay.{pay-within}
use Rattle.opening.specs.Planned.{view_from, Planned}
use Rattle.opening.proofs.Planned.{planned}

pub record Opened (b : Book) : Type 0 where
  pub now : b.now ≤ 2147483647
  pub sound : Sound (jobs_from b)
  pub small : Small (jobs_from b)
  pub worth : (rolling : Bool) (i t : ℕ) → nat_abs (amount (pay_from b rolling i t)) ≤ 1000000
  pub holders_size : length b.holders ≡ 32
  pub holders : (r : ℕ) → get_or b.holders r 255 ≡ holder_of (jobs_from b) r
  pub planned : 32 ≤ knot_of (view_from b) b.now → Planned b

pub opened : {b : Book} → Good b → Opened b
opened g = record {
  now = g.now;
  sound = sound-from g;
  small = small-from g;
  worth = pay-within g;
  holders_size = g.holders_size;
  holders = holders-agree g;
  planned = planned g;
}

pub accepted-opened : (s : List ℕ) → (book_of s).number ≡ 0 → Opened (book_of s)
accepted-opened s h = opened (accepted-good s h)
