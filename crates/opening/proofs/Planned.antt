-- What rests on specs/Planned.antt.
use Rattle.std.specs.Prelude.{◌≤◌, nat_abs}
use Rattle.std.proofs.Common.{arith}
use Rattle.laws.specs.Signed.{abs_is}
use Rattle.book.specs.Read.{Book}
use Rattle.accepted.specs.Good.{Good}
use Rattle.gus.specs.Choice.{by_density}
use Rattle.gus.specs.Victims.{knot_of}
use Rattle.gus.specs.Plan.{answer_to}
use Rattle.invariants.specs.Waiting.{Ready}
use Rattle.invariants.specs.Fair.{by-density-fair}
use Rattle.invariants.proofs.Replay.{replay-ready}
use Rattle.invariants.specs.Rounds.{Replayed}
use Rattle.invariants.proofs.Rounds.{replayed}
use Rattle.invariants.proofs.Bound.{rounds_few, parts_few}
use Rattle.invariants.proofs.Bound.{total-within, end-within}
use Rattle.invariants.proofs.Start.{ready-settled}
use Rattle.opening.specs.Start.{pay_from}
use Rattle.opening.proofs.Sound.{sound-from}
use Rattle.opening.specs.Small.{small-after-all}
use Rattle.opening.specs.Pay.{pay-within}
use Rattle.opening.specs.Modest.{modest}
use Rattle.opening.specs.Planned.{Planned, answer_from, few, few_victims, small, start_from, view_from}

module _ {b : Book} (g : Good b) (none : 32 ≤ knot_of (view_from b) b.now) where
  starts : Ready (start_from b)
  starts = ready-settled (pay_from b) b.now (sound-from g) none

  runs : Replayed by_density (pay_from b) (start_from b) b.now (answer_from b).plan
  unfolding answer_to
  runs = replayed (pay_from b) by-density-fair 32 (start_from b) b.now (omega (arith, (few g none), g.jobs)) starts

  small-total : nat_abs (answer_from b).plan.total ≤ 32000000
  small-total = omega (arith, total-within starts.sound runs 1000000 (pay-within g), (few g none), g.jobs)

  pub planned : Planned b
  planned = record {
    ready = starts;
    small = (small g none);
    modest = λ ps r. modest (pay_from b) (pay-within g) (replay-ready r starts).sound (small-after-all (small g none) ps);
    replayed = runs;
    victims = (few_victims g none);
    parts = parts_few starts.sound runs;
    rounds = omega (arith, runs.few, (few g none));
    rounds_most = rounds_few starts.sound runs;
    total_some = runs.never_less;
    total_most = omega (arith, small-total, abs_is (answer_from b).plan.total);
    end = end-within starts.sound runs (small g none);
  }
