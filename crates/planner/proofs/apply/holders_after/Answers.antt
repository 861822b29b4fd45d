-- `planner::apply::holders_after` meets its contract.
use borrow.Author.Rules.{rules}
use mathlib.Core.Path.{refl}
use lib.ListN.{get_or}
use Rattle.std.specs.Prelude.{ℕ}
use Rattle.job.specs.Held.{free}
use Rattle.invariants.specs.Holders.{holder_after}
use Rattle.planner.specs.Applied.{holders_after}
use Rattle.planner.proofs.Filled.{filled}
use Rattle.planner.proofs.apply.holders_after.Goals as goal

pub returns : goal.returns
unfolding holders_after
returns c =
    let new : ℕ → ℕ → ℕ = λ r. holder_after c.args.job (get_or c.args.held.now r free).hold in
    filled _ (λ r. new r (get_or c.args.holders r 0)) _ _ c.args.holders new 0 (λ x r q l h. (search rules, search rules)) c.from_fn.ensures.items (search rules) (λ k l. refl)
