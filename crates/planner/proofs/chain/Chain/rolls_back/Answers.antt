-- `planner::chain::Chain::rolls_back` meets its contract.
use mathlib.Core.Path.{sym, ◌∙◌}
use Rattle.gus.specs.Choice.{by_density}
use Rattle.invariants.specs.Fair.{by-density-fair}
use Rattle.planner.specs.Seen.{seen_by}
use Rattle.planner.specs.Choosing.{chosen_last, chosen-already, chosen-never, chosen, chosen-lost}
use Rattle.planner.proofs.chain.Chain.rolls_back.Goals as goal
use Rattle.planner.proofs.chain.Chain.rolls_back.Goals.{then-k-ge31-via-then-k-ge31, then-k-ge31-via-else-k-ge31+then-cell-eq-NEVER}

pub returns-then-rolls : goal.returns-then-rolls
returns-then-rolls c = let a = c.args in chosen-already by_density (seen_by a.self.now.view.now) a.self.now.view.now.moment a.self.now.members.now a.k a.c c.from-job.ensures by-density-fair (sym c.rolls.ensures ∙ c.if-rolls.true)

pub returns-then-k-ge31 : goal.returns-then-k-ge31
returns-then-k-ge31 c =
    let a = c.args in
    elim c.then-k-ge31.branch [
      | then-k-ge31-via-then-k-ge31 w ↦ chosen_last by_density (seen_by a.self.now.view.now) a.self.now.view.now.moment a.self.now.members.now a.k a.c c.from-job.ensures w.if-k-ge31.true (sym c.rolls.ensures ∙ c.if-rolls.false)
      | then-k-ge31-via-else-k-ge31+then-cell-eq-NEVER w ↦ chosen-never by_density (seen_by a.self.now.view.now) a.self.now.view.now.moment a.self.now.members.now a.k a.c c.from-job.ensures by-density-fair w.if-k-ge31.false (sym c.rolls.ensures ∙ c.if-rolls.false) (sym w.cell.ensures.value ∙ w.if-cell-eq-NEVER.true)
    ]

pub returns-then-c : goal.returns-then-c
returns-then-c c = let a = c.args in chosen (seen_by a.self.now.view.now) a.self.now.view.now.moment a.self.now.members.now a.k a.c _ _ c.if-k-ge31.false c.from-job.ensures (sym c.rolls.ensures ∙ c.if-rolls.false) (λ e. c.if-cell-eq-NEVER.false (c.cell.ensures.value ∙ e)) c.better_undone.ensures

pub returns-else-c : goal.returns-else-c
returns-else-c c = let a = c.args in c.if-c.false ∙ chosen-lost (seen_by a.self.now.view.now) a.self.now.view.now.moment a.self.now.members.now a.k a.c _ c.if-k-ge31.false c.from-job.ensures (sym c.rolls.ensures ∙ c.if-rolls.false) (λ e. c.if-cell-eq-NEVER.false (c.cell.ensures.value ∙ e)) c.if-c.false
