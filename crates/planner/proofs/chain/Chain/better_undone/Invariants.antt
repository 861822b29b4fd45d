use Rattle.std.specs.Prelude.{◌+◌}
use Rattle.planner.specs.Seen.{seen_by}
use Rattle.planner.specs.Lost.{credited}
use Rattle.planner.specs.Reckoning.{Reckoning}
use Rattle.planner.proofs.chain.Chain.better_undone.Given as goal

-- neither course has none among its credits yet
abbrev pub invariant-loop-i : goal.invariant-loop-i
invariant-loop-i l =
    Reckoning (seen_by l.self.view.now) l.self.view.now.moment l.self.members.now (l.k + 1) (credited l.initial.time l.initial.gain) (credited l.time l.gain) l.i
    × Reckoning (seen_by l.self.view.now) l.self.view.now.moment l.self.members.now (l.k + 1) (credited l.initial.undone_time l.initial.undone_gain) (credited l.undone_time l.undone_gain) l.i
