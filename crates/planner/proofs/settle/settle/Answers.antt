-- `planner::settle::settle` meets its contract: what is left of the victims leads to where all of them lead.
use Rattle.std.proofs.Common.{◌<◌, arith, get_or-take}
use Rattle.planner.specs.Settling.{victims-long, settling-next, settling-ended}
use Rattle.planner.proofs.settle.settle.Goals as goal

pub loop-victim-preserved : goal.loop-victim-preserved
loop-victim-preserved c =
    let i = c.loop-victim.invariant in
    let more : c.loop-victim.victim-index < c.args.v.count = omega (arith, victims-long c.requires) in
    let job = rw get_or-take at c.from-job.ensures in
    (rw job (settling-next c.requires i.0 more (rw job at c.sent_back.ensures)), i.1, i.2)

pub returns : goal.returns
returns c =
    let i = c.loop-victim.invariant in
    let jobs = settling-ended c.requires i.0 (omega (arith, victims-long c.requires)) in
    λ k. record { jobs = jobs k; holders = i.1 k; sheet = i.2 k }
