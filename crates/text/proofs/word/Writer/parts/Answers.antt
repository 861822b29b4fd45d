-- `text::word::Writer::parts`: the lines of the parts from the loop's on are still to be written, and it starts at `start`.
use native.Mathlib.Omega.{arith}
use Rattle.text.proofs.Writer.{line_room, line-next, lines_ended}
use Rattle.text.proofs.word.Writer.parts.Goals as goal

pub part-requires : goal.part-requires
part-requires c = let l = c.loop-p in line_room c.args.first l.start c.args.parts.now l.p-index l.invariant.goes c.loop-p-test.true c.requires.2

pub loop-p-preserved : goal.loop-p-preserved
loop-p-preserved c =
    let l = c.loop-p in
    record {
      soon = omega arith;
      goes = rw c.from-start.ensures (line-next c.args.first l.start c.args.parts.now l.p-index l.invariant.goes c.loop-p-test.true c.part.ensures);
    }

pub returns : goal.returns
returns c = let l = c.loop-p in lines_ended c.args.first l.start c.args.parts.now l.p-index l.invariant.goes c.loop-p-test.false
