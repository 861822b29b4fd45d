-- `text::word::Writer::words`: the words of the victims from the loop's on are still to be written.
use Rattle.text.specs.Decimal.{ascii}
use Rattle.text.proofs.Writer.{word_room, word-next, words_ended}
use Rattle.text.proofs.word.Writer.words.Goals as goal

pub field-requires : goal.field-requires
unfolding ascii
field-requires c = let l = c.loop-job in word_room c.args.victims.now l.job-index l.invariant c.loop-job-test.true (c.type_inv.victims l.job-index) c.requires

pub loop-job-preserved : goal.loop-job-preserved
unfolding ascii
loop-job-preserved c = let l = c.loop-job in word-next c.args.victims.now l.job-index l.invariant c.loop-job-test.true (c.type_inv.victims l.job-index) c.field.ensures

pub returns : goal.returns
returns c = let l = c.loop-job in words_ended c.args.victims.now l.job-index l.invariant c.loop-job-test.false
