use Rattle.std.proofs.Common.{drop}
use Rattle.text.specs.Lines.{victim_words}
use Rattle.text.proofs.Writer.{Goes}
use Rattle.text.proofs.word.Writer.words.Given as goal

abbrev pub invariant-loop-job : goal.invariant-loop-job
invariant-loop-job l = Goes l.initial.self l.self (victim_words l.victims) (victim_words (drop l.job-index l.victims))
