use Rattle.text.proofs.Writer.{copied}
use Rattle.text.proofs.word.Writer.word.Goals as goal

pub returns : goal.returns
returns c = copied c.args.self.now c.args.word.now _ c.requires c.copy_from_slice.ensures.after
