-- `opening::field::field_there` meets its contract.
use mathlib.Core.Path.{◌∙◌}
use borrow.Author.Rules.{rules}
use Rattle.cursor.specs.Value.{value-of-part}
use Rattle.opening.proofs.field.field_there.Goals as goal

pub returns : goal.returns
returns c =
    let a = c.args in
    (c.value_at.ensures.0 ∙ value-of-part a.s.now a.place a.n (search rules), c.value_at.ensures.1)
