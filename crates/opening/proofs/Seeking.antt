-- The lemmas of the search in a held list, for the check to use.
use Rattle.opening.specs.Taken.{held-past}
use Rattle.opening.specs.Sought.{sought-begin, sought-some, sought-found, sought-on, sought-none}

pub ruleset seeking = (held-past, sought-begin, sought-some, sought-found, sought-on, sought-none)
