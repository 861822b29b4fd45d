-- One result: what a contract allows, said of its arguments, its result and what is lent at the end.
use Rattle.std.specs.Prelude.{◌≡◌}

-- two results that are allowed for the same arguments are the same, whatever the arguments are afterwards
abbrev pub Only : {A R S : Type 0} → (A → R → S → Type 0) → Type 0
Only {A} {R} {S} allowed = (a : A) (r r' : R) (s s' : S) → allowed a r s → allowed a r' s' → r ≡ r'

-- and so is what stands in something lent
abbrev pub SameOut : {A R S B : Type 0} → (S → B) → (A → R → S → Type 0) → Type 0
SameOut {A} {R} {S} out allowed = (a : A) (r r' : R) (s s' : S) → allowed a r s → allowed a r' s' → out s ≡ out s'
