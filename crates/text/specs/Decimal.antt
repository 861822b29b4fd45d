-- Words and numbers as text: the ASCII codes of their letters and digits.
use Rattle.std.specs.Prelude.{true, false, List, [], ◌∷◌, ◌++◌, ℕ, zero, suc, ◌+◌, ◌/◌, ◌%◌, ltb, ℤ, pos, negsuc}
use Prim.Native.Char.{code}
use Prim.Native.String.{String}
use Prim.Native.String as string

unfoldable pub ascii : String → List ℕ
ascii string.[] = []
ascii (string.◌∷◌ c s) = code c ∷ ascii s

-- in decimal, with at most `most` digits: those of a tenth, and then the last one
unfoldable pub digits : ℕ → ℕ → List ℕ
digits zero n = []
digits (suc most) n = elim (ltb n 10) [ true ↦ (48 + n) ∷ [] | false ↦ digits most (n / 10) ++ ((48 + n % 10) ∷ []) ]

-- no number has more digits than that
unfoldable pub decimal : ℕ → List ℕ
decimal n = digits (suc n) n

-- a number that may be below zero
unfoldable pub signed : ℤ → List ℕ
signed (pos n) = decimal n
signed (negsuc n) = ascii "-" ++ decimal (suc n)

-- a word, and a number after it
abbrev pub labelled : List ℕ → ℕ → List ℕ
labelled word n = word ++ decimal n
