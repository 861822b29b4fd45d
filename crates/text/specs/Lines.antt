-- The listing's lines: "Victim count, then the victims if any; job, mode (N normal, A rollback), time, start; sum, end, rounds.
-- A refused book prints `refused NUMBER at PLACE` alone."
use Rattle.std.specs.Prelude.{Bool, true, false, cond, List, [], ◌∷◌, ◌++◌, ℕ, ◌+◌, ltb, ℤ, length}
use Rattle.gus.specs.declared.Part.{Part}
use Rattle.text.specs.Decimal.{ascii, signed, labelled}

-- "Victim count, then the victims if any"
unfoldable pub victim_words : List ℕ → List ℕ
victim_words [] = []
victim_words (v ∷ vs) = labelled (ascii " ") v ++ victim_words vs

unfoldable pub victims_line : List ℕ → List ℕ
victims_line vs = labelled (ascii "victims ") (length vs) ++ victim_words vs ++ ascii "\n"

-- "job, mode (N normal, A rollback), time, start"
unfoldable pub mode_word : Bool → List ℕ
mode_word rolling = cond rolling (ascii " A ") (ascii " N ")

unfoldable pub part_line : ℕ → Part → List ℕ
part_line start p = labelled (ascii "part ") p.job ++ labelled (mode_word p.rolling) p.time ++ labelled (ascii " at ") start ++ ascii "\n"

-- each part starts where the one before it ends
unfoldable pub part_lines : ℕ → List Part → List ℕ
part_lines start [] = []
part_lines start (p ∷ ps) = part_line start p ++ part_lines (start + p.time) ps

-- "sum, end, rounds"
unfoldable pub close_line : ℤ → ℕ → ℕ → List ℕ
close_line total end rounds = ascii "total " ++ signed total ++ labelled (ascii " end ") end ++ labelled (ascii " rounds ") rounds ++ ascii "\n"

unfoldable pub refused_line : ℕ → ℕ → List ℕ
refused_line number place = labelled (ascii "refused ") number ++ labelled (ascii " at ") place ++ ascii "\n"

-- a text, unless a refusal stands for it: `refused NUMBER at PLACE` is printed alone
unfoldable pub unless_refused : ℕ → ℕ → List ℕ → List ℕ
unless_refused number place text = elim (ltb 0 number) [ true ↦ refused_line number place | false ↦ text ]
