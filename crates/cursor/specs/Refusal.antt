-- The numbers of 01's table "What a refusal says".
use Rattle.std.specs.Prelude.{ℕ}

abbrev pub ROOM : ℕ
ROOM = 1

abbrev pub SIZE : ℕ
SIZE = 2

abbrev pub VERSION : ℕ
VERSION = 3

abbrev pub COUNT : ℕ
COUNT = 4

abbrev pub CUT : ℕ
CUT = 5

abbrev pub RANGE : ℕ
RANGE = 6

abbrev pub TWICE : ℕ
TWICE = 7

abbrev pub MODE : ℕ
MODE = 8

abbrev pub TAIL : ℕ
TAIL = 9

abbrev pub KNOT : ℕ
KNOT = 10
