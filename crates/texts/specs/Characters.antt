-- Numbers, texts and lines as bytes of ASCII.
use Rattle.std.specs.Prelude.{ℕ, zero, suc, ◌+◌, ◌/◌, ◌%◌, true, false, cond, List, ◌∷◌, ◌++◌, [], ltb, eqb}
use Prim.Native.Char.{code}
use Prim.Native.String.{String, ◌∷◌ as ◌then◌, [] as none}

-- at most n + 1 digits of a number in decimal, and all of them where it is below 10 ^ (n + 1); digit 0 is byte 48
unfoldable pub digits : ℕ → ℕ → List ℕ
digits zero x = (x % 10 + 48) ∷ []
digits (suc n) x = elim (ltb x 10) [ true ↦ (x + 48) ∷ [] | false ↦ digits n (x / 10) ++ (x % 10 + 48) ∷ [] ]

-- all digits, without leading zeros: a number has no more digits than it counts, and 0 has one
unfoldable pub decimal : ℕ → List ℕ
decimal x = digits x x

-- a text's bytes
unfoldable pub ascii : String → List ℕ
ascii none = []
ascii (c then cs) = code c ∷ ascii cs

-- texts as lines, with a newline, byte 10, after each
unfoldable pub lines_of : List String → List ℕ
lines_of [] = []
lines_of (t ∷ ts) = ascii t ++ 10 ∷ lines_of ts

-- the first line of a text, without its newline, and the lines after it
unfoldable pub first_line : List ℕ → List ℕ
first_line [] = []
first_line (c ∷ cs) = cond (eqb c 10) [] (c ∷ first_line cs)

unfoldable pub later_lines : List ℕ → List ℕ
later_lines [] = []
later_lines (c ∷ cs) = cond (eqb c 10) cs (later_lines cs)

-- a text from line n on, and line n without its newline; lines count from 0
unfoldable pub lines_from : ℕ → List ℕ → List ℕ
lines_from zero text = text
lines_from (suc n) text = lines_from n (later_lines text)

unfoldable pub line_at : ℕ → List ℕ → List ℕ
line_at n text = first_line (lines_from n text)

-- All of the above, for a proof by computation: `unfolding characters` opens it.
unfoldable pub characters : Unit {0}
unfolding digits decimal ascii lines_of first_line later_lines lines_from line_at
characters = tt
