-- What the line program writes: for one line of its input, without the newlines, and for a whole input. Bytes are ASCII: 48 is 0, 65 is A,
-- 97 is a, and 32 a space. Definitions only.
use Rattle.std.specs.Prelude.{ℕ, zero, suc, ◌+◌, ◌-◌, ◌*◌, ◌/◌, ◌%◌, ◌^◌, Bool, true, cond, ◌&&◌, ◌||◌, List, [], ◌∷◌, ◌++◌, leb, ltb, eqb, length, get_or, take, drop}
use Rattle.definitions.specs.Format.{binary64}
use Rattle.definitions.specs.declared.Kind.TheVariants.{Truncated}
use Rattle.definitions.specs.Remainder.{Remainder, remainder, shown}

-- [10.1] a hex digit in either case
abbrev pub is_hex : ℕ → Bool
is_hex c = (leb 48 c && leb c 57) || (leb 65 c && leb c 70) || (leb 97 c && leb c 102)

abbrev pub digit_of : ℕ → ℕ
digit_of c = cond (leb c 57) (c - 48) (cond (leb c 70) (c - 55) (c - 87))

abbrev pub all_hex : List ℕ → Bool
all_hex [] = true
all_hex (c ∷ cs) = is_hex c && all_hex cs

-- the number that hex digits stand for, most significant first, after those that stand for n
abbrev pub hex_value : ℕ → List ℕ → ℕ
hex_value n [] = n
hex_value n (c ∷ cs) = hex_value (n * 16 + digit_of c) cs

-- [10.1] 16 of them, a space, 16 of them
unfoldable pub well_formed : List ℕ → Bool
well_formed line = eqb (length line) 33 && all_hex (take 16 line) && eqb (get_or line 16 0) 32 && all_hex (drop 17 line)

-- a digit from 0 to 15, in upper case
abbrev pub upper_hex : ℕ → ℕ
upper_hex d = cond (ltb d 10) (48 + d) (55 + d)

-- the k low hex digits of n, most significant first
abbrev pub hex_digits : ℕ → ℕ → List ℕ
hex_digits zero n = []
hex_digits (suc k) n = upper_hex (n / 16 ^ k % 16) ∷ hex_digits k n

-- [10.2] the line of an answer
unfoldable pub answer_line : Remainder → List ℕ
answer_line r = hex_digits 16 r.value ++ (32 ∷ (48 + shown r.quotient) ∷ 32 ∷ (48 + r.number) ∷ [])

-- [10.3] the line of any other: bad line
abbrev pub bad_line : List ℕ
bad_line = 98 ∷ 97 ∷ 100 ∷ 32 ∷ 108 ∷ 105 ∷ 110 ∷ 101 ∷ []

-- the output line of an input line
unfoldable pub line_for : List ℕ → List ℕ
unfolding well_formed answer_line
line_for line = let a = answer_line (remainder binary64 Truncated (hex_value 0 (take 16 line)) (hex_value 0 (drop 17 line))) in cond (well_formed line) a bad_line

-- ---- a whole input
abbrev pub newline : ℕ
newline = 10

-- [10.4] a line that is written
abbrev pub answered : List ℕ → List ℕ
answered line = line_for line ++ (newline ∷ [])

-- one byte more after a line that has begun: what is written for it, and the line that has then begun
abbrev pub written_at : List ℕ → ℕ → List ℕ
written_at line c = cond (eqb c newline) (answered line) []

abbrev pub begun_at : List ℕ → ℕ → List ℕ
begun_at line c = cond (eqb c newline) [] (line ++ (c ∷ []))

-- the same of many bytes
abbrev pub written : List ℕ → List ℕ → List ℕ
written line [] = []
written line (c ∷ cs) = written_at line c ++ written (begun_at line c) cs

abbrev pub begun : List ℕ → List ℕ → List ℕ
begun line [] = line
begun line (c ∷ cs) = begun (begun_at line c) cs

-- [10.4, 10.5] what is written for a last line without its newline
abbrev pub last_written : List ℕ → List ℕ
last_written [] = []
last_written (c ∷ cs) = answered (c ∷ cs)

unfoldable pub output_for : List ℕ → List ℕ
output_for input = written [] input ++ last_written (begun [] input)
