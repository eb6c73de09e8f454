-- Further examples, for what the users' table does not touch: every refusal of a call on patterns, and answers at the edges; and texts as
-- bytes, for the samples of lines in proofs/. Definitions only.
use Rattle.std.specs.Prelude.{ℕ, zero, suc, List, [], ◌∷◌, pos, negsuc}
use Prim.Native.Char.{code}
use Prim.Native.String.{String, len, char_at}
use Rattle.definitions.specs.Format.{binary16, binary32, binary64, x87}
use Rattle.definitions.specs.declared.Kind.TheVariants.{Truncated, Nearest}
use Rattle.definitions.specs.declared.Rounding.TheVariants.{Exact, Down}
use Rattle.definitions.specs.Reports.{nothing, block}
use Rattle.definitions.specs.Table.{Reading, reading, divide, divide_signed, step, two_steps, run, scale, split, value, signed_value, steps, scaled, parts}

-- every refusal, in every operation on patterns that knows it: the first number that applies, under 3 the NaN and else the house NaN, and
-- nothing else
unfoldable pub refusals : List Reading
refusals =
    -- 2: unnormals from the lowest field on, an infinity and a NaN without J; before a NaN on the other side
    reading (divide x87 Truncated 0x00017FFFFFFFFFFFFFFF 0x3FFF8000000000000000) (value 2 0x7FFFC000000000000000 0)
    ∷ reading (divide x87 Nearest 0x3FFF8000000000000000 0x40007FFFFFFFFFFFFFFF) (value 2 0x7FFFC000000000000000 0)
    ∷ reading (divide x87 Truncated 0x7FFF0000000000000000 0x7FFFC000000000000001) (value 2 0x7FFFC000000000000000 0)
    ∷ reading (divide x87 Nearest 0x7FFF4000000000000000 0x3FFF8000000000000000) (value 2 0x7FFFC000000000000000 0)
    ∷ reading (step nothing Truncated 63 0xFFFFA000000000000000 0x40007FFFFFFFFFFFFFFF) (steps 2 0x7FFFC000000000000000 0 0)
    ∷ reading (run nothing Nearest 63 0 0x40007FFFFFFFFFFFFFFF 0x00000000000000000000) (steps 2 0x7FFFC000000000000000 0 0)
    ∷ reading (scale x87 0x00010000000000000000 (pos 1)) (scaled 2 0x7FFFC000000000000000 Exact)
    ∷ reading (split x87 0x7FFF0000000000000000) (parts 2 0x7FFFC000000000000000 (pos 0))
    -- 3: a NaN, before an infinite dividend and a zero divisor
    ∷ reading (divide binary16 Truncated 0xFC01 0x0000) (value 3 0xFE01 0)
    ∷ reading (divide binary32 Nearest 0x7F800000 0x7FC00001) (value 3 0x7FC00001 0)
    ∷ reading (divide binary64 Truncated 0xFFF8000000000000 0x3FF0000000000000) (value 3 0xFFF8000000000000 0)
    ∷ reading (step nothing Nearest 32 0x7FFF8000000000000000 0xFFFFA000000000000000) (steps 3 0xFFFFE000000000000000 0 0)
    ∷ reading (run nothing Truncated 32 9 0x7FFFC000000000000001 0x00000000000000000000) (steps 3 0x7FFFC000000000000001 0 0)
    ∷ reading (scale binary64 0x7FF0000000000001 (negsuc 0)) (scaled 3 0x7FF8000000000001 Exact)
    ∷ reading (split binary32 0xFFC00000) (parts 3 0xFFC00000 (pos 0))
    -- 4: an infinite dividend, before a zero divisor; an infinity that is split
    ∷ reading (divide binary32 Truncated 0xFF800000 0x00000000) (value 4 0x7FC00000 0)
    ∷ reading (divide binary16 Nearest 0x7C00 0x7C00) (value 4 0x7E00 0)
    ∷ reading (step nothing Truncated 40 0x7FFF8000000000000000 0x00000000000000000000) (steps 4 0x7FFFC000000000000000 0 0)
    ∷ reading (run nothing Nearest 40 0 0x7FFF8000000000000000 0x3FFF8000000000000000) (steps 4 0x7FFFC000000000000000 0 0)
    ∷ reading (split binary64 0xFFF0000000000000) (parts 4 0x7FF8000000000000 (pos 0))
    -- 5: a zero divisor, of a zero too
    ∷ reading (divide binary64 Nearest 0x0000000000000001 0x8000000000000000) (value 5 0x7FF8000000000000 0)
    ∷ reading (divide binary16 Truncated 0x8000 0x0000) (value 5 0x7E00 0)
    ∷ reading (step nothing Nearest 63 0x3FFF8000000000000000 0x00000000000000000000) (steps 5 0x7FFFC000000000000000 0 0)
    ∷ reading (run nothing Truncated 63 4294967295 0x3FFF8000000000000000 0x00000000000000000000) (steps 5 0x7FFFC000000000000000 0 0)
    -- 6: a size below 32 or above 63, before any operand
    ∷ reading (step nothing Truncated 31 0x3FFF8000000000000000 0x3FFF8000000000000000) (steps 6 0x7FFFC000000000000000 0 0)
    ∷ reading (step nothing Nearest 64 0x00010000000000000000 0x00000000000000000000) (steps 6 0x7FFFC000000000000000 0 0)
    ∷ reading (run nothing Truncated 0 5 0x7FFFC000000000000001 0x3FFF8000000000000000) (steps 6 0x7FFFC000000000000000 0 0)
    ∷ reading (run nothing Nearest 4294967295 5 0x3FFF8000000000000000 0x3FFF8000000000000000) (steps 6 0x7FFFC000000000000000 0 0)
    -- 8: a zero that is split
    ∷ reading (split binary16 0x8000) (parts 8 0x7E00 (pos 0))
    ∷ reading (split x87 0x00000000000000000000) (parts 8 0x7FFFC000000000000000 (pos 0))
    -- 9: a block that is not 20 bytes, before the size
    ∷ reading (step (block 19) Truncated 31 0x7FFFC000000000000001 0x00000000000000000000) (steps 9 0x7FFFC000000000000000 0 0)
    ∷ reading (run (block 21) Nearest 63 5 0x3FFF8000000000000000 0x3FFF8000000000000000) (steps 9 0x7FFFC000000000000000 0 0)
    ∷ reading (step (block 16) Nearest 63 0x3FFF8000000000000000 0x3FFF8000000000000000) (steps 9 0x7FFFC000000000000000 0 0)
    ∷ []

-- answers at the edges of these rules
unfoldable pub answered : List Reading
answered =
    -- the sizes 32 and 63, a block of 20 bytes, and a budget of 0, which leaves the dividend
    reading (step (block 20) Truncated 32 0x3FFF8000000000000000 0x3FFF8000000000000000) (steps 0 0x00000000000000000000 1 1)
    ∷ reading (step (block 20) Nearest 63 0x3FFF8000000000000000 0x3FFF8000000000000000) (steps 0 0x00000000000000000000 1 1)
    ∷ reading (run (block 20) Nearest 63 0 0x3FFF8000000000000000 0x3FFF8000000000000000) (steps 7 0x3FFF8000000000000000 0 0)
    -- runs that are spent, and what one step more gives: 2^66 by 3 at size 63, with quotient bits, and 2^128 by 3 at size 32, without
    ∷ reading (run nothing Truncated 63 1 0x40418000000000000000 0x4000C000000000000000) (steps 7 0x40018000000000000000 0x55555554 1)
    ∷ reading (run nothing Nearest 63 2 0x40418000000000000000 0x4000C000000000000000) (steps 0 0x3FFF8000000000000000 0x55555555 2)
    ∷ reading (run nothing Truncated 32 2 0x407F8000000000000000 0x4000C000000000000000) (steps 7 0x403F8000000000000000 0 2)
    ∷ reading (run nothing Nearest 32 3 0x407F8000000000000000 0x4000C000000000000000) (steps 0 0x3FFF8000000000000000 0x55555555 3)
    -- an infinite divisor
    ∷ reading (divide binary16 Nearest 0xBC01 0x7C00) (value 0 0xBC01 0)
    ∷ reading (step nothing Truncated 50 0xC0DE8123456789ABCDEF 0xFFFF8000000000000000) (steps 0 0xC0DE8123456789ABCDEF 0 1)
    -- zeros and infinities that are scaled
    ∷ reading (scale binary16 0x8000 (pos 9)) (scaled 0 0x8000 Exact)
    ∷ reading (scale binary64 0xFFF0000000000000 (negsuc 9999)) (scaled 0 0xFFF0000000000000 Exact)
    -- -6 is -1.5 times 2^2; small denormals
    ∷ reading (split binary32 0xC0C00000) (parts 0 0xBFC00000 (pos 2))
    ∷ reading (split binary16 0x0001) (parts 0 0x3C00 (negsuc 23))
    ∷ reading (split binary64 0x8000000000000003) (parts 0 0xBFF8000000000000 (negsuc 1072))
    ∷ reading (split x87 0x00000000000000000001) (parts 0 0x3FFF8000000000000000 (negsuc 16444))
    ∷ []

-- [2.4, 2.10] a leading digit with the field 0: the number that it is with the field 1, and is returned with that
unfoldable pub pseudo_denormals : List Reading
pseudo_denormals =
    -- a dividend: below its divisor, by infinity, and by the smallest denormal
    reading (divide x87 Truncated 0x00008000000000000000 0x3FFF8000000000000000) (value 0 0x00018000000000000000 0)
    ∷ reading (divide x87 Nearest 0x8000FFFFFFFFFFFFFFFF 0x7FFF8000000000000000) (value 0 0x8001FFFFFFFFFFFFFFFF 0)
    ∷ reading (divide x87 Truncated 0x80008000000000000005 0x00000000000000000001) (value 0 0x80000000000000000000 5)
    -- a divisor: one and a half of it, and the largest denormal
    ∷ reading (divide x87 Truncated 0x0001C000000000000000 0x00008000000000000000) (value 0 0x00004000000000000000 1)
    ∷ reading (divide x87 Nearest 0x0001C000000000000000 0x80008000000000000000) (value 0 0x80004000000000000000 2)
    ∷ reading (divide x87 Nearest 0x00007FFFFFFFFFFFFFFF 0x00008000000000000000) (value 0 0x80000000000000000001 1)
    -- both, and a value by its other pattern
    ∷ reading (divide x87 Truncated 0x0000FFFFFFFFFFFFFFFF 0x00008000000000000000) (value 0 0x00007FFFFFFFFFFFFFFF 1)
    ∷ reading (divide x87 Nearest 0x8000C000000000000000 0x0001C000000000000000) (value 0 0x80000000000000000000 1)
    -- steps and runs: a partial step by one, as reading 7, one by infinity, and a budget of 0
    ∷ reading (step nothing Nearest 63 0x00418000000000000000 0x0000C000000000000000) (steps 1 0x00018000000000000000 0x2AAAAAAA 1)
    ∷ reading (two_steps Nearest 63 0x00418000000000000000 0x0000C000000000000000) (steps 0 0x80004000000000000000 0x2AAAAAAB 2)
    ∷ reading (step nothing Truncated 32 0x80008000000000000001 0xFFFF8000000000000000) (steps 0 0x80018000000000000001 0 1)
    ∷ reading (run nothing Nearest 32 0 0x00008000000000000001 0x0000C000000000000000) (steps 7 0x00018000000000000001 0 0)
    -- two refused steps return nothing: the value is the dividend as given, and 7 stands for no number
    ∷ reading (two_steps Truncated 31 0x00008000000000000001 0x3FFF8000000000000000) (steps 7 0x00008000000000000001 0 0)
    -- scaled by 0, halved at a tie, doubled
    ∷ reading (scale x87 0x80008000000000000001 (pos 0)) (scaled 0 0x80018000000000000001 Exact)
    ∷ reading (scale x87 0x00008000000000000001 (negsuc 0)) (scaled 0 0x00004000000000000000 Down)
    ∷ reading (scale x87 0x00008000000000000001 (pos 1)) (scaled 0 0x00028000000000000001 Exact)
    -- split
    ∷ reading (split x87 0x8000C000000000000000) (parts 0 0xBFFFC000000000000000 (negsuc 16381))
    ∷ []

-- [3.6] quotients of more than three bits, all that is told of them
unfoldable pub long_quotients : List Reading
long_quotients =
    -- around 2^31, 2^32 and 3 times 2^30, by 1; 2^31 less a half goes to the even quotient
    reading (divide binary64 Truncated 0x41DFFFFFFFC00000 0x3FF0000000000000) (value 0 0x0000000000000000 2147483647)
    ∷ reading (divide binary64 Truncated 0x41E0000000000000 0x3FF0000000000000) (value 0 0x0000000000000000 0)
    ∷ reading (divide binary64 Nearest 0x41E0000000200000 0x3FF0000000000000) (value 0 0x0000000000000000 1)
    ∷ reading (divide binary64 Truncated 0x41F0000000000000 0x3FF0000000000000) (value 0 0x0000000000000000 0)
    ∷ reading (divide binary64 Nearest 0x41E8000000000000 0x3FF0000000000000) (value 0 0x0000000000000000 1073741824)
    ∷ reading (divide binary64 Truncated 0x41DFFFFFFFE00000 0x3FF0000000000000) (value 0 0x3FE0000000000000 2147483647)
    ∷ reading (divide binary64 Nearest 0x41DFFFFFFFE00000 0x3FF0000000000000) (value 0 0xBFE0000000000000 0)
    -- 2^65 by 3, size 63: the partial step of reading 7, and the step after it, added up; a part that ends in 32 zeros
    ∷ reading (step nothing Truncated 63 0x40408000000000000000 0x4000C000000000000000) (steps 1 0x40008000000000000000 0x2AAAAAAA 1)
    ∷ reading (two_steps Nearest 63 0x40408000000000000000 0x4000C000000000000000) (steps 0 0xBFFF8000000000000000 0x2AAAAAAB 2)
    ∷ reading (step nothing Truncated 32 0x40408000000000000000 0x4000C000000000000000) (steps 1 0x40208000000000000000 0 1)
    -- the same from C, a run that is spent, and finished steps of more than 31 bits: 3 times 2^30 and 2^32 - 1 by 1
    ∷ reading (run (block 20) Truncated 63 1 0x40408000000000000000 0x4000C000000000000000) (steps 7 0x40008000000000000000 0x2AAAAAAA 1)
    ∷ reading (step (block 20) Truncated 63 0x401EC000000000000000 0x3FFF8000000000000000) (steps 0 0x00000000000000000000 1073741824 1)
    ∷ reading (step nothing Nearest 32 0x401EFFFFFFFF00000000 0x3FFF8000000000000000) (steps 0 0x00000000000000000000 2147483647 1)
    -- parts that come to 2^31 together: 2^31 - 2 and 2
    ∷ reading (step nothing Nearest 63 0x407E80000001BFFFFFFE 0x403E80000001FFFFFFFF) (steps 1 0x403F80000001BFFFFFFF 2147483646 1)
    ∷ reading (two_steps Nearest 63 0x407E80000001BFFFFFFE 0x403E80000001FFFFFFFF) (steps 0 0xC01E8000000000000000 0 2)
    ∷ reading (run nothing Truncated 63 2 0x407E80000001BFFFFFFE 0x403E80000001FFFFFFFF) (steps 0 0x403E800000017FFFFFFF 2147483647 2)
    ∷ []

-- [3.8] quotients with their signs
unfoldable pub signed_quotients : List Reading
signed_quotients =
    -- 7 by 2 with both signs, in both kinds; a quotient that is less than 1, and 2^31, which is 0
    reading (divide_signed binary64 Nearest 0x401C000000000000 0x4000000000000000) (signed_value 0 0xBFF0000000000000 (pos 4))
    ∷ reading (divide_signed binary64 Nearest 0xC01C000000000000 0x4000000000000000) (signed_value 0 0x3FF0000000000000 (negsuc 3))
    ∷ reading (divide_signed binary64 Truncated 0x401C000000000000 0xC000000000000000) (signed_value 0 0x3FF0000000000000 (negsuc 2))
    ∷ reading (divide_signed binary64 Truncated 0xC01C000000000000 0xC000000000000000) (signed_value 0 0xBFF0000000000000 (pos 3))
    ∷ reading (divide_signed binary64 Truncated 0xBFF0000000000000 0x4000000000000000) (signed_value 0 0xBFF0000000000000 (pos 0))
    ∷ reading (divide_signed binary64 Nearest 0xC1E0000000000000 0x3FF0000000000000) (signed_value 0 0x8000000000000000 (pos 0))
    -- the ends of the range, and 3 times 2^30, which is 2^30
    ∷ reading (divide_signed binary64 Truncated 0x41DFFFFFFFC00000 0x3FF0000000000000) (signed_value 0 0x0000000000000000 (pos 2147483647))
    ∷ reading (divide_signed binary64 Nearest 0x41DFFFFFFFC00000 0xBFF0000000000000) (signed_value 0 0x0000000000000000 (negsuc 2147483646))
    ∷ reading (divide_signed binary64 Nearest 0xC1E8000000000000 0x3FF0000000000000) (signed_value 0 0x8000000000000000 (negsuc 1073741823))
    -- zeros, and infinite divisors
    ∷ reading (divide_signed binary32 Nearest 0x80000000 0x3F800000) (signed_value 0 0x80000000 (pos 0))
    ∷ reading (divide_signed binary32 Truncated 0xC0B00000 0x7F800000) (signed_value 0 0xC0B00000 (pos 0))
    -- the other formats: 1000 by -3, -5.5 by 2, a pseudo-denormal by the smallest denormal
    ∷ reading (divide_signed binary16 Truncated 0x63D0 0xC200) (signed_value 0 0x3C00 (negsuc 332))
    ∷ reading (divide_signed binary32 Nearest 0xC0B00000 0x40000000) (signed_value 0 0x3F000000 (negsuc 2))
    ∷ reading (divide_signed x87 Truncated 0x8000FFFFFFFFFFFFFFFF 0x00000000000000000001) (signed_value 0 0x80000000000000000000 (negsuc 2147483646))
    -- refused: every number
    ∷ reading (divide_signed x87 Truncated 0x80010000000000000000 0x3FFF8000000000000000) (signed_value 2 0x7FFFC000000000000000 (pos 0))
    ∷ reading (divide_signed binary64 Nearest 0xBFF0000000000000 0x7FF8000000000000) (signed_value 3 0x7FF8000000000000 (pos 0))
    ∷ reading (divide_signed binary16 Truncated 0xFC00 0x4000) (signed_value 4 0x7E00 (pos 0))
    ∷ reading (divide_signed binary32 Nearest 0xC0B00000 0x00000000) (signed_value 5 0x7FC00000 (pos 0))
    ∷ []

-- [2.11, 2.12] the NaN that is returned
unfoldable pub nans : List Reading
nans =
    -- one NaN, on either side, beside each kind of number; quiet and not
    reading (divide binary16 Truncated 0x7C01 0x3C00) (value 3 0x7E01 0)
    ∷ reading (divide binary16 Nearest 0x8000 0xFDFF) (value 3 0xFFFF 0)
    ∷ reading (divide binary32 Truncated 0xFFC12345 0xFF800000) (value 3 0xFFC12345 0)
    ∷ reading (divide binary64 Nearest 0x7FF0000000000000 0xFFF0000000000001) (value 3 0xFFF8000000000001 0)
    ∷ reading (divide x87 Truncated 0x00008000000000000000 0xFFFF8000000000000001) (value 3 0xFFFFC000000000000001 0)
    -- two: the larger significand, on either side; a quiet one's is larger
    ∷ reading (divide binary16 Truncated 0x7C01 0xFC02) (value 3 0xFE02 0)
    ∷ reading (divide binary16 Nearest 0x7C02 0xFC01) (value 3 0x7E02 0)
    ∷ reading (divide binary32 Truncated 0xFFBFFFFF 0x7FC00000) (value 3 0x7FC00000 0)
    ∷ reading (divide binary64 Nearest 0xFFF8000000000000 0x7FF7FFFFFFFFFFFF) (value 3 0xFFF8000000000000 0)
    ∷ reading (divide x87 Nearest 0x7FFFBFFFFFFFFFFFFFFF 0xFFFFC000000000000000) (value 3 0xFFFFC000000000000000 0)
    -- equal ones: the dividend's, whatever its sign
    ∷ reading (divide binary32 Truncated 0xFF800001 0x7F800001) (value 3 0xFFC00001 0)
    ∷ reading (divide binary64 Nearest 0x7FF0000000000001 0xFFF0000000000001) (value 3 0x7FF8000000000001 0)
    ∷ reading (divide_signed x87 Truncated 0xFFFF8000000000000001 0x7FFF8000000000000001) (signed_value 3 0xFFFFC000000000000001 (pos 0))
    -- a step, a run that has no budget, scaling and splitting
    ∷ reading (step nothing Truncated 63 0x7FFF8000000000000001 0xFFFF8000000000000002) (steps 3 0xFFFFC000000000000002 0 0)
    ∷ reading (run nothing Nearest 32 0 0xFFFF8000000000000002 0x7FFF8000000000000001) (steps 3 0xFFFFC000000000000002 0 0)
    ∷ reading (scale x87 0xFFFF8000000000000001 (pos 5)) (scaled 3 0xFFFFC000000000000001 Exact)
    ∷ reading (scale binary16 0xFFFF (negsuc 5)) (scaled 3 0xFFFF Exact)
    ∷ reading (split binary64 0xFFF0000000000001) (parts 3 0xFFF8000000000001 (pos 0))
    -- under 2, 6 and 9 the house NaN, whatever the operands
    ∷ reading (divide x87 Nearest 0xFFFFC000000000000001 0x00010000000000000000) (value 2 0x7FFFC000000000000000 0)
    ∷ reading (step nothing Truncated 64 0xFFFFC000000000000001 0xFFFFC000000000000002) (steps 6 0x7FFFC000000000000000 0 0)
    ∷ reading (run (block 16) Truncated 63 1 0xFFFFC000000000000001 0xFFFFC000000000000002) (steps 9 0x7FFFC000000000000000 0 0)
    ∷ []

-- ---- texts as bytes
abbrev from : String → ℕ → ℕ → List ℕ
from t i zero = []
from t i (suc k) = code (char_at t i) ∷ from t (suc i) k

abbrev pub text : String → List ℕ
text t = from t 0 (len t)
