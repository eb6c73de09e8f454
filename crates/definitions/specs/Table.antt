-- Worked examples, with the answers that the library's users expect: ten as one table of what is asked and what is told, and a second
-- table of longer ones. Both show quotients modulo 8. Definitions only.
use Rattle.std.specs.Prelude.{ℕ, List, [], ◌∷◌, ℤ, pos, negsuc}
use Rattle.definitions.specs.Format.{Format, binary32}
use Rattle.definitions.specs.declared.Kind.{Kind}
use Rattle.definitions.specs.declared.Kind.TheVariants.{Truncated, Nearest}
use Rattle.definitions.specs.Remainder.{Remainder, remainder}
use Rattle.definitions.specs.Signed.{SignedRemainder, signed_remainder}
use Rattle.definitions.specs.Reports.{Report, Lent, nothing, step_report, run_report}
use Rattle.definitions.specs.Calls as calls
use Rattle.definitions.specs.Calls.{answer, made, answers, last_value, last_number, total_quotient, total_steps}
use Rattle.definitions.specs.declared.Rounding.{Rounding}
use Rattle.definitions.specs.declared.Rounding.TheVariants.{Exact, Up, Down}
use Rattle.definitions.specs.Scale.{ScaleReport, SplitReport, scale_report, split_report}

-- what is asked: a call, or two steps that are added up
pub data Asked : Type 0 where
  divide : Format → Kind → (x y : ℕ) → Asked
  divide_signed : Format → Kind → (x y : ℕ) → Asked
  step : Lent → Kind → (size x y : ℕ) → Asked
  two_steps : Kind → (size x y : ℕ) → Asked
  run : Lent → Kind → (size budget x y : ℕ) → Asked
  scale : Format → (x : ℕ) → (power : ℤ) → Asked
  split : Format → (x : ℕ) → Asked

-- what is told: a number, a value and quotient bits, or the quotient with its sign; with the steps where they are counted; a scaled value,
-- and what is said of it; or a significand and its exponent
pub data Told : Type 0 where
  value : (number pattern quotient : ℕ) → Told
  signed_value : (number pattern : ℕ) → (quotient : ℤ) → Told
  steps : (number pattern quotient taken : ℕ) → Told
  scaled : (number pattern : ℕ) → Rounding → Told
  parts : (number pattern : ℕ) → (exponent : ℤ) → Told

-- `s` is what a table shows of a quotient
abbrev told_remainder : (ℕ → ℕ) → Remainder → Told
told_remainder s r = value r.number r.value (s r.quotient)

abbrev told_signed : SignedRemainder → Told
told_signed r = signed_value r.number r.value r.quotient

abbrev told_report : (ℕ → ℕ) → Report ℕ → Told
told_report s r = steps r.number r.value (s r.quotient) r.steps

abbrev told_scale : ScaleReport → Told
told_scale r = scaled r.number r.value r.says

abbrev told_split : SplitReport → Told
told_split r = parts r.number r.significand r.exponent

unfoldable pub computed : (ℕ → ℕ) → Asked → Told
unfolding remainder signed_remainder step_report run_report answer made answers last_value last_number total_quotient total_steps scale_report split_report
computed s (divide f κ x y) = told_remainder s (remainder f κ x y)
computed s (divide_signed f κ x y) = told_signed (signed_remainder f κ x y)
computed s (step l κ n x y) = told_report s (step_report l κ n x y)
computed s (two_steps κ n x y) =
    let ts = made (answer κ y) (calls.step nothing n ∷ calls.step nothing n ∷ []) x in
    steps (last_number 7 (answers ts)) (last_value x (answers ts)) (s (total_quotient ts)) (total_steps ts)
computed s (run l κ n b x y) = told_report s (run_report l κ n b x y)
computed s (scale f x k) = told_scale (scale_report f x k)
computed s (split f x) = told_split (split_report f x)

pub record Reading : Type 0 where
  pub asked : Asked
  pub expected : Told

abbrev pub reading : Asked → Told → Reading
reading a t = record { asked = a; expected = t }

unfoldable pub readings : List Reading
readings =
    -- 1: 5.5 by 2
    reading (divide binary32 Truncated 0x40B00000 0x40000000) (value 0 0x3FC00000 2)
    ∷ reading (divide binary32 Nearest 0x40B00000 0x40000000) (value 0 0xBF000000 3)
    -- 2: 5 by 2
    ∷ reading (divide binary32 Nearest 0x40A00000 0x40000000) (value 0 0x3F800000 2)
    -- 3: 7 by 2
    ∷ reading (divide binary32 Truncated 0x40E00000 0x40000000) (value 0 0x3F800000 3)
    ∷ reading (divide binary32 Nearest 0x40E00000 0x40000000) (value 0 0xBF800000 4)
    -- 4: -6 by 3
    ∷ reading (divide binary32 Truncated 0xC0C00000 0x40400000) (value 0 0x80000000 2)
    ∷ reading (divide binary32 Nearest 0xC0C00000 0x40400000) (value 0 0x80000000 2)
    -- 5: 2^75 by 2^-75
    ∷ reading (divide binary32 Truncated 0x65000000 0x1A000000) (value 0 0 0)
    ∷ reading (divide binary32 Nearest 0x65000000 0x1A000000) (value 0 0 0)
    -- 6: two denormals
    ∷ reading (divide binary32 Truncated 0x00000002 0x00000003) (value 0 0x00000002 0)
    ∷ reading (divide binary32 Nearest 0x00000002 0x00000003) (value 0 0x80000001 1)
    -- 7: 2^65 by 3, size 63: the partial step, the step after it, and both together
    ∷ reading (step nothing Truncated 63 0x40408000000000000000 0x4000C000000000000000) (steps 1 0x40008000000000000000 2 1)
    ∷ reading (step nothing Nearest 63 0x40408000000000000000 0x4000C000000000000000) (steps 1 0x40008000000000000000 2 1)
    ∷ reading (step nothing Truncated 63 0x40008000000000000000 0x4000C000000000000000) (steps 0 0x40008000000000000000 0 1)
    ∷ reading (step nothing Nearest 63 0x40008000000000000000 0x4000C000000000000000) (steps 0 0xBFFF8000000000000000 1 1)
    ∷ reading (two_steps Truncated 63 0x40408000000000000000 0x4000C000000000000000) (steps 0 0x40008000000000000000 2 2)
    ∷ reading (two_steps Nearest 63 0x40408000000000000000 0x4000C000000000000000) (steps 0 0xBFFF8000000000000000 3 2)
    -- 8: the same, size 32
    ∷ reading (step nothing Truncated 32 0x40408000000000000000 0x4000C000000000000000) (steps 1 0x40208000000000000000 0 1)
    ∷ reading (step nothing Truncated 32 0x40208000000000000000 0x4000C000000000000000) (steps 0 0x40008000000000000000 2 1)
    -- 9: denormals halved
    ∷ reading (scale binary32 0x00000001 (negsuc 0)) (scaled 0 0x00000000 Down)
    ∷ reading (scale binary32 0x00000003 (negsuc 0)) (scaled 0 0x00000002 Up)
    -- 10: one, up to the end of the range and past it
    ∷ reading (scale binary32 0x3F800000 (pos 127)) (scaled 0 0x7F000000 Exact)
    ∷ reading (scale binary32 0x3F800000 (pos 128)) (scaled 0 0x7F800000 Up)
    ∷ []

unfoldable pub long_readings : List Reading
long_readings =
    -- 11: 2^63 by 1 takes one step, 2^64 by 1 two
    reading (run nothing Truncated 63 9 0x403E8000000000000000 0x3FFF8000000000000000) (steps 0 0x00000000000000000000 0 1)
    ∷ reading (run nothing Truncated 63 9 0x403F8000000000000000 0x3FFF8000000000000000) (steps 0 0x00000000000000000000 0 2)
    -- 12: the largest finite value by the smallest denormal
    ∷ reading (run nothing Truncated 32 4294967295 0x7FFEFFFFFFFFFFFFFFFF 0x00000000000000000001) (steps 0 0x00000000000000000000 0 3)
    -- a partial value may fall by more than 63 places: 2^127 by 2^64 − 1 gives 2^63, at size 63
    ∷ reading (step nothing Truncated 63 0x407E8000000000000000 0x403EFFFFFFFFFFFFFFFF) (steps 1 0x403E8000000000000000 0 1)
    ∷ []
