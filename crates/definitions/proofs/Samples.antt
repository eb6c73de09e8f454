-- Roundings, lists, blocks and lines, computed from the definitions. Assumes nothing.
use Rattle.std.specs.Prelude.{Ok, Err}
use mathlib.Core.Path.{◌≡◌, refl}
use mathlib.Core.Bool.{true, false, cond}
use mathlib.Core.List.{List, [], ◌∷◌, map}
use Prim.Native.Nat.{ℕ, zero, suc, ◌+◌, ◌*◌, ◌^◌}
use native.Mathlib.Omega.{arith}
use lib.Ieee.{size}
use lib.ListN.{length}
use lib.IntN.{ℤ, pos}
use Rattle.digits.proofs.Tests.{not_zero}
use Rattle.definitions.specs.Class.{gap}
use Rattle.definitions.specs.Format.{words, class_of, pattern_of, magnitude}
use Rattle.definitions.specs.Numbers.{first}
use Rattle.definitions.specs.Facts.{denormal}
use Rattle.definitions.specs.Division.{finish}
use Rattle.definitions.specs.Remainder.{remainder}
use Rattle.definitions.specs.declared.Kind.TheVariants.{Truncated, Nearest}
use Rattle.definitions.specs.declared.Rounding.{Rounding}
use Rattle.definitions.specs.declared.Rounding.TheVariants.{Exact, Up, Down}
use Rattle.definitions.specs.Round.{Rounded, round}
use Rattle.definitions.specs.Steps.{step, run}
use Rattle.definitions.specs.Reports.{nothing, block, step_report, run_report}
use Rattle.definitions.specs.Calls as calls
use Rattle.definitions.specs.Calls.{Call, Made, answer, made, answers, last_value, first_denormal, Runs, Some}
use Rattle.definitions.specs.Fold.{Folded, fold_list}
use Rattle.definitions.specs.declared.Refusal.{Refusal}
use Rattle.definitions.specs.declared.Refusal.TheVariants as why
use Rattle.definitions.specs.declared.Pattern.{Pattern}
use Rattle.definitions.specs.declared.Progress.TheVariants.{Finished, Unfinished}
use Rattle.definitions.specs.Answers.{refusal_number, remainder_meaning, signed_meaning, steps_meaning, step_meaning, run_meaning, scale_meaning, split_meaning}
use Rattle.definitions.specs.Block.{kind_of, block_after}
use Rattle.definitions.specs.Line.{is_hex, digit_of, line_for, output_for}
use Rattle.definitions.specs.Exports.{after, significand_in, word_in, says_number, flag_number}
use Rattle.definitions.specs.Samples.{text}

-- ---- [6.1, 6.4] n rounded by so many places: no place, each side of a half and the half itself at an even and at an odd quotient, the
-- largest words, and places at which nothing is kept
pub record Row : Type 0 where
  pub n : ℕ
  pub places : ℕ
  pub rounded : Rounded

abbrev row : ℕ → ℕ → ℕ → Rounding → Row
row n k q says = record { n = n; places = k; rounded = record { quotient = q; says = says } }

abbrev rows : List Row
rows =
    row 5 0 5 Exact
    ∷ row 0xFFFFFFFFFFFFFFFF 0 0xFFFFFFFFFFFFFFFF Exact
    ∷ row 8 2 2 Exact
    ∷ row 9 2 2 Down
    ∷ row 10 2 2 Down
    ∷ row 11 2 3 Up
    ∷ row 12 2 3 Exact
    ∷ row 13 2 3 Down
    ∷ row 14 2 4 Up
    ∷ row 15 2 4 Up
    ∷ row 1 1 0 Down
    ∷ row 3 1 2 Up
    ∷ row 0xFFFFFFFFFFFFFFFF 1 0x8000000000000000 Up
    ∷ row 0x4000000000000000 63 0 Down
    ∷ row 0x4000000000000001 63 1 Up
    ∷ row 0x8000000000000000 63 1 Exact
    ∷ row 0xBFFFFFFFFFFFFFFF 63 1 Down
    ∷ row 0xC000000000000000 63 2 Up
    ∷ row 0 64 0 Exact
    ∷ row 0x8000000000000000 64 0 Down
    ∷ row 0x8000000000000001 64 1 Up
    ∷ row 0xFFFFFFFFFFFFFFFF 64 1 Up
    ∷ row 0xFFFFFFFFFFFFFFFF 65 0 Down
    ∷ row 1 1000 0 Down
    ∷ []

pub roundings : map (λ (r : Row). round r.n r.places) rows ≡ map (λ (r : Row). r.rounded) rows
unfolding round
roundings = refl

-- ---- [8.1 to 8.4] 5.5, a NaN, -6, minus infinity and 7 by 2, into lists of sevens
abbrev readings : List ℕ
readings = 0x4016000000000000 ∷ 0xFFF0000000000001 ∷ 0xC018000000000000 ∷ 0xFFF0000000000000 ∷ 0x401C000000000000 ∷ []

abbrev sevens : List ℕ
sevens = 7 ∷ 7 ∷ 7 ∷ 7 ∷ 7 ∷ []

abbrev untouched : ℕ → Folded
untouched n = record { number = n; results = sevens; quotients = sevens; marked = 0 }

pub fold_truncated : fold_list Truncated 0x4000000000000000 readings sevens sevens
    ≡ record {
      number = 0;
      results = 0x3FF8000000000000 ∷ 0xFFF8000000000001 ∷ 0x8000000000000000 ∷ 0x7FF8000000000000 ∷ 0x3FF0000000000000 ∷ [];
      quotients = 2 ∷ 255 ∷ 3 ∷ 255 ∷ 3 ∷ [];
      marked = 2;
    }
unfolding fold_list remainder size gap class_of pattern_of magnitude first finish
fold_truncated = refl

pub fold_nearest : fold_list Nearest 0x4000000000000000 readings sevens sevens
    ≡ record {
      number = 0;
      results = 0xBFE0000000000000 ∷ 0xFFF8000000000001 ∷ 0x8000000000000000 ∷ 0x7FF8000000000000 ∷ 0xBFF0000000000000 ∷ [];
      quotients = 3 ∷ 255 ∷ 3 ∷ 255 ∷ 4 ∷ [];
      marked = 2;
    }
unfolding fold_list remainder size gap class_of pattern_of magnitude first finish
fold_nearest = refl

-- three bits are shown: 511 and 21 by 2
pub fold_shown : fold_list Truncated 0x4000000000000000 (0x407FF00000000000 ∷ 0x4035000000000000 ∷ []) (7 ∷ 7 ∷ []) (7 ∷ 7 ∷ [])
    ≡ record { number = 0; results = 0x3FF0000000000000 ∷ 0x3FF0000000000000 ∷ []; quotients = 7 ∷ 2 ∷ []; marked = 0 }
unfolding fold_list remainder size gap class_of pattern_of magnitude first finish
fold_shown = refl

-- by infinity each finite one is itself
pub fold_infinite : fold_list Nearest 0xFFF0000000000000 (0x4016000000000000 ∷ 0x7FF0000000000000 ∷ []) (7 ∷ 7 ∷ []) (7 ∷ 7 ∷ [])
    ≡ record { number = 0; results = 0x4016000000000000 ∷ 0x7FF8000000000000 ∷ []; quotients = 0 ∷ 255 ∷ []; marked = 1 }
unfolding fold_list remainder size gap class_of pattern_of magnitude first finish
fold_infinite = refl

-- a NaN and a zero divisor, and lists that are one place short; of empty lists the same
pub fold_untouched : (fold_list Truncated 0x7FF0000000000001 readings sevens sevens ≡ untouched 3)
    × (fold_list Nearest 0x8000000000000000 readings sevens sevens ≡ untouched 5)
    × (fold_list Truncated 0x7FF8000000000000 readings sevens (7 ∷ 7 ∷ 7 ∷ 7 ∷ []) ≡ record { number = 9; results = sevens; quotients = 7 ∷ 7 ∷ 7 ∷ 7 ∷ []; marked = 0 })
    × (fold_list Nearest 0 readings (7 ∷ 7 ∷ 7 ∷ 7 ∷ []) sevens ≡ record { number = 9; results = 7 ∷ 7 ∷ 7 ∷ 7 ∷ []; quotients = sevens; marked = 0 })
    × (fold_list Truncated 0 [] [] [] ≡ record { number = 5; results = []; quotients = []; marked = 0 })
    × (fold_list Truncated 0x3FF0000000000000 [] [] [] ≡ record { number = 0; results = []; quotients = []; marked = 0 })
unfolding fold_list remainder size gap class_of pattern_of magnitude first finish
fold_untouched = (refl, refl, refl, refl, refl, refl)

-- ---- [9.4, 9.6] the block of reading 7, of a step by infinity, and of a report with four bytes of steps and of its quotient; a refusal leaves what was lent
abbrev zeros : List ℕ
zeros = 0 ∷ 0 ∷ 0 ∷ 0 ∷ 0 ∷ 0 ∷ 0 ∷ 0 ∷ 0 ∷ 0 ∷ 0 ∷ 0 ∷ 0 ∷ 0 ∷ 0 ∷ 0 ∷ 0 ∷ 0 ∷ 0 ∷ 0 ∷ []

pub block_partial : block_after zeros (step_report nothing Truncated 63 0x40408000000000000000 0x4000C000000000000000)
    ≡ 0 ∷ 0 ∷ 0 ∷ 0 ∷ 0 ∷ 0 ∷ 0 ∷ 0x80 ∷ 0x00 ∷ 0x40 ∷ 1 ∷ 2 ∷ 1 ∷ 0 ∷ 0 ∷ 0 ∷ 0xAA ∷ 0xAA ∷ 0xAA ∷ 0x2A ∷ []
unfolding block_after step_report size gap class_of pattern_of magnitude first finish step
block_partial = refl

pub block_finished : block_after zeros (step_report nothing Truncated 63 0xC0DF8123456789ABCDEF 0x7FFF8000000000000000)
    ≡ 0xEF ∷ 0xCD ∷ 0xAB ∷ 0x89 ∷ 0x67 ∷ 0x45 ∷ 0x23 ∷ 0x81 ∷ 0xDF ∷ 0xC0 ∷ 0 ∷ 0 ∷ 1 ∷ 0 ∷ 0 ∷ 0 ∷ 0 ∷ 0 ∷ 0 ∷ 0 ∷ []
unfolding block_after step_report size gap class_of pattern_of magnitude first finish step
block_finished = refl

pub block_steps : block_after zeros (record { number = 7; value = 0; quotient = 0x1A1B1C1D; steps = 0x01020304 })
    ≡ 0 ∷ 0 ∷ 0 ∷ 0 ∷ 0 ∷ 0 ∷ 0 ∷ 0 ∷ 0 ∷ 0 ∷ 7 ∷ 5 ∷ 4 ∷ 3 ∷ 2 ∷ 1 ∷ 0x1D ∷ 0x1C ∷ 0x1B ∷ 0x1A ∷ []
unfolding block_after
block_steps = refl

pub block_left : block_after zeros (step_report nothing Truncated 31 0x40408000000000000000 0x4000C000000000000000) ≡ zeros
unfolding block_after step_report size gap class_of pattern_of magnitude first finish step
block_left = refl

-- ---- [7.2, 7.6, 9.2, 6.4, 9.7] what crosses to C: two words, what scaling says, a fact, and by its number whether an answer is written
pub crossing : (words 0xC0DF 0x8123456789ABCDEF ≡ 0xC0DF8123456789ABCDEF)
    × (significand_in 0xC0DF8123456789ABCDEF ≡ 0x8123456789ABCDEF) × (word_in 0xC0DF8123456789ABCDEF ≡ 0xC0DF)
    × (map says_number (Exact ∷ Up ∷ Down ∷ []) ≡ 0 ∷ 1 ∷ 2 ∷ [])
    × (map flag_number (true ∷ false ∷ []) ≡ 1 ∷ 0 ∷ [])
    × (map {B = ℕ} (λ n. after n 1 0) (0 ∷ 1 ∷ 2 ∷ 3 ∷ 4 ∷ 5 ∷ 6 ∷ 7 ∷ 8 ∷ 9 ∷ 10 ∷ 11 ∷ 12 ∷ 13 ∷ 14 ∷ 15 ∷ 16 ∷ 255 ∷ [])
    ≡ 1 ∷ 1 ∷ 0 ∷ 0 ∷ 0 ∷ 0 ∷ 0 ∷ 1 ∷ 0 ∷ 0 ∷ 0 ∷ 0 ∷ 0 ∷ 0 ∷ 0 ∷ 0 ∷ 0 ∷ 0 ∷ [])
crossing = (refl, refl, refl, refl, refl, refl)

-- [9.5] kinds
pub kinds : (kind_of 0 ≡ Truncated) × ((k : ℕ) → kind_of (suc k) ≡ Nearest)
kinds = (refl, λ k. rw (not_zero (suc k) (omega arith)))

-- the fields of an answer are told as they are, whatever the pattern v: the bits of v, and no other pattern of its value
pub meanings : (v : Pattern) (q n : ℕ) (r : Rounding) (e : ℤ)
    → let b = v.high * 2 ^ 64 + v.low in
    (remainder_meaning (Ok (record { value = v; quotient = q })) ≡ record { number = 0; value = b; quotient = q })
    × (signed_meaning (Ok (record { value = v; quotient = e })) ≡ record { number = 0; value = b; quotient = e })
    × (step_meaning (Ok (Finished (record { value = v; quotient = q; steps = n }))) ≡ record { number = 0; value = b; quotient = q; steps = n })
    × (step_meaning (Ok (Unfinished (record { value = v; quotient = q; steps = n }))) ≡ record { number = 1; value = b; quotient = q; steps = n })
    × (run_meaning (Ok (Finished (record { value = v; quotient = q; steps = n }))) ≡ record { number = 0; value = b; quotient = q; steps = n })
    × (run_meaning (Ok (Unfinished (record { value = v; quotient = q; steps = n }))) ≡ record { number = 7; value = b; quotient = q; steps = n })
    × (scale_meaning (Ok (record { value = v; says = r })) ≡ record { number = 0; value = b; says = r })
    × (split_meaning (Ok (record { significand = v; exponent = e })) ≡ record { number = 0; significand = b; exponent = e })
unfolding remainder_meaning signed_meaning steps_meaning scale_meaning split_meaning
meanings v q n r e = (refl, refl, refl, refl, refl, refl, refl, refl)

-- [7.5] and those of a refusal: its number and its value, and nothing else
pub refused_meanings : (w : Refusal) (v : Pattern) (u : ℕ)
    → let b = v.high * 2 ^ 64 + v.low in
    (remainder_meaning (Err (record { why = w; value = v })) ≡ record { number = refusal_number w; value = b; quotient = 0 })
    × (signed_meaning (Err (record { why = w; value = v })) ≡ record { number = refusal_number w; value = b; quotient = pos 0 })
    × (steps_meaning u (Err (record { why = w; value = v })) ≡ record { number = refusal_number w; value = b; quotient = 0; steps = 0 })
    × (scale_meaning (Err (record { why = w; value = v })) ≡ record { number = refusal_number w; value = b; says = Exact })
    × (split_meaning (Err (record { why = w; value = v })) ≡ record { number = refusal_number w; significand = b; exponent = pos 0 })
unfolding remainder_meaning signed_meaning steps_meaning scale_meaning split_meaning
refused_meanings w v u = (refl, refl, refl, refl, refl)

-- [7.1] the number of each refusal of the code
pub refusal_numbers : map refusal_number (why.BadLength ∷ why.BadSize ∷ why.Unsupported ∷ why.Nan ∷ why.Infinite ∷ why.ZeroDivisor ∷ why.ZeroSplit ∷ [])
    ≡ 9 ∷ 6 ∷ 2 ∷ 3 ∷ 4 ∷ 5 ∷ 8 ∷ []
refusal_numbers = refl

-- ---- [5.2, 5.3] lists of calls from a pseudo-denormal by 1: none accepted, and a budget of 0 that is, alone, among refused ones and first
abbrev dividend : ℕ
dividend = 0x00008000000000000001

abbrev made_from : List Call → List (Made ℕ)
made_from cs = made (answer Truncated 0x3FFF8000000000000000) cs dividend

pub last_values : map (λ cs. last_value dividend (answers (made_from cs)))
    ([]
    ∷ (calls.step nothing 31 ∷ calls.run nothing 64 0 ∷ calls.run (block 16) 32 0 ∷ [])
    ∷ (calls.run nothing 32 0 ∷ [])
    ∷ (calls.run (block 21) 32 0 ∷ calls.run nothing 32 0 ∷ calls.step nothing 31 ∷ [])
    ∷ (calls.run nothing 63 0 ∷ calls.step nothing 63 ∷ [])
    ∷ [])
    ≡ dividend ∷ dividend ∷ 0x00018000000000000001 ∷ 0x00018000000000000001 ∷ 0x00018000000000000001 ∷ []
unfolding made answers last_value answer step_report run_report size gap class_of pattern_of magnitude first finish step run
last_values = refl

-- [5.8] of these the accepted ones are runs of the size 32, and there are some
pub one_size : let ts = answers (made_from (calls.run nothing 32 0 ∷ calls.step nothing 31 ∷ calls.run nothing 32 9 ∷ [])) in
    Runs 32 ts × Some ts × (length ts ≡ 2)
unfolding made answers answer step_report run_report size gap class_of pattern_of magnitude first finish step run
one_size = ((refl, (refl, tt)), tt, refl)

-- [5.10] they tell of the pseudo-denormal as it was given, where any was accepted
pub first_denormals : map (λ cs. first_denormal 0x3FFF8000000000000000 (answers (made_from cs)))
    ([]
    ∷ (calls.step nothing 31 ∷ calls.run nothing 64 0 ∷ [])
    ∷ (calls.run nothing 32 0 ∷ [])
    ∷ (calls.run nothing 64 0 ∷ calls.run nothing 32 0 ∷ calls.run nothing 32 9 ∷ [])
    ∷ (calls.step nothing 63 ∷ [])
    ∷ [])
    ≡ false ∷ false ∷ true ∷ true ∷ true ∷ []
unfolding made answers first_denormal denormal answer step_report run_report size gap class_of pattern_of magnitude first finish step run
first_denormals = refl

-- where none was, of nothing, whatever the divisor
pub untold_denormals : map (λ y. first_denormal y []) (0x3FFF8000000000000000 ∷ 0x00000000000000000001 ∷ 0x00008000000000000000 ∷ []) ≡ false ∷ false ∷ false ∷ []
unfolding first_denormal denormal
untold_denormals = refl

-- ---- [10.1] the bytes that are hex digits, among all, and what they stand for
abbrev hex_bytes : ℕ → ℕ → List ℕ
hex_bytes i zero = []
hex_bytes i (suc k) = cond (is_hex i) (i ∷ hex_bytes (suc i) k) (hex_bytes (suc i) k)

pub hex_bytes_lem : (hex_bytes 0 256 ≡ text "0123456789ABCDEFabcdef")
    × (map digit_of (hex_bytes 0 256) ≡ 0 ∷ 1 ∷ 2 ∷ 3 ∷ 4 ∷ 5 ∷ 6 ∷ 7 ∷ 8 ∷ 9 ∷ 10 ∷ 11 ∷ 12 ∷ 13 ∷ 14 ∷ 15 ∷ 10 ∷ 11 ∷ 12 ∷ 13 ∷ 14 ∷ 15 ∷ [])
hex_bytes_lem = (refl, refl)

-- ---- [10.1 to 10.5] the users' sample; either case, every number, and a last line without its newline; empty inputs
pub users_lines : output_for (text "4016000000000000 4000000000000000\n3FF0000000000000 0000000000000000\nhello\n")
    ≡ text "3FF8000000000000 2 0\n7FF8000000000000 0 5\nbad line\n"
unfolding output_for line_for remainder size gap class_of pattern_of magnitude first finish
users_lines = refl

pub more_lines : output_for (text "c08fffffFFFFFFFF 3fe0000000000001\n\n7FF0000000000001 0000000000000000\nfff0000000000000 7FF0000000000000\n407FF00000000000 4000000000000000")
    ≡ text "BFDFFFFFFFFFE802 7 0\nbad line\n7FF8000000000001 0 3\n7FF8000000000000 0 4\n3FF0000000000000 7 0\n"
unfolding output_for line_for remainder size gap class_of pattern_of magnitude first finish
more_lines = refl

abbrev bad : List ℕ
bad = text "bad line"

-- a digit more or less, another letter, another space, something behind
pub bad_lines : map line_for
    (text "4016000000000000 400000000000000"
    ∷ text "4016000000000000 40000000000000000"
    ∷ text "401600000000000  4000000000000000"
    ∷ text "401600000000000g 4000000000000000"
    ∷ text "4016000000000000 400000000000000G"
    ∷ text "4016000000000000\t4000000000000000"
    ∷ text "40160000000000004000000000000000"
    ∷ text "40160000000000000400000000000000"
    ∷ text " 4016000000000000 4000000000000000"
    ∷ text "4016000000000000 4000000000000000 "
    ∷ [])
    ≡ bad ∷ bad ∷ bad ∷ bad ∷ bad ∷ bad ∷ bad ∷ bad ∷ bad ∷ bad ∷ []
unfolding line_for remainder size gap class_of pattern_of magnitude first finish
bad_lines = refl

pub no_lines : (output_for [] ≡ []) × (output_for (text "\n") ≡ text "bad line\n")
unfolding output_for line_for
no_lines = (refl, refl)
