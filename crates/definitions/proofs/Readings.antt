-- The readings, computed from the definitions. Assumes nothing.
use mathlib.Core.Path.{◌≡◌, refl}
use mathlib.Core.Bool.{true, false}
use mathlib.Core.List.{[], ◌∷◌, map}
use Prim.Native.Nat.{ℕ, ◌%◌}
use lib.Ieee.{size}
use Rattle.definitions.specs.Class.{gap}
use Rattle.definitions.specs.Format.{class_of, pattern_of, magnitude, ordinary, house_nan, binary16, binary32, binary64, x87}
use Rattle.definitions.specs.Numbers.{first}
use Rattle.definitions.specs.Division.{finish}
use Rattle.definitions.specs.Remainder.{quotient_bits, shown}
use Rattle.definitions.specs.Steps.{step, run}
use Rattle.definitions.specs.declared.Kind.TheVariants.{Truncated, Nearest}
use Rattle.definitions.specs.Reports.{nothing}
use Rattle.definitions.specs.Table as table
use Rattle.definitions.specs.Table.{Reading, computed, divide, value, steps, readings, long_readings}
use Rattle.definitions.specs.Samples.{refusals, answered, pseudo_denormals, long_quotients, signed_quotients, nans}

-- readings 1 to 10
pub readings_hold : map (λ (r : Reading). computed shown r.asked) readings ≡ map (λ (r : Reading). r.expected) readings
unfolding computed readings size gap class_of pattern_of magnitude first finish step run
readings_hold = refl

-- readings 11 and 12, and a partial value that falls far
pub long_readings_hold : map (λ (r : Reading). computed shown r.asked) long_readings ≡ map (λ (r : Reading). r.expected) long_readings
unfolding computed long_readings size gap class_of pattern_of magnitude first finish step run
long_readings_hold = refl

-- [3.6] a table that shows three bits shows them of every call: 2^31 - 1 by 1, and 2^66 by 3 in two steps
pub shown_of_calls : (computed shown (divide binary64 Truncated 0x41DFFFFFFFC00000 0x3FF0000000000000) ≡ value 0 0x0000000000000000 7)
    × (computed shown (table.run nothing Nearest 63 2 0x40418000000000000000 0x4000C000000000000000) ≡ steps 0 0x3FFF8000000000000000 5 2)
unfolding computed size gap class_of pattern_of magnitude first finish step run
shown_of_calls = (refl, refl)

-- all that is told of a quotient
abbrev all : ℕ → ℕ
all q = q

-- every refusal, and answers beside them
pub refusals_hold : map (λ (r : Reading). computed all r.asked) refusals ≡ map (λ (r : Reading). r.expected) refusals
unfolding computed refusals size gap class_of pattern_of magnitude first finish step run
refusals_hold = refl

pub answered_hold : map (λ (r : Reading). computed all r.asked) answered ≡ map (λ (r : Reading). r.expected) answered
unfolding computed answered size gap class_of pattern_of magnitude first finish step run
answered_hold = refl

-- pseudo-denormals
pub pseudo_denormals_hold : map (λ (r : Reading). computed all r.asked) pseudo_denormals ≡ map (λ (r : Reading). r.expected) pseudo_denormals
unfolding computed pseudo_denormals size gap class_of pattern_of magnitude first finish step run
pseudo_denormals_hold = refl

-- [3.6, 3.8] quotients of many bits, and with their signs
pub long_quotients_hold : map (λ (r : Reading). computed all r.asked) long_quotients ≡ map (λ (r : Reading). r.expected) long_quotients
unfolding computed long_quotients size gap class_of pattern_of magnitude first finish step run
long_quotients_hold = refl

pub signed_quotients_hold : map (λ (r : Reading). computed all r.asked) signed_quotients ≡ map (λ (r : Reading). r.expected) signed_quotients
unfolding computed signed_quotients size gap class_of pattern_of magnitude first finish step run
signed_quotients_hold = refl

-- [2.11, 2.12] the NaN that is returned
pub nans_hold : map (λ (r : Reading). computed all r.asked) nans ≡ map (λ (r : Reading). r.expected) nans
unfolding computed nans size gap class_of pattern_of magnitude first finish step run
nans_hold = refl

-- [2.10] which patterns are ordinary: around the field 0, at both of its ends and with either sign; in another format all of them
pub ordinary_patterns : (map (ordinary x87)
    (0x00000000000000000000
    ∷ 0x00007FFFFFFFFFFFFFFF
    ∷ 0x00008000000000000000
    ∷ 0x0000FFFFFFFFFFFFFFFF
    ∷ 0x80008000000000000000
    ∷ 0x8000FFFFFFFFFFFFFFFF
    ∷ 0x00018000000000000000
    ∷ 0x80018000000000000000
    ∷ 0x7FFFC000000000000000
    ∷ [])
    ≡ true ∷ true ∷ false ∷ false ∷ false ∷ false ∷ true ∷ true ∷ true ∷ [])
    × (map (ordinary binary16) (0x0000 ∷ 0x03FF ∷ 0x0400 ∷ 0x8000 ∷ 0x83FF ∷ 0x7E00 ∷ []) ≡ true ∷ true ∷ true ∷ true ∷ true ∷ true ∷ [])
unfolding ordinary
ordinary_patterns = (refl, refl)

-- [3.6] what is told and what is shown of every quotient
pub told_and_shown : (q : ℕ) → (quotient_bits q ≡ q % 2147483648) × (shown q ≡ q % 8)
told_and_shown q = (refl, refl)

-- [2.9] the house NaNs
pub house_nans : (house_nan binary16 ≡ 0x7E00) × (house_nan binary32 ≡ 0x7FC00000) × (house_nan binary64 ≡ 0x7FF8000000000000) × (house_nan x87 ≡ 0x7FFFC000000000000000)
house_nans = (refl, refl, refl, refl)
