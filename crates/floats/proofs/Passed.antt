-- A pattern that has passed a float stands for what it stood for, but that all NaNs are one. Assumes nothing.
use mathlib.Core.Path.{◌≡◌, refl, sym, ap, ◌∙◌}
use mathlib.Core.Bool.{true}
use Prim.Native.Nat.{ℕ}
use lib.Ieee as Ieee
use lib.Ieee.{Float, of_bits, to_bits}
use Rattle.digits.proofs.Tests.{clash}
use Rattle.definitions.specs.Class.{Class, unsupported, nan, infinite, finite}
use Rattle.definitions.specs.Format.{binary64, class_of, pattern_of, house_nan, house, Holds}
use Rattle.definitions.specs.Numbers.{is_nan}
use Rattle.laws.proofs.Regular.{regular64}
use Rattle.laws.proofs.RoundTrip.{read_written, read_infinite, read_house_nan, read_holds, house_is}
use Rattle.laws.proofs.Agrees.{Stands, stands, writes}

abbrev pub passed : ℕ → ℕ
passed b = to_bits Ieee.binary64 (of_bits Ieee.binary64 b)

-- what a float keeps of a class
abbrev pub floated : Class → Class
floated unsupported = unsupported
floated (nan n s) = house binary64
floated (infinite n) = infinite n
floated (finite v) = finite v

floated_stands : (c : Class) (v : Float) → Stands Ieee.binary64 c v → Stands Ieee.binary64 (floated c) v
floated_stands unsupported v p = p
floated_stands (nan n s) v p = p
floated_stands (infinite n) v p = p
floated_stands (finite x) v p = p

floated_house : (c : Class) → is_nan (floated c) ≡ true → floated c ≡ house binary64
floated_house unsupported e = clash (cc)
floated_house (nan n s) e = refl
floated_house (infinite n) e = clash (cc)
floated_house (finite v) e = clash (cc)

-- the pattern that the class is written as
pub passed_is : (b : ℕ) → passed b ≡ pattern_of binary64 (floated (class_of binary64 b))
passed_is b =
    let c = class_of binary64 b in
    sym (writes Ieee.binary64 (floated c) (of_bits Ieee.binary64 b) (floated_stands c (of_bits Ieee.binary64 b) (stands Ieee.binary64 b)) (floated_house c))

house_read : class_of binary64 (pattern_of binary64 (house binary64)) ≡ house binary64
house_read = ap (class_of binary64) (house_is binary64 regular64) ∙ read_house_nan binary64 regular64

pub class_passed : (b : ℕ) → class_of binary64 (passed b) ≡ floated (class_of binary64 b)
class_passed b = ap (class_of binary64) (passed_is b) ∙ go (class_of binary64 b) (stands Ieee.binary64 b) (read_holds binary64 regular64 b)
  where
    go : (c : Class) → Stands Ieee.binary64 c (of_bits Ieee.binary64 b) → Holds binary64 c → class_of binary64 (pattern_of binary64 (floated c)) ≡ floated c
    go unsupported p h = absurd p
    go (nan n s) p h = house_read
    go (infinite n) p h = read_infinite binary64 regular64 n
    go (finite v) p h = read_written binary64 regular64 v h

pub house_passed : passed (house_nan binary64) ≡ house_nan binary64
house_passed = passed_is (house_nan binary64) ∙ ap (λ c. pattern_of binary64 (floated c)) (read_house_nan binary64 regular64) ∙ house_is binary64 regular64
