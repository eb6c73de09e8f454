-- The four formats, what their patterns stand for, and the pattern of a value. A pattern is one number; x87's is its 16-bit word
-- times 2 ^ 64, plus its significand. Definitions only.
use Rattle.std.specs.Prelude.{ℕ, ◌+◌, ◌-◌, ◌*◌, ◌/◌, ◌%◌, ◌^◌, ◌≤◌, ◌<◌, ◌≡◌, Bool, false, not, cond, ◌&&◌, leb, eqb, ℤ, pos, negsuc, ◌+ℤ◌}
use Rattle.std.specs.Float.Ieee.{size}
use Rattle.digits.specs.Digits.{Digits}
use Rattle.definitions.specs.Class.{Class, unsupported, nan, infinite, finite}
use Rattle.definitions.specs.declared.Layout.{Layout}
use Rattle.definitions.specs.declared.Layout.TheVariants.{Hidden, Explicit}

-- the one number that two words are
abbrev pub words : ℕ → ℕ → ℕ
words high low = high * 2 ^ 64 + low

-- [2.2] what a format is named by. The smallest place is 2 ^ smallest.
pub record Format : Type 0 where
  pub precision : ℕ
  pub bias : ℕ
  pub smallest : ℤ
  pub layout : Layout

abbrev pub binary16 : Format
binary16 = record { precision = 11; bias = 15; smallest = negsuc 23; layout = Hidden }

abbrev pub binary32 : Format
binary32 = record { precision = 24; bias = 127; smallest = negsuc 148; layout = Hidden }

abbrev pub binary64 : Format
binary64 = record { precision = 53; bias = 1023; smallest = negsuc 1073; layout = Hidden }

abbrev pub x87 : Format
x87 = record { precision = 64; bias = 16383; smallest = negsuc 16444; layout = Explicit }

-- the largest exponent field, of infinities and NaNs
abbrev pub top_field : Format → ℕ
top_field f = 2 * f.bias + 1

-- the weight of the significand's leading digit, of the exponent field, and of the sign
abbrev pub leading : Format → ℕ
leading f = 2 ^ (f.precision - 1)

abbrev pub stored_weight : Layout → ℕ → ℕ
stored_weight Hidden p = 2 ^ (p - 1)
stored_weight Explicit p = 2 ^ p

-- what a pattern leaves out of a significand that has its leading digit, of the weight h
abbrev pub hidden_part : Layout → ℕ → ℕ
hidden_part Hidden h = h
hidden_part Explicit h = 0

abbrev pub field_weight : Format → ℕ
field_weight f = stored_weight f.layout f.precision

abbrev pub sign_weight : Format → ℕ
sign_weight f = field_weight f * (top_field f + 1)

-- all patterns are below this
abbrev pub patterns : Format → ℕ
patterns f = 2 * sign_weight f

-- [2.3] what a sign, an exponent field e and the stored significand s stand for, in an interchange format
abbrev pub hidden_class : Format → Bool → ℕ → ℕ → Class
hidden_class f n e s =
    cond (eqb e (top_field f)) (cond (eqb s 0) (infinite n) (nan n s))
    (finite (record { negative = n; count = cond (eqb e 0) s ((leading f + s) * 2 ^ (e - 1)) }))

-- [2.4, 2.5, 2.6] the same with an explicit leading digit J, which the field 0 may have too
abbrev pub explicit_class : Format → Bool → ℕ → ℕ → Class
explicit_class f n e s =
    let J = leb (leading f) s in
    cond (eqb e 0) (finite (record { negative = n; count = s }))
    (cond J
    (cond (eqb e (top_field f)) (cond (eqb s (leading f)) (infinite n) (nan n s)) (finite (record { negative = n; count = s * 2 ^ (e - 1) })))
    unsupported)

abbrev pub fields_class : Layout → Format → Bool → ℕ → ℕ → Class
fields_class Hidden f n e s = hidden_class f n e s
fields_class Explicit f n e s = explicit_class f n e s

-- what a pattern stands for
unfoldable pub class_of : Format → ℕ → Class
class_of f b = fields_class f.layout f (leb (sign_weight f) b) (b / field_weight f % (top_field f + 1)) (b % field_weight f)

-- the exponent field and the stored significand together, of a significand s that has dropped e low digits: a leading digit adds one to the field
abbrev pub body : Format → Layout → ℕ → ℕ → ℕ
body f Hidden e s = e * leading f + s
body f Explicit e s = (e + cond (leb (leading f) s) 1 0) * field_weight f + s

-- the pattern of a count: its leading digits, as many as the precision, and how many lie below them
unfoldable pub magnitude : Format → ℕ → ℕ
magnitude f n = let e = size n - f.precision in body f f.layout e (n / 2 ^ e)

abbrev pub with_sign : Format → Bool → ℕ → ℕ
with_sign f n b = cond n (sign_weight f) 0 + b

-- [2.9] the house NaN
abbrev pub quiet : Layout → ℕ → ℕ
quiet Hidden h = h / 2
quiet Explicit h = h + h / 2

abbrev pub house_nan : Format → ℕ
house_nan f = top_field f * field_weight f + quiet f.layout (leading f)

-- what it stands for
abbrev pub house : Format → Class
house f = nan false (quiet f.layout (leading f))

-- and an infinity: its stored significand, and its pattern without the sign
abbrev pub infinity : Layout → ℕ → ℕ
infinity Hidden h = 0
infinity Explicit h = h

abbrev pub infinity_body : Format → ℕ
infinity_body f = top_field f * field_weight f + infinity f.layout (leading f)

-- the one pattern that a class is written as
unfoldable pub pattern_of : Format → Class → ℕ
pattern_of f unsupported = house_nan f
pattern_of f (nan n s) = with_sign f n (top_field f * field_weight f + s)
pattern_of f (infinite n) = with_sign f n (infinity_body f)
pattern_of f (finite v) = with_sign f v.negative (magnitude f v.count)

-- [2.10] a pattern is ordinary, unless it shows a leading digit with the field 0
unfoldable pub ordinary : Format → ℕ → Bool
ordinary f b = not (eqb (b / field_weight f % (top_field f + 1)) 0 && leb (leading f) (b % field_weight f))

-- [2.10] the ordinary pattern of what a pattern stands for; of an unsupported one, the house NaN
abbrev pub ordinary_of : Format → ℕ → ℕ
ordinary_of f b = pattern_of f (class_of f b)

-- [2.7] the exponent of a count that is not zero
abbrev pub exponent_of : Format → ℕ → ℤ
exponent_of f n = f.smallest +ℤ pos (size n - 1)

-- the count that a value's exponent reaches the bias with has this many digits, and no finite value more
abbrev pub reach : Format → ℕ
reach f = 2 * f.bias + f.precision - 1

-- [2.2] the largest gap: the largest finite value by the smallest one
abbrev pub largest_gap : Format → ℕ
largest_gap f = reach f - 1

-- a count that the format holds: at most `precision` digits from the leading one to the last, and in range
pub record Representable (f : Format) (n : ℕ) : Type 0 where
  pub digits : Digits f.precision n
  pub range : size n ≤ reach f

-- the stored significand of a NaN: with its leading digit, and not that of an infinity
pub record NanStored (f : Format) (s : ℕ) : Type 0 where
  pub below : s < field_weight f
  pub leads : leading f ≤ hidden_part f.layout (leading f) + s
  pub more : s ≡ infinity f.layout (leading f) → ⊥

-- a class whose count or significand, if it has one, the format holds
abbrev pub Holds : Format → Class → Type 0
Holds f unsupported = Unit {0}
Holds f (nan n s) = NanStored f s
Holds f (infinite n) = Unit {0}
Holds f (finite v) = Representable f v.count

-- What the laws ask of a format. Each of the four is one: the smallest place is where the field 1 puts the last digit of a significand.
pub record Regular (f : Format) : Type 0 where
  pub digits : 2 ≤ f.precision
  pub range : 1 ≤ f.bias
  pub place : f.smallest +ℤ pos (f.bias + f.precision - 2) ≡ pos 0
