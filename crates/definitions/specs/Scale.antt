-- Scaling by a power of two, and splitting. Definitions only.
use Rattle.std.specs.Prelude.{ℕ, suc, ◌-◌, ◌*◌, ◌/◌, ◌^◌, Bool, cond, List, [], ◌∷◌, eqb, ℤ, pos, negsuc, nat_abs}
use Rattle.std.specs.Int.Signed.{lt_z}
use Rattle.std.specs.Float.Ieee.{size}
use Rattle.definitions.specs.Class.{Value, Class, unsupported, nan, infinite, finite}
use Rattle.definitions.specs.Format.{Format, class_of, pattern_of, exponent_of}
use Rattle.definitions.specs.Numbers.{Check, check, first, accepted, is_unsupported, is_nan, is_infinite, is_zero}
use Rattle.definitions.specs.Division.{dividend_of}
use Rattle.definitions.specs.Facts.{refused_value}
use Rattle.definitions.specs.declared.Rounding.{Rounding}
use Rattle.definitions.specs.declared.Rounding.TheVariants.{Exact, Up}
use Rattle.definitions.specs.Round.{round}

-- a scaled value, and how it was rounded
pub record Scaled : Type 0 where
  pub class : Class
  pub says : Rounding

-- [6.3, 6.4] an exponent above the bias gives an infinity, and an infinity from a value is up
abbrev pub bounded : Format → Bool → ℕ → Rounding → Scaled
bounded f s n says = cond (lt_z (pos f.bias) (exponent_of f n)) (record { class = infinite s; says = Up }) (record { class = finite (record { negative = s; count = n }); says = says })

-- [6.1, 6.2] x·2^k, rounded once, and only below the smallest place
unfoldable pub scale_value : Format → Value → ℤ → Scaled
unfolding round
scale_value f v (pos k) = bounded f v.negative (v.count * 2 ^ k) Exact
scale_value f v (negsuc k) = let c = round v.count (suc k) in bounded f v.negative c.quotient c.says

-- [6.5] zeros and infinities stay as they are
unfoldable pub scale_class : Format → Class → ℤ → Scaled
unfolding scale_value
scale_class f unsupported k = record { class = unsupported; says = Exact }
scale_class f (nan n s) k = record { class = nan n s; says = Exact }
scale_class f (infinite s) k = record { class = infinite s; says = Exact }
scale_class f (finite v) k = let a = scale_value f v k in cond (eqb v.count 0) (record { class = finite v; says = Exact }) a

-- [7.4] what scaling refuses
abbrev pub scaling : Class → List Check
scaling x = check 2 (is_unsupported x) ∷ check 3 (is_nan x) ∷ []

pub record ScaleReport : Type 0 where
  pub number : ℕ
  pub value : ℕ
  pub says : Rounding

-- [7.5] what x stands for, scaled by 2 ^ k; a refusal says exact
unfoldable pub scale_of : Format → Class → ℤ → ScaleReport
unfolding first scale_class refused_value
scale_of f x k =
    let n = first (scaling x) in
    let s = scale_class f x k in
    record { number = n; value = cond (accepted n) (pattern_of f s.class) (refused_value f n x x); says = cond (accepted n) s.says Exact }

-- the pattern x scaled by 2 ^ k
unfoldable pub scale_report : Format → ℕ → ℤ → ScaleReport
unfolding scale_of
scale_report f x k = scale_of f (class_of f x) k

-- [6.6] the count of v with its leading one moved to the place of one, 2 ^ 0
unfoldable pub significand_of : Format → Value → Value
significand_of f v = record { negative = v.negative; count = v.count * 2 ^ nat_abs f.smallest / 2 ^ (size v.count - 1) }

-- [7.1] what splitting refuses: 4 is an infinity here, and 8 a zero
abbrev pub splitting : Class → List Check
splitting x = check 2 (is_unsupported x) ∷ check 3 (is_nan x) ∷ check 4 (is_infinite x) ∷ check 8 (is_zero x) ∷ []

pub record SplitReport : Type 0 where
  pub number : ℕ
  pub significand : ℕ
  pub exponent : ℤ

-- [6.6, 7.5] what x stands for, split; a refusal has the exponent 0
unfoldable pub split_of : Format → Class → SplitReport
unfolding first significand_of refused_value
split_of f x =
    let n = first (splitting x) in
    let v = dividend_of x in
    record {
      number = n;
      significand = cond (accepted n) (pattern_of f (finite (significand_of f v))) (refused_value f n x x);
      exponent = cond (accepted n) (exponent_of f v.count) (pos 0);
    }

-- the pattern x split
unfoldable pub split_report : Format → ℕ → SplitReport
unfolding split_of
split_report f x = split_of f (class_of f x)
