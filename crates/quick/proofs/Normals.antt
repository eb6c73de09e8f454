-- What a normal pattern stands for, and what the definition answers for two patterns that stand for numbers, in every format. Assumes nothing.
use Rattle.std.proofs.Common.{◌≡◌, ℕ, suc, ◌+◌, ◌-◌, ◌*◌, ◌/◌, ◌%◌, ◌^◌, ◌<◌, ◌≤◌, false, leb, sym, ap, ◌∙◌, lt_of_lt_of_le, mul-pos, arith, pow_pos}
use Rattle.digits.proofs.Tests.{not_zero}
use Rattle.definitions.specs.Class.{Value, finite}
use Rattle.definitions.specs.Format.{Format, Regular, top_field, leading, hidden_part, field_weight, sign_weight, fields_class, class_of, pattern_of}
use Rattle.definitions.specs.Numbers.{first}
use Rattle.definitions.specs.Facts.{refused_value, denormal}
use Rattle.definitions.specs.Division.{finish_by, finish}
use Rattle.definitions.specs.Remainder.{Remainder, quotient_bits, remainder_of, remainder}
use Rattle.definitions.specs.declared.Kind.{Kind}
use Rattle.laws.proofs.Layouts.{weight, high_read}
use Rattle.laws.proofs.Pattern.{rest_small}

-- the parts of a pattern, and its value if it is normal
abbrev pub exponent_field : Format → ℕ → ℕ
exponent_field f b = b / field_weight f % (top_field f + 1)

abbrev pub normal_significand : Format → ℕ → ℕ
normal_significand f b = hidden_part f.layout (leading f) + b % field_weight f

abbrev pub normal_value : Format → ℕ → Value
normal_value f b = record { negative = leb (sign_weight f) b; count = normal_significand f b * 2 ^ (exponent_field f b - 1) }

-- a normal pattern: neither the first field nor the last, and a leading digit
pub record Normal (f : Format) (b : ℕ) : Type 0 where
  pub some : 0 < exponent_field f b
  pub below_top : exponent_field f b < top_field f
  pub leads : leading f ≤ normal_significand f b

module _ (f : Format) (b : ℕ) where
  pub significand_small : Regular f → normal_significand f b < leading f + leading f
  significand_small r = omega (arith, weight f.layout f r, rest_small f b)

  module _ (n : Normal f b) where
    pub significand_pos : 0 < normal_significand f b
    significand_pos = lt_of_lt_of_le (pow_pos (f.precision - 1)) n.leads

    pub count_pos : 0 < (normal_value f b).count
    count_pos = mul-pos significand_pos (pow_pos (exponent_field f b - 1))

    pub normal_class : class_of f b ≡ finite (normal_value f b)
    unfolding class_of
    normal_class =
        let j = exponent_field f b - 1 in
        let t = b % field_weight f in
        let e : suc j ≡ exponent_field f b = omega arith in
        ap (λ (i : ℕ). fields_class f.layout f (leb (sign_weight f) b) i t) (sym e) ∙ high_read f.layout f (leb (sign_weight f) b) j t (omega arith) n.leads

    pub normal_denormal : denormal f b ≡ false
    unfolding denormal
    normal_denormal = simp (not_zero (exponent_field f b) n.some)

-- the answer of an accepted call
abbrev pub answer_of : Format → Value → ℕ → Remainder
answer_of f v q = record { number = 0; value = pattern_of f (finite v); quotient = quotient_bits q }

pub normals_answer : (f : Format) (κ : Kind) (x y : ℕ) → Normal f x → Normal f y
    → let r = finish_by κ (normal_value f y).count (normal_value f x) in remainder f κ x y ≡ answer_of f r.value r.whole
unfolding remainder remainder_of first finish refused_value
normals_answer f κ x y nx ny = rw (normal_class f x nx, normal_class f y ny, not_zero (normal_value f y).count (count_pos f y ny))
