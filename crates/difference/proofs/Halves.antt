-- Two values as the code has them unpacked: the words that it subtracts, and values of the other sign. Assumes nothing.
use mathlib.Core.Path.{◌≡◌, refl, sym, ap, ◌∙◌, subst}
use Prim.Native.Nat.{ℕ, ◌+◌, ◌-◌, ◌*◌, ◌/◌, ◌%◌, ◌^◌, ◌≤◌, ◌<◌, ◌∣◌}
use native.Mathlib.Nat.{mul-le-mul_right, mod-eq-zero_of_dvd, dvd_trans, mul-dvd-mul_right, dvd_of_mul-dvd-mul_right}
use native.Mathlib.Omega.{arith}
use lib.Pow.{pow-add, pow_pos}
use lib.Ieee.{size}
use Rattle.digits.specs.Digits.{Digits}
use Rattle.digits.proofs.Digits.{pow_dvd, digits_dvd, digits_more}
use Rattle.definitions.specs.Class.{Value, finite}
use Rattle.definitions.specs.Format.{Format}
use Rattle.definitions.specs.Difference.{exact_difference, rounded_to, limited, difference_value}
use Rattle.laws.specs.OddCut.{odd_cut}
use Rattle.laws.proofs.Difference.{value_is, difference_swap}
use Rattle.operands.specs.Operand.{unpacked_of, operand_of, place_in, value_in}
use Rattle.operands.specs.declared.Operand.TheVariants.{Finite}
use Rattle.operands.specs.declared.Unpacked.{Unpacked}
use Rattle.operands.proofs.Lead.{lead, lead_top, lead_exact, some_operand}
use Rattle.shapes.specs.Shape.{Sound}
use Rattle.packing.specs.Stands.{StandsValue}
use Rattle.packing.proofs.Standing.{unpacks, stands_value}
use Rattle.packing.proofs.Places.{Placed, placed}
use Rattle.difference.specs.Opposite.{opposite_of}
use Rattle.difference.proofs.Aligned.{Agrees, words_agree, odd_below}

-- a significand of at most 62 digits leaves two below them
lead_room : (n : ℕ) → 0 < n → Digits 62 n → lead n % 4 ≡ 0
lead_room n some d =
    let k = size n - 62 in
    let e = size n - 1 in
    let whole : 2 ^ (k + 63) ∣ n * 2 ^ 63 = rw (pow-add 2 k 63) (mul-dvd-mul_right (2 ^ k) (digits_dvd 62 n d) (2 ^ 63)) in
    let f : 2 ^ (2 + e) ∣ lead n * 2 ^ e =
    rw (lead_exact n some (digits_more 62 64 n (omega arith) d)) (dvd_trans (2 ^ (2 + e)) (pow_dvd (2 + e) (k + 63) (omega arith)) whole) in
    mod-eq-zero_of_dvd 4 (dvd_of_mul-dvd-mul_right 4 (pow_pos e) (rw (pow-add 2 2 e) at f))

module _ (f : Format) (ok : Sound f) where
  module _ (u : Unpacked) (stands : StandsValue f (Finite u)) where
    value : Placed f (value_in f.smallest u) u
    value = placed f ok u stands

    top : 2 ^ 63 ≤ u.significand
    top = rw value.lead_is (lead_top (value_in f.smallest u).count value.some)

    -- its half, where two digits are left below it
    room : f.precision ≤ 60 → u.significand % 4 ≡ 0
    room narrow = rw value.lead_is (lead_room (value_in f.smallest u).count value.some (digits_more f.precision 62 _ (omega arith) value.held.digits))

    half_is : f.precision ≤ 60 → (i : ℕ) → i ≡ place_in f.smallest u.exponent → u.significand / 2 * 2 ^ i ≡ (value_in f.smallest u).count * 2 ^ 62
    half_is narrow i e =
        let a = u.significand in
        let d : a ≡ a / 2 * 2 = omega (arith, room narrow) in
        let g : a * 2 ^ i ≡ a / 2 * 2 ^ i * 2 = ap (λ (z : ℕ). z * 2 ^ i) d ∙ omega arith in
        omega (arith, ap (λ (z : ℕ). a * 2 ^ z) e ∙ value.same)

    -- the value of the other sign
    pub opposite_operand : operand_of f.smallest (finite (value_in f.smallest (opposite_of u))) ≡ Finite (opposite_of u)
    unfolding unpacked_of
    opposite_operand =
        some_operand f.smallest (value_in f.smallest (opposite_of u)) value.some
        ∙ ap (λ (w : Unpacked). Finite (opposite_of w)) (sym (unpacks f ok u stands).is)

    pub opposite_stands : StandsValue f (Finite (opposite_of u))
    opposite_stands = stands_value f ok (value_in f.smallest (opposite_of u)) (Finite (opposite_of u)) value.held (sym opposite_operand)

  module _ (narrow : f.precision ≤ 60) (x y : Unpacked) (sx : StandsValue f (Finite x)) (sy : StandsValue f (Finite y)) (place gap : ℕ)
      (ex : place ≡ place_in f.smallest x.exponent) (ey : place_in f.smallest y.exponent + gap ≡ place) where
    pub sum_small : x.significand / 2 + odd_cut (y.significand / 2) gap < 2 ^ 64
    sum_small =
        let m : 1 * 2 ^ 63 ≤ 2 ^ gap * 2 ^ 63 = mul-le-mul_right (2 ^ 63) (pow_pos gap) in
        omega (arith, (value x sx).word, odd_below (2 ^ 63) (y.significand / 2) gap refl (omega (arith, (value y sy).word)))

    -- the words that the code subtracts, and the values
    abbrev pub words : Value
    words =
        exact_difference (record { negative = x.negative; count = x.significand / 2 })
        (record { negative = y.negative; count = odd_cut (y.significand / 2) gap })

    abbrev pub exact : Value
    exact = exact_difference (value_in f.smallest x) (value_in f.smallest y)

    pub values_agree : Agrees f.precision place words exact
    values_agree =
        let py = place_in f.smallest y.exponent in
        subst (λ (i : ℕ). Agrees f.precision i words exact) ey
        (words_agree f.precision (x.significand / 2) (y.significand / 2) gap py (value_in f.smallest x).count (value_in f.smallest y).count narrow
        (omega (arith, top x sx)) (omega (arith, (value y sy).word)) (omega (arith, room x sx narrow)) (omega (arith, room y sy narrow))
        (half_is x sx narrow (py + gap) (ey ∙ ex)) (half_is y sy narrow py refl) x.negative y.negative)

  -- x - y is -y - -x
  pub opposite_difference : (x y : Unpacked) → (let s = f.smallest in
      difference_value f (value_in s (opposite_of y)) (value_in s (opposite_of x)) ≡ difference_value f (value_in s x) (value_in s y))
  opposite_difference x y =
      let s = f.smallest in
      value_is f (value_in s (opposite_of y)) (value_in s (opposite_of x))
      ∙ ap (λ (v : Value). limited f v.negative (rounded_to f.precision v.count))
      (difference_swap x.negative y.negative (value_in s x).count (value_in s y).count)
      ∙ sym (value_is f (value_in s x) (value_in s y))
