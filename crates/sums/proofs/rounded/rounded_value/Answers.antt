-- `rounded_value` meets its contract: the leading one is brought to bit 63, and what lies below the precision is rounded off.
use mathlib.Core.Path.{◌≡◌, sym, ap, ◌∙◌}
use mathlib.Core.Bool.{Bool}
use Prim.Native.Nat.{ℕ, ◌+◌, ◌-◌, ◌*◌, ◌%◌, ◌^◌, ◌≤◌, ◌<◌}
use native.Mathlib.Nat.{mod-eq_of_lt, pos_of_ne-zero, zero-mul}
use native.Mathlib.Omega.{arith}
use lib.Count.{count_leading_zeros}
use lib.IntN.{ℤ, pos, ◌+ℤ◌}
use lib.Signed.{mag}
use mir.Syntax.{w32}
use mir.Val.{to_z, of_z}
use Rattle.digits.proofs.Signed.{small_back, mag_add}
use lib.Ieee.{size}
use Rattle.digits.proofs.Size.{size_leading}
use Rattle.digits.proofs.Shift.{leading_under, shifted_small}
use Rattle.definitions.specs.Format.{Format}
use Rattle.definitions.specs.Difference.{rounded_to, limited}
use Rattle.laws.proofs.RoundedTo.{rounded_zero}
use Rattle.operands.specs.Operand.{normal_of, operand_of}
use Rattle.operands.specs.declared.Operand.{Operand}
use Rattle.operands.specs.declared.Operand.TheVariants.{Finite}
use Rattle.shapes.specs.Shape.{Sound}
use Rattle.packing.proofs.Standing.{smallest_small}
use Rattle.rounding.specs.Round.{round_of}
use Rattle.definitions.specs.declared.WithRounding.{WithRounding}
use Rattle.sums.specs.Limit.{limit_of}
use Rattle.sums.proofs.Limited.{limited_zero, limited_is, limit_other, value_near}
use Rattle.sums.proofs.rounded.rounded_value.Goals as goal

-- the format, and the word that the code is handed
module _ (f : Format) (ok : Sound f) (w place : ℕ) (some : 0 < w) (word : w < 2 ^ 64) (within : 63 ≤ size w + place) where
  under : count_leading_zeros 64 w < 64
  under = leading_under 64 w some word

  shifted : w * 2 ^ count_leading_zeros 64 w % 2 ^ 64 ≡ w * 2 ^ count_leading_zeros 64 w
  shifted = mod-eq_of_lt (shifted_small 64 w some word)

  fits : count_leading_zeros 64 w + f.precision ≤ place + 65
  fits = omega (arith, size_leading 64 w word, within, ok.narrow)

  -- the exponent t places above the smallest place, as it is written and read back
  module _ (s : ℤ) (s-is : s ≡ f.smallest) (z : ℤ) (t : ℕ) (e : z ≡ to_z w32 (of_z w32 s) +ℤ pos t) (l : t < 2 ^ 18) where
    exponent_is : z ≡ f.smallest +ℤ pos t
    exponent_is = rw (s-is, small_back f.smallest (omega (arith, smallest_small f ok))) at e

    exponent_small : mag z < 2 ^ 20
    exponent_small = rw exponent_is (omega (arith, mag_add f.smallest (pos t), smallest_small f ok))

    -- k places rounded off, and what is left brought to bit 63 again
    module _ (negative : Bool) (k : ℕ) (a : WithRounding ℕ) (o : Operand) (rounds : a ≡ round_of (w * 2 ^ count_leading_zeros 64 w % 2 ^ 64) k)
        (is : o ≡ normal_of negative a.value (to_z w32 (of_z w32 z))) where
      normal_is : o ≡ normal_of negative a.value z
      normal_is = rw (small_back z (omega (arith, exponent_small))) at is

      limited_as : k + f.precision ≡ 64 → t + (count_leading_zeros 64 w + f.precision) ≡ place + 65
          → (n : ℕ) → rounded_to f.precision w * 2 ^ place ≡ n * 2 ^ 62
          → limit_of f.bias o ≡ operand_of f.smallest (limited f negative n)
      limited_as kept places n counts =
          ap (limit_of f.bias)
          (normal_is ∙ ap (normal_of negative a.value) exponent_is
          ∙ ap (λ (r : WithRounding ℕ). normal_of negative r.value (f.smallest +ℤ pos t)) (rounds ∙ ap (λ (i : ℕ). round_of i k) shifted))
          ∙ limited_is f.precision w place n some word counts k t kept places f ok.regular negative

pub returns-then-x-eq0 : goal.returns-then-x-eq0
returns-then-x-eq0 g c n is =
    let f = g.F.Format.format in
    let z = rw (c.if-x-eq0.true, rounded_zero f.precision, zero-mul (2 ^ c.args.place)) at is in
    sym (limited_zero f g.met.F.Format.sound.regular c.args.x.negative n (omega arith))

pub overflow_sub-place : goal.overflow_sub-place
overflow_sub-place g c =
    let some = pos_of_ne-zero c.if-x-eq0.false in
    omega (arith, fits g.F.Format.format g.met.F.Format.sound c.args.x.word c.args.place some (omega arith) (c.requires.0 some), c.PRECISION.ensures, g.met.F.Format.precision_is)

pub returns-in_default : goal.returns-in_default
returns-in_default g c n is =
    let f = g.F.Format.format in
    let ok = g.met.F.Format.sound in
    let x = c.args.x in
    let place = c.args.place in
    let some = pos_of_ne-zero c.if-x-eq0.false in
    let word : x.word < 2 ^ 64 = omega arith in
    let within = c.requires.0 some in
    let holds = fits f ok x.word place some word within in
    let digits : c.PRECISION.result ≡ f.precision = c.PRECISION.ensures ∙ g.met.F.Format.precision_is in
    let cut : c.PRECISION-2.result ≡ f.precision = c.PRECISION-2.ensures ∙ g.met.F.Format.precision_is in
    let limited = limited_as f ok x.word place some word within _ (c.SMALLEST.ensures ∙ g.met.F.Format.smallest_is)
    _ _ c.exponent_above-exponent.ensures (omega (arith, c.requires.1)) x.negative _ _ _ c.round_places-rounded.ensures c.normalise-operand.ensures
    (omega (arith, cut, ok.narrow)) (omega (arith, digits, holds)) n is in
    limit_other f.bias c.normalise-operand.result c.in_default.not-Finite ∙ limited

pub limit-requires : goal.limit-requires
limit-requires g c =
    let f = g.F.Format.format in
    let ok = g.met.F.Format.sound in
    let x = c.args.x in
    let place = c.args.place in
    let some = pos_of_ne-zero c.if-x-eq0.false in
    let word : x.word < 2 ^ 64 = omega arith in
    let within = c.requires.0 some in
    let at = c.SMALLEST.ensures ∙ g.met.F.Format.smallest_is in
    let low : place + 65 - (count_leading_zeros 64 x.word + c.PRECISION.result) < 2 ^ 18 = omega (arith, c.requires.1) in
    let near = exponent_small f ok x.word place some word within _ at _ _ c.exponent_above-exponent.ensures low in
    let normal = normal_is f ok x.word place some word within _ at _ _ c.exponent_above-exponent.ensures low
    x.negative _ _ _ c.round_places-rounded.ensures c.normalise-operand.ensures in
    (value_near _ _ _ _ near (sym normal ∙ c.in-Finite.is), omega (arith, ok.short, c.BIAS.ensures, g.met.F.Format.bias_is))

pub returns : goal.returns
returns g c n is =
    let f = g.F.Format.format in
    let ok = g.met.F.Format.sound in
    let x = c.args.x in
    let place = c.args.place in
    let some = pos_of_ne-zero c.if-x-eq0.false in
    let word : x.word < 2 ^ 64 = omega arith in
    let within = c.requires.0 some in
    let holds = fits f ok x.word place some word within in
    let digits : c.PRECISION.result ≡ f.precision = c.PRECISION.ensures ∙ g.met.F.Format.precision_is in
    let cut : c.PRECISION-2.result ≡ f.precision = c.PRECISION-2.ensures ∙ g.met.F.Format.precision_is in
    let limited = limited_as f ok x.word place some word within _ (c.SMALLEST.ensures ∙ g.met.F.Format.smallest_is)
    _ _ c.exponent_above-exponent.ensures (omega (arith, c.requires.1)) x.negative _ _ _ c.round_places-rounded.ensures c.normalise-operand.ensures
    (omega (arith, cut, ok.narrow)) (omega (arith, digits, holds)) n is in
    c.limit.ensures ∙ ap (λ (b : ℕ). limit_of b (Finite c.in-Finite.value)) (c.BIAS.ensures ∙ g.met.F.Format.bias_is)
    ∙ ap (limit_of f.bias) (sym c.in-Finite.is) ∙ limited
