-- `power_of_two` meets its contract. The loop's invariant: the power of the exponent's digits that are passed.
use Rattle.std.proofs.Common.{◌≡◌, ℕ, ◌+◌, ◌-◌, ◌*◌, ◌/◌, ◌%◌, ◌^◌, ◌<◌, ◌≤◌, ap, ◌∙◌, le_trans, lt_of_lt_of_le, lt_of_le_of_lt, le_of_lt, mod-lt, div-one, arith, pow_pos, pow_mono}
use lib.Count.{count_leading_zeros}
use lib.Pow.{shr_le}
use Rattle.division.proofs.Squares.{zeros_few, upper_six, squarings_are, squarings_few, start_power, digit_zero, digit_one}
use Rattle.division.proofs.turns.power_of_two.Goals.{else-e-digit-eq0, then-e-digit-eq0}
use Rattle.division.proofs.turns.power_of_two.Goals as goal

pub overflow_sub-further : goal.overflow_sub-further
overflow_sub-further c = omega (arith, zeros_few c.args.e c.requires c.ranges.e.fits)

pub overflow_cast-power : goal.overflow_cast-power
overflow_cast-power c = record { fits = lt_of_le_of_lt (shr_le c.args.e _) (omega (arith, c.ranges.e.fits)) }

pub overflow_shl-power : goal.overflow_shl-power
overflow_shl-power c = upper_six c.args.e c.requires c.ranges.e.fits

pub loop-digit-init : goal.loop-digit-init
loop-digit-init c =
    let a = c.args in
    let h = upper_six a.e c.requires c.ranges.e.fits in
    let t = a.e / 2 ^ (26 - count_leading_zeros 32 a.e) in
    let s = start_power t h in
    (omega (arith, squarings_are a.e c.requires c.ranges.e.fits), rw s (le_trans (pow_mono {i = t} {j = 63} (omega arith)) c.args.b.top), rw s)

pub multiplied-square-requires : goal.multiplied-square-requires
multiplied-square-requires c = c.loop-digit.invariant.1

pub overflow_shr-e : goal.overflow_shr-e
overflow_shr-e c =
    let few : c.loop-digit.digit + c.loop-digit.divisions ≤ 26 =
    squarings_few c.loop-digit.invariant.0 c.ranges.e.fits
    in
    omega (arith, few)

pub doubled-power-requires : goal.doubled-power-requires
doubled-power-requires c = rw c.multiplied-square.ensures (mod-lt _ (lt_of_lt_of_le (pow_pos 63) c.args.b.top))

pub overflow_add-divisions : goal.overflow_add-divisions
overflow_add-divisions c =
    let few : c.loop-digit.digit + c.loop-digit.divisions ≤ 26 =
    squarings_few c.loop-digit.invariant.0 c.ranges.e.fits
    in
    record { fits = omega (arith, few) }

pub loop-digit-preserved : goal.loop-digit-preserved
loop-digit-preserved c =
    let m = c.multiplied-square in
    let l = c.loop-digit in
    let e = c.args.e in
    let b = c.args.b.divisor in
    let some = lt_of_lt_of_le (pow_pos 63) c.args.b.top in
    let zero = digit_zero e l.digit b l.power m.result (omega arith) l.invariant.2 m.ensures in
    let one = digit_one e l.digit b l.power m.result (omega arith) l.invariant.2 m.ensures in (
      omega (arith, l.invariant.0),
      elim c.if-e-digit-eq0.branch [
        | then-e-digit-eq0 w ↦ reduced (l.power * l.power) some (w.power-is ∙ m.ensures)
        | else-e-digit-eq0 w ↦ reduced (m.result * 2) some (w.power-is ∙ w.doubled-power.ensures)
      ],
      elim c.if-e-digit-eq0.branch [
        | then-e-digit-eq0 w ↦ rw w.power-is (zero w.if-e-digit-eq0.true)
        | else-e-digit-eq0 w ↦ one w.if-e-digit-eq0.false c.if-e-digit-eq0.power (w.power-is ∙ w.doubled-power.ensures)
      ],
    )
  where
    reduced : {r b : ℕ} → (n : ℕ) → 0 < b → r ≡ n % b → r ≤ b
    reduced n some is = rw is (le_of_lt (mod-lt n some))

pub returns : goal.returns
returns c =
    let l = c.loop-digit in
    let z : l.digit ≡ 0 = omega arith in
    let e : c.args.e / 2 ^ l.digit ≡ c.args.e = rw z (div-one c.args.e) in record {
      power = (l.invariant.1, l.invariant.2 ∙ ap (λ (n : ℕ). 2 ^ n % c.args.b.divisor) e);
      divisions = omega (arith, l.invariant.0, z);
    }
