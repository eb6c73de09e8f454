-- `written` meets its contract: it is zero, or its leading one reaches the top, or not.
use Prim.Native.Nat.{◌-◌, ◌^◌}
use native.Mathlib.Nat.{pos_of_ne-zero, zero-mul}
use Rattle.quick_x87.proofs.Pattern.{zero_pattern, normal, denormal}
use Rattle.quick_x87.proofs.written.Goals as goal

pub returns-then-significand-eq0 : goal.returns-then-significand-eq0
returns-then-significand-eq0 c = zero_pattern c.args.negative _ c.sign_of-sign.ensures _ (rw c.if-significand-eq0.true (zero-mul (2 ^ (c.args.field - 1))))

pub returns-then-zeros-field : goal.returns-then-zeros-field
returns-then-zeros-field c =
    normal c.args.negative _ c.sign_of-sign.ensures _ _ (pos_of_ne-zero c.if-significand-eq0.false) c.ranges.significand.fits c.requires.0 c.if-zeros-field.true

pub returns-else-zeros-field : goal.returns-else-zeros-field
returns-else-zeros-field c =
    denormal c.args.negative _ c.sign_of-sign.ensures _ _ (pos_of_ne-zero c.if-significand-eq0.false) c.ranges.significand.fits c.requires.0 c.if-zeros-field.false
