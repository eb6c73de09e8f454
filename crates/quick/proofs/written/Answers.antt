-- `written` meets its contract: it is zero, or its leading one reaches the top, or not.
use Rattle.std.proofs.Common.{◌-◌, ◌*◌, ◌/◌, ◌^◌, sym, refl, ◌∙◌, pos_of_ne-zero, zero-mul}
use Rattle.definitions.specs.Format.{binary64}
use Rattle.quick.proofs.Magnitude.{Given}
use Rattle.quick.proofs.Pattern.{zero_pattern, written_is}
use Rattle.quick.proofs.written.Goals as goal

pub returns-then-significand-eq0 : goal.returns-then-significand-eq0
returns-then-significand-eq0 c =
    let a = c.args in
    c.sign_of-sign.ensures ∙ sym (zero_pattern a.negative (a.significand / 2 ^ 11 * 2 ^ (a.field - 1)) (rw c.if-significand-eq0.true (zero-mul (2 ^ (a.field - 1)))))

pub returns : goal.returns
returns c =
    let given : let a = c.args in Given binary64 11 a.significand a.field =
    record { full = refl; ends = c.requires.0; some = pos_of_ne-zero c.if-significand-eq0.false; word = c.ranges.significand.fits; low = c.requires.1 }
    in
    let a = c.args in
    written_is a.negative c.sign_of-sign.result a.significand a.field c.sign_of-sign.ensures given c.min-shift.result c.min-shift.ensures
