-- `normalise` meets its contract: the shift is the count of leading zeros, and nothing is shifted out.
use native.Mathlib.Nat.{mod-eq_of_lt, pos_of_ne-zero}
use native.Mathlib.Omega.{arith}
use borrow.Author.Tests.{eq-eqb, ne_eqb}
use lib.Count.{count_leading_zeros}
use lib.IntN.{pos}
use mir.Syntax.{w32}
use mir.ValLaws.{to_z-of_z, to_z_pos}
use Rattle.digits.proofs.Signed.{sub_is}
use Rattle.digits.proofs.Shift.{leading_under, shifted_small}
use Rattle.operands.specs.Operand.{normal_of}
use Rattle.operands.proofs.normalise.Goals as goal

pub returns-then-significand-eq0 : goal.returns-then-significand-eq0
unfolding normal_of
returns-then-significand-eq0 c = simp (eq-eqb _ _ c.if-significand-eq0.true)

pub returns : goal.returns
unfolding normal_of
returns c =
    let some = pos_of_ne-zero c.if-significand-eq0.false in
    let word = c.ranges.significand.fits in
    let places = count_leading_zeros 64 c.args.significand in
    let under = leading_under 64 c.args.significand some word in
    simp (
      ne_eqb _ _ c.if-significand-eq0.false,
      mod-eq_of_lt (shifted_small 64 c.args.significand some word),
      sub_is c.args.exponent (pos places) _ _ (to_z-of_z w32 c.args.exponent c.ranges.exponent) (to_z_pos w32 _ (omega (arith, under))) (omega arith) (omega (arith, under)),
    )
