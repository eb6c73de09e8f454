-- `written` meets its contract: it is zero, or its leading digit reaches its place, or not.
use mathlib.Core.Path.{◌≡◌, sym, ◌∙◌}
use mathlib.Core.Bool.{cond}
use mathlib.Core.Logic.{inl, inr}
use Prim.Native.Nat.{◌-◌, ◌*◌, ◌^◌}
use native.Mathlib.Nat.{pos_of_ne-zero, zero-mul}
use native.Mathlib.Omega.{arith}
use lib.Ieee.Digits.{size-le}
use Rattle.digits.proofs.Size.{size_leading}
use Rattle.definitions.specs.Format.{sign_weight}
use Rattle.quick_short.proofs.Pattern.{zero_pattern, Written, written}
use Rattle.quick_short.proofs.written.Given.{Over}
use Rattle.quick_short.proofs.written.Goals.{Joined-negative, Joined-zeros-field, else-negative, then-negative, else-zeros-field, then-zeros-field}
use Rattle.quick_short.proofs.written.Goals as goal

signed : (g : Over) (c : Joined-negative g) → c.if-negative.sign ≡ cond c.args.negative (sign_weight g.F.Format.format) 0
signed g c =
    elim c.if-negative.branch [
      | then-negative w ↦ w.sign-is ∙ rw w.if-negative.true w.sign_weight-sign.ensures
      | else-negative w ↦ w.sign-is ∙ rw w.if-negative.false
    ]

module _ (g : Over) (c : Joined-zeros-field g) (sign_is : c.if-negative.sign ≡ cond c.args.negative (sign_weight g.F.Format.format) 0) where
  precise : c.PRECISION.result ≡ g.F.Format.format.precision
  precise = c.PRECISION.ensures ∙ g.met.F.Format.precision_is

  pattern : Written g.F.Format.format g.met.F.Short.short c.args.negative c.if-negative.sign c.args.significand c.args.field c.PRECISION.result precise sign_is
      (pos_of_ne-zero c.if-significand-eq0.false) c.ranges.significand.fits c.requires.0 c.requires.1 c.requires.2 c.if-zeros-field.shift
  pattern =
      written _ _ _ _ _ _ _ _ _ _ _ _ _ _ _
      (elim c.if-zeros-field.branch [ then-zeros-field w ↦ inl (w.if-zeros-field.true, w.shift-is) | else-zeros-field w ↦ inr (w.if-zeros-field.false, w.shift-is) ])

pub returns-then-significand-eq0 : goal.returns-then-significand-eq0
returns-then-significand-eq0 g c =
    let a = c.args in
    signed g (goal.at.returns-then-significand-eq0 g c).Joined-negative
    ∙ sym (zero_pattern g.F.Format.format g.met.F.Short.short a.negative (a.significand * 2 ^ (a.field - 1)) (rw c.if-significand-eq0.true (zero-mul (2 ^ (a.field - 1)))))

pub overflow_sub-zeros-2 : goal.overflow_sub-zeros-2
overflow_sub-zeros-2 g c =
    let digits = size-le c.args.significand g.F.Format.format.precision c.requires.0 in
    let all = size_leading 64 c.args.significand c.ranges.significand.fits in
    omega (arith, c.PRECISION.ensures, g.met.F.Format.precision_is, digits, all)

pub overflow_add-result : goal.overflow_add-result
overflow_add-result g c =
    let at = goal.at.overflow_add-result g c in
    let p = pattern g at.Joined-zeros-field (signed g at.Joined-negative) in
    record { fits = rw (c.leading_weight.ensures, p.whole) (omega (arith, p.fits)) }

pub overflow_add-result-2 : goal.overflow_add-result-2
overflow_add-result-2 g c =
    let at = goal.at.overflow_add-result-2 g c in
    let p = pattern g at.Joined-zeros-field (signed g at.Joined-negative) in
    record { fits = rw (c.leading_weight.ensures, p.whole) p.fits }

pub returns : goal.returns
returns g c =
    let at = goal.at.returns g c in
    let p = pattern g at.Joined-zeros-field (signed g at.Joined-negative) in
    rw (c.leading_weight.ensures, p.whole) p.is
