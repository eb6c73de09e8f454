-- `finish_counted` meets its contract: the gap decides which of the two laws holds, and whether anything is divided.
use Rattle.std.proofs.Common.{◌≡◌, ◌-ℤ◌, nat_abs, ap, ◌∙◌, arith, w32, to_z, of_z}
use mir.ValLaws.{to_z-of_z}
use Rattle.digits.proofs.Signed.{small_back}
use Rattle.division.specs.Divided.{divided_of}
use Rattle.division.specs.declared.Divided.{Divided}
use Rattle.pairs.specs.Pair.{settled_of, below_of}
use Rattle.pairs.proofs.TwoOperands.{below_pair, settled_pair}
use Rattle.pairs.proofs.finish_counted.Goals as goal

pub returns-then-d-lt0 : goal.returns-then-d-lt0
returns-then-d-lt0 c =
    let gap_back : to_z w32 (of_z w32 c.args.d) ≡ c.args.x.exponent -ℤ c.args.y.exponent =
    to_z-of_z w32 c.args.d c.ranges.d ∙ c.requires.2
    in
    let a = c.args in
    let below_zero = rw gap_back at c.if-d-lt0.true in record {
      left = λ s v w ux uy. c.settle_below.ensures ∙ ap (below_of a.kind a.x a.y) gap_back ∙ below_pair a.kind s v w a.x a.y ux uy below_zero;
      divisions = rw below_zero;
    }

pub returns : goal.returns
returns c =
    let gap_back : to_z w32 (of_z w32 c.args.d) ≡ c.args.x.exponent -ℤ c.args.y.exponent =
    to_z-of_z w32 c.args.d c.ranges.d ∙ c.requires.2
    in
    let exponent_back : to_z w32 (of_z w32 c.args.y.exponent) ≡ c.args.y.exponent =
    small_back c.args.y.exponent (omega (arith, c.requires.1.small))
    in
    let e = c.divide_counted-counted.ensures in
    let a = c.args in
    let d = a.x.exponent -ℤ a.y.exponent in
    let left = rw gap_back at c.if-d-lt0.false in
    let quotient : c.divide_counted-counted.result.value ≡ divided_of a.x.significand a.y.significand (nat_abs d) = rw gap_back at e.divided in record {
      left = λ s v w ux uy.
          c.settle.ensures ∙ ap (settled_of a.kind a.x.negative c.divide_counted-counted.result.value a.y.significand) exponent_back
          ∙ ap (λ (q : Divided). settled_of a.kind a.x.negative q a.y.significand a.y.exponent) quotient
          ∙ settled_pair a.kind s v w a.x a.y ux uy left;
      divisions = rw left (rw gap_back at e.divisions);
    }
