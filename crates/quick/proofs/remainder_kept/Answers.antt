-- `remainder_kept` meets its contract.
use Rattle.std.proofs.Common.{◌∙◌, zero-add, arith}
use Rattle.definitions.specs.Format.{binary64}
use Rattle.laws.proofs.Regular.{regular64}
use Rattle.quick.proofs.Below.{kept_answer}
use Rattle.quick.proofs.Fields.{below, dividend_below, divisor_above}
use Rattle.quick.proofs.Operands.{kept_divisions}
use Rattle.quick.proofs.remainder_kept.Goals as goal

pub returns : goal.returns
returns c =
    let a = c.args in
    let f = below a.kind a.x a.y c.requires in
    let x = dividend_below a.kind a.x a.y f in
    let y = divisor_above a.kind a.x a.y f in record {
      answer = (λ i. record { number = 0; value = zero-add a.x i; quotient = 0 }) ∙ kept_answer binary64 regular64 a.x a.y x y a.kind c.ranges.x.fits f.apart;
      divisions = kept_divisions a.x a.y x y (omega (arith, f.apart));
    }
