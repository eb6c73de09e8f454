-- `remainder_common` meets its contract: its calls, put together.
use Rattle.std.proofs.Common.{◌≡◌, ◌-◌, ◌*◌, ◌%◌, ◌^◌, Bool, true, false, leb, sym, ap, ◌∙◌, zero-add, arith}
use Rattle.definitions.specs.Format.{binary64}
use Rattle.definitions.specs.Division.{rounds_up}
use Rattle.definitions.specs.Remainder.{remainder}
use Rattle.division.specs.declared.Divided.{Divided}
use Rattle.division.specs.Divided.{divided_of}
use Rattle.division.specs.Divisions.{divisions_of}
use Rattle.pairs.specs.Divisions.{divisions}
use Rattle.quick.specs.Common.{field_of}
use Rattle.quick.specs.Settled.{settled_of}
use Rattle.quick.specs.declared.Settled.{Settled}
use Rattle.quick.proofs.Normals.{normal_significand, Normal}
use Rattle.quick.proofs.Fields.{Fields, fields, dividend, divisor, spread_is}
use Rattle.quick.proofs.Operands.{divisions_are}
use Rattle.quick.proofs.Scaled.{settled_answer, left_below, left_ends, left_answer}
use Rattle.quick.proofs.remainder_common.Goals.{After-divide_quick-counted}
use Rattle.quick.proofs.remainder_common.Goals as goal

-- what is divided, and what the division leaves
module _ (c : After-divide_quick-counted) where
  abbrev D : Divided
  D = c.divide_quick-counted.result.value

  ordered : Fields c.args.x c.args.y
  ordered = fields c.args.x c.args.y c.requires

  nx : Normal binary64 c.args.x
  nx = dividend c.args.x c.args.y ordered

  ny : Normal binary64 c.args.y
  ny = divisor c.args.x c.args.y ordered

  a_is : c.spread.result ≡ normal_significand binary64 c.args.x * 2 ^ 11
  a_is = c.spread.ensures ∙ spread_is c.args.x

  b_is : c.spread-divisor.result ≡ normal_significand binary64 c.args.y * 2 ^ 11
  b_is = c.spread-divisor.ensures ∙ spread_is c.args.y

  left_is : D ≡ divided_of c.spread.result c.spread-divisor.result (field_of c.args.x - field_of c.args.y)
  left_is = c.divide_quick-counted.ensures.divided ∙ (λ i. divided_of c.spread.result c.spread-divisor.result (c.field_of.ensures i - c.field_of-field.ensures i))

  divisions_is : c.divide_quick-counted.result.divisions ≡ divisions binary64 c.args.x c.args.y
  divisions_is =
      c.divide_quick-counted.ensures.divisions
      ∙ (λ i. divisions_of (c.spread.ensures i) (c.spread-divisor.ensures i) (c.field_of.ensures i - c.field_of-field.ensures i))
      ∙ sym (divisions_are c.args.x c.args.y nx ny ordered.order)

  rest_ends : D.remainder % 2 ^ 11 ≡ 0
  rest_ends = left_ends binary64 11 _ _ _ _ nx ny ordered.order a_is b_is D left_is

  -- whether or not the quotient goes up
  settled_ends : (u n : Bool) → (settled_of u n D c.spread-divisor.result).rest % 2 ^ 11 ≡ 0
  settled_ends true n = omega (arith, b_is, rest_ends, left_below binary64 11 _ _ _ _ nx ny ordered.order a_is b_is D left_is)
  settled_ends false n = rest_ends

  answered : (S : Settled) → S ≡ settled_of (rounds_up c.args.kind D.quotient D.remainder c.spread-divisor.result) (leb (2 ^ 63) c.args.x) D c.spread-divisor.result
      → settled_answer binary64 11 S c.field_of-field.result ≡ remainder binary64 c.args.kind c.args.x c.args.y
  answered S e = ap (settled_answer binary64 11 S) c.field_of-field.ensures ∙ left_answer binary64 11 _ _ _ _ nx ny ordered.order a_is b_is D left_is c.args.kind S e

pub written-requires : goal.written-requires
written-requires c =
    let d = (goal.at.written-requires c).After-divide_quick-counted in
    let o = ordered d in
    (rw c.settle-settled.ensures (settled_ends d _ _), omega (arith, c.field_of-field.ensures, o.some), omega (arith, c.field_of-field.ensures, o.order, o.below_top))

pub returns : goal.returns
returns c =
    let d = (goal.at.returns c).After-divide_quick-counted in record {
      answer = (λ i. record { number = 0; value = (zero-add c.written.result ∙ c.written.ensures) i; quotient = c.quotient_bits.ensures i })
          ∙ answered d c.settle-settled.result c.settle-settled.ensures;
      divisions = divisions_is d;
    }
