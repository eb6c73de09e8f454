-- `cut_pair` meets its contract: the division to `size` places, settled in the place that is left.
use mathlib.Core.Path.{◌≡◌, refl, ap, ◌∙◌}
use Prim.Native.Nat.{◌-◌, ◌*◌, ◌%◌, ◌^◌}
use native.Mathlib.Nat.{lt_of_lt_of_le, mod-lt}
use native.Mathlib.Omega.{arith}
use lib.IntN.{pos, ◌-ℤ◌}
use lib.Pow.{pow_pos}
use Rattle.digits.proofs.Signed.{mag_sub}
use Rattle.definitions.specs.declared.Kind.TheVariants.{Truncated}
use Rattle.division.specs.Divided.{divided_of}
use Rattle.pairs.specs.Pair.{settled_of}
use Rattle.pairs.specs.declared.Left.{Left}
use Rattle.partial.proofs.Pairs.{both_ready, cut_small, lower_fits, lower_is, cut_pair_is}
use Rattle.partial.proofs.cut_pair.Goals as goal

pub divide-divided-requires : goal.divide-divided-requires
divide-divided-requires c =
    (both_ready c.args.x c.args.y c.requires.0 c.requires.1).1.top

pub overflow_cast-size : goal.overflow_cast-size
overflow_cast-size c =
    let a = c.args in
    record { sfits = omega (arith, cut_small a.x a.y c.requires.0 c.requires.1 a.size a.places c.requires.2 c.requires.3) }

pub overflow_sub-x : goal.overflow_sub-x
overflow_sub-x c =
    let a = c.args in
    lower_fits a.x a.y c.requires.0 c.requires.1 a.size a.places c.requires.2 c.requires.3

pub settle-left-requires : goal.settle-left-requires
settle-left-requires c =
    let a = c.args in
    let ready = both_ready a.x a.y c.requires.0 c.requires.1 in
    let small = cut_small a.x a.y c.requires.0 c.requires.1 a.size a.places c.requires.2 c.requires.3 in (
      rw c.divide-divided.ensures (mod-lt _ (lt_of_lt_of_le (pow_pos 63) ready.1.top)),
      rw (lower_is a.x a.y c.requires.0 c.requires.1 a.size a.places c.requires.2 c.requires.3) (omega (arith, mag_sub a.x.exponent (pos a.size), ready.0.small, small)),
    )

pub returns : goal.returns
returns c =
    let a = c.args in
    let lower = lower_is a.x a.y c.requires.0 c.requires.1 a.size a.places c.requires.2 c.requires.3 in
    let part : c.shifted.result ≡ c.settle-left.result.quotient * 2 ^ (a.places - a.size) % 2 ^ 32 = c.shifted.ensures in
    let left : c.settle-left.result ≡ settled_of Truncated a.x.negative (divided_of a.x.significand a.y.significand a.size) a.y.significand (a.x.exponent -ℤ pos a.size) =
    c.settle-left.ensures ∙ (λ i. settled_of Truncated a.x.negative (c.divide-divided.ensures i) a.y.significand (lower i)) in
    (λ i. record { value = (left i).value; quotient = (part ∙ ap (λ (l : Left). l.quotient * 2 ^ (a.places - a.size) % 2 ^ 32) left) i })
    ∙ cut_pair_is a.x a.y c.requires.0 c.requires.1 (a.x.exponent -ℤ a.y.exponent) refl a.size a.places c.requires.2 c.requires.3
