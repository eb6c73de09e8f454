-- `cut_common` meets its contract: the division to `size` places, written in the place that is left.
use mathlib.Core.Path.{◌≡◌, sym, ap, ◌∙◌}
use Prim.Native.Nat.{◌+◌, ◌-◌, ◌*◌, ◌/◌, ◌%◌, ◌^◌, ◌≤◌}
use native.Mathlib.Omega.{arith}
use Rattle.chains.proofs.Step.{sized_bounds}
use Rattle.digits.proofs.Common.{mod_times}
use Rattle.definitions.specs.Class.{finite}
use Rattle.definitions.specs.Format.{x87, words, pattern_of}
use Rattle.definitions.specs.Remainder.{quotient_bits}
use Rattle.division.specs.declared.Divided.{Divided}
use Rattle.quotients.proofs.Bits.{bits_low}
use Rattle.quick.proofs.Normals.{exponent_field}
use Rattle.quick_x87.proofs.Parts.{Parts, both}
use Rattle.quick_x87.proofs.Steps.{cut_report}
use Rattle.quick_x87.proofs.cut_common.Goals as goal

pub returns : goal.returns
returns c κ =
    let p : Parts c.args.x.significand c.args.x.word × Parts c.args.y.significand c.args.y.word = both _ _ _ _ (omega arith) (omega arith) (omega arith) (omega arith) c.requires.0 in
    let small : c.args.size ≤ 63 = (sized_bounds c.args.size c.requires.3).1 in
    let a = c.args in
    let q = a.x.significand * 2 ^ a.size / a.y.significand in
    let places : a.gap - a.size + a.size ≡ exponent_field x87 (words a.x.word a.x.significand) - exponent_field x87 (words a.y.word a.y.significand) = omega (arith, small, c.requires.1, c.requires.2, p.0.field, p.1.field) in
    let rest = ap (λ (l : Divided). l.remainder) c.divide_quick-left.ensures in
    let field = c.field_of.ensures ∙ sym p.0.field in
    let part : c.shifted-quotient.result ≡ q * 2 ^ (a.gap - a.size) % 2 ^ 32 =
    c.shifted-quotient.ensures ∙ ap (λ (l : Divided). l.quotient * 2 ^ (a.gap - a.size) % 2 ^ 32) c.divide_quick-left.ensures ∙ mod_times q (2 ^ (a.gap - a.size)) (2 ^ 32) in
    let quotient = c.quotient_bits.ensures ∙ ap quotient_bits part ∙ bits_low (q * 2 ^ (a.gap - a.size)) in
    (λ i. record {
      number = 1;
      value = (c.written.ensures ∙ (λ k. pattern_of x87 (finite (record { negative = sym p.0.sign k; count = rest k * 2 ^ (field k - a.size - 1) })))) i;
      quotient = quotient i;
      steps = 1;
    })
    ∙ sym (cut_report _ _ p.0.normal p.1.normal a.size c.requires.3 κ (omega (arith, places, c.requires.2, small)) (a.gap - a.size) places ∙ rw (p.0.significand, p.1.significand))
