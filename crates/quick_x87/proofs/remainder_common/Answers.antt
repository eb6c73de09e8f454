-- `remainder_common` meets its contract: its calls, put together.
use mathlib.Core.Path.{◌≡◌, sym, ap, ◌∙◌}
use Prim.Native.Nat.{ℕ, ◌-◌, ◌*◌, ◌^◌}
use native.Mathlib.Nat.{mul-one, div-one}
use native.Mathlib.Omega.{arith}
use Rattle.definitions.specs.Class.{finite}
use Rattle.definitions.specs.Format.{x87, words, pattern_of}
use Rattle.division.specs.declared.Divided.{Divided}
use Rattle.division.specs.Divided.{divided_of}
use Rattle.quick.proofs.Normals.{exponent_field}
use Rattle.quick.proofs.Scaled.{settled_answer, left_answer}
use Rattle.quick_x87.proofs.Parts.{Parts, both}
use Rattle.quick_x87.proofs.remainder_common.Goals as goal

pub returns : goal.returns
returns c =
    let p : Parts c.args.x.significand c.args.x.word × Parts c.args.y.significand c.args.y.word = both _ _ _ _ (omega arith) (omega arith) (omega arith) (omega arith) c.requires.0 in
    let x = p.0 in
    let y = p.1 in
    let D : Divided = c.divide_quick-left.result in
    let r = c.settle-settled.result in
    let field = c.field_of-field.result in
    let field_is : field ≡ exponent_field x87 (words c.args.y.word c.args.y.significand) = c.field_of-field.ensures ∙ sym y.field in
    let left_is : D ≡ divided_of c.args.x.significand c.args.y.significand (exponent_field x87 (words c.args.x.word c.args.x.significand) - exponent_field x87 (words c.args.y.word c.args.y.significand)) =
    c.divide_quick-left.ensures ∙ (λ i. divided_of c.args.x.significand c.args.y.significand ((c.field_of.ensures ∙ sym x.field) i - field_is i)) in
    let answer = left_answer x87 0 _ _ _ _ x.normal y.normal (omega (arith, x.field, y.field, c.requires.1)) (sym (mul-one _ ∙ x.significand)) (sym (mul-one _ ∙ y.significand)) D left_is
    c.args.kind r (rw x.sign c.settle-settled.ensures) in
    let value = c.written.ensures ∙ ap (λ (k : ℕ). pattern_of x87 (finite (record { negative = r.negative; count = k * 2 ^ (field - 1) }))) (sym (div-one r.rest)) in
    (λ i. record { number = 0; value = value i; quotient = c.quotient_bits.ensures i }) ∙ ap (settled_answer x87 0 r) field_is ∙ answer
