-- `remainder_common` meets its contract: its calls, put together.
use mathlib.Core.Path.{◌≡◌, sym, ap, ◌∙◌}
use Prim.Native.Nat.{ℕ, ◌-◌, ◌*◌, ◌^◌}
use native.Mathlib.Nat.{mul-one, zero-add, div-one, le_of_lt}
use lib.Dec.{leb}
use Rattle.definitions.specs.Class.{finite}
use Rattle.definitions.specs.Format.{Format, sign_weight, pattern_of}
use Rattle.definitions.specs.Division.{rounds_up}
use Rattle.definitions.specs.Remainder.{remainder}
use Rattle.division.specs.declared.Divided.{Divided}
use Rattle.division.specs.Divided.{divided_of}
use Rattle.quick.specs.Settled.{settled_of}
use Rattle.quick.specs.declared.Settled.{Settled}
use Rattle.quick.proofs.Normals.{normal_significand, significand_pos}
use Rattle.quick.proofs.Scaled.{settled_answer, left_answer}
use Rattle.quick_short.specs.Short.{Short, field_of}
use Rattle.quick_short.proofs.Fields.{Ordered, ordered}
use Rattle.quick_short.proofs.Formats.{significand_is, significand_short}
use Rattle.quick_short.proofs.remainder_common.Goals as goal

pub divide_short-left-requires : goal.divide_short-left-requires
divide_short-left-requires g c =
    let f : Format =
    g.F.Format.format
    in
    let short : Short f =
    g.met.F.Short.short
    in
    let fields : Ordered f short c.args.x c.args.y =
    ordered f short c.args.x c.args.y c.requires
    in
    let b : ℕ =
    c.significand_of-divisor.result
    in
    let b_is : b ≡ normal_significand f c.args.y =
    c.significand_of-divisor.ensures ∙ significand_is f short c.args.y
    in
    let y : ℕ =
    c.args.y
    in
    let y = c.significand_of-divisor.ensures in (
      rw c.significand_of.ensures (significand_short f short c.args.x),
      rw b_is (significand_pos f c.args.y fields.divisor),
      rw y (le_of_lt (significand_short f short c.args.y)),
    )

pub returns : goal.returns
returns g c =
    let f : Format =
    g.F.Format.format
    in
    let b : ℕ =
    c.significand_of-divisor.result
    in
    let x : ℕ =
    c.args.x
    in
    let left : Divided =
    c.divide_short-left.result
    in
    let settled_is : c.settle-settled.result ≡ settled_of (rounds_up c.args.kind left.quotient left.remainder b) (leb (sign_weight f) x) left b =
    let u = rounds_up c.args.kind left.quotient left.remainder b in
    c.settle-settled.ensures ∙ ap (λ (w : ℕ). settled_of u (leb w x) left b) c.sign_weight.ensures
    in
    let field : ℕ =
    c.field_of-field.result
    in
    let short : Short f =
    g.met.F.Short.short
    in
    let fields : Ordered f short c.args.x c.args.y =
    ordered f short c.args.x c.args.y c.requires
    in
    let a : ℕ =
    c.significand_of.result
    in
    let y : ℕ =
    c.args.y
    in
    let field_is : field ≡ field_of f y =
    c.field_of-field.ensures
    in
    let left_is : left ≡ divided_of a b (field_of f x - field_of f y) =
    c.divide_short-left.ensures ∙ (λ i. divided_of a b (c.field_of.ensures i - field_is i))
    in
    let significand_word : (v r : ℕ) → r ≡ normal_significand f v → r ≡ normal_significand f v * 2 ^ 0 =
    λ v r e. e ∙ sym (mul-one (normal_significand f v))
    in
    let a_is : a ≡ normal_significand f c.args.x =
    c.significand_of.ensures ∙ significand_is f short c.args.x
    in
    let x_word : a ≡ normal_significand f x * 2 ^ 0 =
    significand_word x a a_is
    in
    let b_is : b ≡ normal_significand f c.args.y =
    c.significand_of-divisor.ensures ∙ significand_is f short c.args.y
    in
    let y_word : b ≡ normal_significand f y * 2 ^ 0 =
    significand_word y b b_is
    in
    let answer : (S : Settled) → S ≡ settled_of (rounds_up c.args.kind left.quotient left.remainder b) (leb (sign_weight f) x) left b → settled_answer f 0 S field ≡ remainder f c.args.kind x y =
    λ S e. let o = fields in
    ap (settled_answer f 0 S) field_is
    ∙ left_answer f 0 x y a b o.dividend o.divisor o.order x_word y_word left left_is c.args.kind S e
    in
    let r = c.settle-settled.result in
    let value = zero-add c.written.result ∙ c.written.ensures ∙ ap (λ (k : ℕ). pattern_of f (finite (record { negative = r.negative; count = k * 2 ^ (field - 1) }))) (sym (div-one r.rest)) in
    (λ i. record { number = 0; value = value i; quotient = c.quotient_bits.ensures i }) ∙ answer r settled_is
