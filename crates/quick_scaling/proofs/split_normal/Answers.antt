-- `split_normal` meets its contract: the number beside the bias, and how far its field is from it.
use mathlib.Core.Path.{◌≡◌, sym, ◌∙◌}
use Prim.Native.Nat.{ℕ, ◌≤◌}
use native.Mathlib.Omega.{arith}
use lib.IntN.{pos, ◌-ℤ◌}
use mir.Syntax.{w32}
use mir.Val.{to_z, of_z}
use mir.ValLaws.{to_z_pos}
use Rattle.digits.proofs.Signed.{sub_is}
use Rattle.definitions.specs.Answers.{split_meaning}
use Rattle.definitions.specs.Format.{Format}
use Rattle.definitions.specs.Scale.{split_report}
use Rattle.laws.proofs.Pattern.{pack}
use Rattle.shapes.specs.Shape.{fields_in}
use Rattle.quick_scaling.proofs.Normal.{normal_fields, not_denormal}
use Rattle.quick_scaling.proofs.Read.{field_le}
use Rattle.quick_scaling.proofs.Moved.{split_moved}
use Rattle.quick_scaling.proofs.split_normal.Goals as goal

pub returns : goal.returns
unfolding split_meaning
returns g c =
    let f : Format =
    g.F.Format.format
    in
    let ok = g.met.F.Format.sound in
    let b : ℕ =
    g.F.Format.bits c.args.pattern
    in
    let o = c.fields_of-fields in
    let small : o.result.field ≤ 32767 =
    field_le f ok b o.result o.ensures
    in
    let base : ℕ =
    f.bias
    in
    let base_is : c.BIAS-2.result ≡ base = c.BIAS-2.ensures ∙ g.met.F.Format.bias_is in
    let base_le : base ≤ 16383 =
    omega (arith, ok.short, ok.narrow)
    in
    let difference : to_z w32 (of_z w32 (to_z w32 o.result.field -ℤ to_z w32 c.BIAS-2.result)) ≡ pos (fields_in f b).field -ℤ pos f.bias =
    rw base_is (sub_is (pos o.result.field) (pos base) _ _ (to_z_pos w32 _ (omega (arith, small))) (to_z_pos w32 _ (omega (arith, base_le)))
    (omega (arith, small)) (omega (arith, base_le))
    ∙ (λ i. pos (o.ensures i).field -ℤ pos base))
    in
    let field_is = c.BIAS.ensures ∙ g.met.F.Format.bias_is in
    let given = normal_fields f b c.requires in record {
      answer = (λ i. record {
        number = 0;
        significand = (c.with_field-significand.ensures ∙ (λ j. pack f (o.ensures j).negative (field_is j) (o.ensures j).stored)) i;
        exponent = difference i;
      })
          ∙ sym (split_moved f ok.regular b given);
      denormal = not_denormal f b given (split_report f b).number;
    }
