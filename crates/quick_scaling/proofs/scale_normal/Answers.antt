-- `scale_normal` meets its contract: the number beside the field that the power leads to.
use mathlib.Core.Path.{◌≡◌, sym, ap, ◌∙◌}
use Prim.Native.Nat.{ℕ}
use lib.IntN.{pos, nat_abs}
use mir.Syntax.{w64}
use mir.Val.{to_z, of_z}
use Rattle.definitions.specs.Answers.{scale_meaning}
use Rattle.definitions.specs.Format.{Format}
use Rattle.definitions.specs.Scale.{scale_report}
use Rattle.laws.proofs.Pattern.{pack}
use Rattle.laws.proofs.Scaling.{unchanged}
use Rattle.quick_scaling.proofs.Normal.{Stays, stays, not_denormal}
use Rattle.quick_scaling.proofs.Moved.{scale_moved}
use Rattle.quick_scaling.proofs.Read.{sum_back}
use Rattle.quick_scaling.proofs.scale_normal.Goals as goal

pub returns : goal.returns
unfolding scale_meaning
returns g c =
    let f : Format =
    g.F.Format.format
    in
    let b : ℕ =
    g.F.Format.bits c.args.pattern
    in
    let p = c.args.power in
    let given : Stays f b p =
    stays f b p c.requires
    in
    let o = c.fields_of-fields in
    let field_is : to_z w64 (of_z w64 c.reached.result) ≡ pos given.field =
    sum_back f g.met.F.Format.sound b o.result o.ensures p c.reached.result c.ranges.power c.reached.ensures ∙ given.is
    in record {
      answer = ap unchanged (c.with_field.ensures ∙ (λ i. pack f (o.ensures i).negative (nat_abs (field_is i)) (o.ensures i).stored))
          ∙ sym (scale_moved f g.met.F.Format.sound.regular b given.before p given.field given.is given.some given.top);
      denormal = not_denormal f b given.before (scale_report f b p).number;
    }
