-- `scale_general` meets its contract: `scale_of` what the pattern stands for.
use mathlib.Core.Path.{sym, ◌∙◌}
use mir.Syntax.{w32}
use mir.ValLaws.{to_z-of_z}
use Rattle.definitions.specs.Scale.{scale_report}
use Rattle.definitions.specs.declared.Kind.TheVariants.{Truncated}
use Rattle.definitions.proofs.Facts.{told_always}
use Rattle.packing.proofs.Standing.{class_pattern}
use Rattle.scaling.proofs.scale.scale_general.Goals as goal

pub returns : goal.returns
unfolding scale_report
returns g c =
    let f = g.F.Format.format in
    let b = g.F.Format.bits c.args.pattern in record {
      answer = rw (← class_pattern f g.met.F.Format.sound b _ c.unpack.ensures) (rw (to_z-of_z w32 c.args.power c.ranges.power) at c.scale_of.ensures);
      denormal = c.is_denormal.ensures ∙ sym (told_always f Truncated b 0 c.args.power).2;
    }
