-- `split_general` meets its contract: `split_of` what the pattern stands for.
use mathlib.Core.Path.{sym, ◌∙◌}
use lib.IntN.{pos}
use Rattle.definitions.specs.Scale.{split_report}
use Rattle.definitions.specs.declared.Kind.TheVariants.{Truncated}
use Rattle.definitions.proofs.Facts.{told_always}
use Rattle.packing.proofs.Standing.{class_pattern}
use Rattle.scaling.proofs.split.split_general.Goals as goal

pub returns : goal.returns
unfolding split_report
returns g c =
    let f = g.F.Format.format in
    let b = g.F.Format.bits c.args.pattern in record {
      answer = rw (← class_pattern f g.met.F.Format.sound b _ c.unpack.ensures) c.split_of.ensures;
      denormal = c.is_denormal.ensures ∙ sym (told_always f Truncated b 0 (pos 0)).3;
    }
