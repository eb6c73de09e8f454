-- `is_denormal` meets its contract: both fields are those of the pattern.
use mathlib.Core.Path.{◌∙◌}
use native.Mathlib.Omega.{arith}
use borrow.Author.Tests.{ne_eqb}
use Rattle.facts.proofs.ByFields.{field_none, field_some}
use Rattle.facts.proofs.denormal.is_denormal.Goals as goal

pub returns-then-fields-eq0 : goal.returns-then-fields-eq0
returns-then-fields-eq0 g c =
    field_none g.F.Format.format (g.F.Format.bits c.args.pattern) c.fields_of-fields.result c.fields_of-fields.ensures (omega (arith, c.if-fields-eq0.true)) _ (omega arith)

pub returns-else-fields-eq0 : goal.returns-else-fields-eq0
returns-else-fields-eq0 g c =
    ne_eqb _ 0 c.if-fields-eq0.false
    ∙ field_some g.F.Format.format (g.F.Format.bits c.args.pattern) c.fields_of-fields.result c.fields_of-fields.ensures (λ z. c.if-fields-eq0.false (omega (arith, z)))
