-- `kept` meets its contract: a value's class is that of its operand.
use mathlib.Core.Path.{ap, ◌∙◌}
use Rattle.definitions.specs.Format.{pattern_of}
use Rattle.packing.proofs.Standing.{value_stands, value_class}
use Rattle.remainder.proofs.divided.kept.Goals as goal

pub new-requires : goal.new-requires
new-requires g c = value_stands g.F.Format.format g.met.F.Format.sound c.args.x c.requires

pub returns-clause-value : goal.returns-clause-value
returns-clause-value g c = (rw c.new.ensures at c.pack.ensures) ∙ ap (pattern_of g.F.Format.format) (value_class g.F.Format.format g.met.F.Format.sound c.args.x c.requires)
