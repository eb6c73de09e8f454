-- `reached` meets its contract: what a run left is a value, which can be written down.
use Rattle.definitions.specs.Format.{x87}
use Rattle.shapes.proofs.Sounds.{sound80}
use Rattle.packing.proofs.Standing.{value_stands}
use Rattle.steps.proofs.call.reached.Goals as goal

pub new-requires : goal.new-requires
new-requires c = value_stands x87 sound80 c.args.ran.value c.requires
