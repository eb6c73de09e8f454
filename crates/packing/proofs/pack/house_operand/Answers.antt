-- `house_operand` meets its contract.
use Rattle.operands.specs.Operand.{operand_of}
use Rattle.packing.proofs.pack.house_operand.Goals as goal

pub returns : goal.returns
unfolding operand_of
returns g c = rw c.house_stored.ensures
