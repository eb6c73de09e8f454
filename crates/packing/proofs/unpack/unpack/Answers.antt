-- `unpack` meets its contract: what a pattern stands for, the format holds.
use Rattle.packing.proofs.Standing.{stands_pattern}
use Rattle.packing.proofs.unpack.unpack.Goals as goal

pub new-requires : goal.new-requires
new-requires g c = stands_pattern g.F.Format.format g.met.F.Format.sound _ _ c.operand_of.ensures
