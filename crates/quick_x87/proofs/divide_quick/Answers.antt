-- `divide_quick` meets its contract: each case is one of the engine's.
use Rattle.division.proofs.Zeros.{trailing_mod}
use Rattle.quick_x87.proofs.divide_quick.Goals as goal

pub divide_once-requires : goal.divide_once-requires
divide_once-requires c = (c.requires, trailing_mod c.args.b c.args.places c.if-places-b.true)
