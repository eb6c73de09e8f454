-- `divide_quick` meets its contract: it is the engine's first case, or the engine.
use Rattle.std.proofs.Common.{lt_of_lt_of_le, pow_pos}
use Rattle.division.proofs.Zeros.{trailing_mod}
use Rattle.division.proofs.Count.{counted_once}
use Rattle.quick.proofs.divide_quick.Goals as goal

pub divide_once-requires : goal.divide_once-requires
divide_once-requires c = (c.requires, trailing_mod c.args.b c.args.places c.if-places-b.true)

pub returns-then-places-b-clause-divisions : goal.returns-then-places-b-clause-divisions
returns-then-places-b-clause-divisions c = counted_once c.args.a c.args.b c.args.places (lt_of_lt_of_le (pow_pos 63) c.requires) c.ranges.b.fits c.if-places-b.true
