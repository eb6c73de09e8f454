-- `upper_half` meets its contract.
use Rattle.reciprocals.proofs.Upper.{upper_lowered, upper_kept}
use Rattle.reciprocals.proofs.upper_half.Goals as goal

pub returns-then-left-taken : goal.returns-then-left-taken
returns-then-left-taken c = upper_lowered c.args.d c.requires c.ranges.d.fits c.if-left-taken.true

pub returns-else-left-taken : goal.returns-else-left-taken
returns-else-left-taken c = upper_kept c.args.d c.requires c.ranges.d.fits c.if-left-taken.false
