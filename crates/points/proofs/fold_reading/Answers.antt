-- `fold_reading` meets its contract.
use Rattle.gauges.specs.Held.{gauge_bits}
use Rattle.laws.proofs.Folded.{good_positive}
use Rattle.points.proofs.Folded.{fold_is}
use Rattle.points.proofs.fold_reading.Goals as goal

pub remainder_by-requires : goal.remainder_by-requires
remainder_by-requires c =
    rw c.period_of.ensures (good_positive (gauge_bits c.args.gauge) c.requires)

pub returns : goal.returns
returns c =
    rw (fold_is (gauge_bits c.args.gauge) c.args.reading, ← c.shifted.ensures, ← c.period_of.ensures) c.remainder_by.ensures
