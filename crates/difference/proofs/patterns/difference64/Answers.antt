-- `difference64` meets its contract: unpacked, subtracted and packed in binary64.
use native.Mathlib.Omega.{arith}
use Rattle.definitions.specs.Format.{binary64}
use Rattle.shapes.proofs.Sounds.{sound64}
use Rattle.difference.proofs.OfPatterns.{difference_stands, difference_low}
use Rattle.difference.proofs.patterns.difference64.Goals as goal

pub new-requires : goal.new-requires
new-requires c = difference_stands binary64 sound64 _ _ _ _ c.unpack.ensures c.unpack-2.ensures _ c.subtract_operands-difference.ensures

pub returns : goal.returns
returns c =
    difference_low binary64 sound64 _ _ _ _ c.unpack.ensures c.unpack-2.ensures _ c.subtract_operands-difference.ensures (omega arith) _
    (rw c.new.ensures at c.pack.ensures)
