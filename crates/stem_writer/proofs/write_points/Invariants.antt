-- `write_points` meets its contract. After i points the room has their bytes behind the header.
use mathlib.Core.Path.{◌≡◌}
use lib.Seq.{sets}
use Rattle.definitions.specs.Stem.{header_length}
use Rattle.stem_writer.proofs.Points.{before}
use Rattle.stem_writer.proofs.write_points.Given as goal

abbrev pub invariant-loop-i : goal.invariant-loop-i
invariant-loop-i l = l.room ≡ sets l.initial.room header_length (before l.readings l.radii l.i)
