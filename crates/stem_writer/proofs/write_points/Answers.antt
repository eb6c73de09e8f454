-- `write_points` meets its contract. After i points the room has their bytes behind the header.
use mathlib.Core.Path.{◌≡◌, ap, ◌∙◌}
use mathlib.Core.List.{◌++◌}
use Prim.Native.Nat.{ℕ, ◌+◌, ◌*◌}
use native.Mathlib.Numerals.{add-one}
use native.Mathlib.Omega.{arith}
use lib.ListN.{length, get_or}
use lib.Seq.{sets}
use Rattle.definitions.specs.Bytes.{bytes_of}
use Rattle.definitions.specs.Stem.{header_length, point_length}
use Rattle.stem_writer.proofs.Stores.{sets_more}
use Rattle.stem_writer.proofs.Points.{before, before_more, length_before}
use Rattle.stem_writer.proofs.write_points.Goals as goal

pub loop-i-preserved : goal.loop-i-preserved
loop-i-preserved c =
    let l = c.loop-i in
    let xs = c.args.readings.now in
    let rs = c.args.radii.now in
    let room₀ = c.args.room.now in
    let at : header_length + length (before xs rs l.i) ≡ header_length + point_length * l.i = ap (λ (n : ℕ). header_length + n) (length_before xs rs c.requires.0 l.i (omega arith)) in
    rw (add-one l.i, c.write_point.ensures, l.invariant)
    (sets_more room₀ (before xs rs l.i) (bytes_of 8 (get_or xs l.i 0) ++ bytes_of 8 (get_or rs l.i 0)) header_length (header_length + point_length * l.i) at
    ∙ ap (sets room₀ header_length) (before_more xs rs c.requires.0 l.i (omega arith)))
