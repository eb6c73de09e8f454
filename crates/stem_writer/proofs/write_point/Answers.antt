-- `write_point` meets its contract: two numbers behind each other.
use mathlib.Core.Path.{refl, ap, ◌∙◌}
use Prim.Native.Nat.{◌+◌}
use native.Mathlib.Omega.{arith}
use Rattle.definitions.specs.Bytes.{bytes_of}
use Rattle.little_endian.specs.Stored.{stored}
use Rattle.little_endian.proofs.Joined.{stored_sets}
use Rattle.stem_writer.proofs.Stores.{stored_more}
use Rattle.stem_writer.proofs.write_point.Goals as goal

pub returns : goal.returns
returns c =
    let a = c.args in
    let room = a.room.now in
    c.store-2.ensures
    ∙ ap (stored 8 (a.at + 8) a.radius) (c.store.ensures ∙ stored_sets 8 a.at a.reading room (omega (arith, c.requires)))
    ∙ stored_more room (bytes_of 8 a.reading) a.at (a.at + 8) 8 a.radius refl (omega (arith, c.requires))
