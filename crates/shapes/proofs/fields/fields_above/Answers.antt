-- `fields_above` meets its contract: what lies above the largest field has the sign.
use Prim.Native.Nat.{◌+◌}
use native.Mathlib.Nat.{mod-eq_of_lt}
use native.Mathlib.Omega.{arith}
use borrow.Author.Tests.{le-ltb}
use Rattle.definitions.specs.Format.{top_field}
use Rattle.shapes.proofs.fields.fields_above.Goals as goal

pub returns-else-top-above : goal.returns-else-top-above
returns-else-top-above g c =
    let top = top_field g.F.Format.format in
    rw (le-ltb top c.args.above (omega arith), mod-eq_of_lt {n = c.args.above} {m = top + 1} (omega arith))
