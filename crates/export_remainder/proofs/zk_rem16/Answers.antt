-- `zk_rem16` meets its contract: what it writes is what the remainder tells.
use mathlib.Core.Path.{◌≡◌}
use native.Mathlib.Omega.{arith}
use lib.Dec.{lit≤}
use Rattle.definitions.specs.Format.{binary16}
use Rattle.definitions.specs.Remainder.{remainder}
use Rattle.definitions.specs.Answers.{remainder_meaning}
use Rattle.definitions.specs.Block.{kind_of}
use Rattle.laws.proofs.Regular.{regular16}
use Rattle.export_remainder.proofs.Written.{value_fits, finished, number_is}
use Rattle.export_remainder.proofs.zk_rem16.Goals.{After-remainder-told}
use Rattle.export_remainder.proofs.zk_rem16.Goals as goal

told : (c : After-remainder-told) → remainder_meaning c.remainder-told.result.answer ≡ remainder binary16 (kind_of c.args.kind) c.args.x c.args.y
told c = rw c.into.ensures at c.remainder-told.ensures.answer

pub overflow_cast-value : goal.overflow_cast-value
overflow_cast-value c = record { fits = omega (arith, value_fits binary16 regular16 _ _ _ _ (told (goal.at.overflow_cast-value c).After-remainder-told) _ c.in-Ok.is) }

pub returns-in-Ok : goal.returns-in-Ok
returns-in-Ok c =
    let k = finished binary16 regular16 _ _ _ _ (told (goal.at.returns-in-Ok c).After-remainder-told) _ c.in-Ok.is (lit≤ tt) in
    record { number = k.0; value = k.1.0; quotient = k.1.1 }

pub returns-in-Err-clause-number : goal.returns-in-Err-clause-number
returns-in-Err-clause-number c = number_is binary16 regular16 _ _ _ _ (told (goal.at.returns-in-Err-clause-number c).After-remainder-told) _ _ c.in-Err.is c.into-in-Err.ensures
