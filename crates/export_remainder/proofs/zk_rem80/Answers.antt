-- `zk_rem80` meets its contract: what it writes is what the remainder tells.
use mathlib.Core.Path.{◌≡◌}
use native.Mathlib.Omega.{arith}
use Rattle.definitions.specs.Format.{x87, words}
use Rattle.definitions.specs.Remainder.{remainder}
use Rattle.definitions.specs.Answers.{remainder_meaning}
use Rattle.definitions.specs.Block.{kind_of}
use Rattle.laws.proofs.Regular.{regular80}
use Rattle.export_remainder.proofs.Written.{value_fits, finished80, number_is}
use Rattle.export_remainder.proofs.zk_rem80.Goals.{After-remainder-told}
use Rattle.export_remainder.proofs.zk_rem80.Goals as goal

told : (c : After-remainder-told) → remainder_meaning c.remainder-told.result.answer ≡ remainder x87 (kind_of c.args.kind) (words c.args.xw c.args.x) (words c.args.yw c.args.y)
told c = rw c.into.ensures at c.remainder-told.ensures.answer

pub overflow_cast-valuew : goal.overflow_cast-valuew
overflow_cast-valuew c = record { fits = omega (arith, value_fits x87 regular80 _ _ _ _ (told (goal.at.overflow_cast-valuew c).After-remainder-told) _ c.in-Ok.is) }

pub returns-in-Ok : goal.returns-in-Ok
returns-in-Ok c =
    let k = finished80 x87 regular80 _ _ _ _ (told (goal.at.returns-in-Ok c).After-remainder-told) _ c.in-Ok.is (omega arith) in
    record { number = k.0; value = k.1.0; valuew = k.1.1.0; quotient = k.1.1.1 }

pub returns-in-Err-clause-number : goal.returns-in-Err-clause-number
returns-in-Err-clause-number c = number_is x87 regular80 _ _ _ _ (told (goal.at.returns-in-Err-clause-number c).After-remainder-told) _ _ c.in-Err.is c.into-in-Err.ensures
