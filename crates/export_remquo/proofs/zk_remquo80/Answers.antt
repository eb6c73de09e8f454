-- `zk_remquo80` meets its contract: what it writes is what `remquo` tells.
use mathlib.Core.Path.{◌≡◌}
use native.Mathlib.Omega.{arith}
use mir.Syntax.{w32}
use mir.ValLaws.{to_z-of_z}
use Rattle.definitions.specs.Format.{x87, words}
use Rattle.definitions.specs.Signed.{signed_remainder}
use Rattle.definitions.specs.Answers.{signed_meaning}
use Rattle.definitions.specs.Block.{kind_of}
use Rattle.laws.proofs.Regular.{regular80}
use Rattle.export_remquo.proofs.Written.{value_fits, finished80, number_is}
use borrow.Author.Rules.{rules}
use Rattle.export_remquo.proofs.zk_remquo80.Goals.{After-remquo-told}
use Rattle.export_remquo.proofs.zk_remquo80.Goals as goal

told : (c : After-remquo-told) → signed_meaning c.remquo-told.result.answer ≡ signed_remainder x87 (kind_of c.args.kind) (words c.args.xw c.args.x) (words c.args.yw c.args.y)
told c = rw c.into.ensures at c.remquo-told.ensures.answer

pub overflow_cast-valuew : goal.overflow_cast-valuew
overflow_cast-valuew c = record { fits = omega (arith, value_fits x87 regular80 _ _ _ _ (told (goal.at.overflow_cast-valuew c).After-remquo-told) _ c.in-Ok.is) }

pub returns-in-Ok : goal.returns-in-Ok
returns-in-Ok c =
    let k = finished80 x87 regular80 _ _ _ _ (told (goal.at.returns-in-Ok c).After-remquo-told) _ c.in-Ok.is _ (to_z-of_z w32 _ (search rules)) (omega arith) in
    record { number = k.0; value = k.1.0; valuew = k.1.1.0; quotient = k.1.1.1 }

pub returns-in-Err-clause-number : goal.returns-in-Err-clause-number
returns-in-Err-clause-number c = number_is x87 regular80 _ _ _ _ (told (goal.at.returns-in-Err-clause-number c).After-remquo-told) _ _ c.in-Err.is c.into-in-Err.ensures
