-- `zk_remquo64` meets its contract: what it writes is what `remquo` tells.
use mathlib.Core.Path.{◌≡◌}
use lib.Dec.{lit≤}
use mir.Syntax.{w32}
use mir.ValLaws.{to_z-of_z}
use Rattle.definitions.specs.Format.{binary64}
use Rattle.definitions.specs.Signed.{signed_remainder}
use Rattle.definitions.specs.Answers.{signed_meaning}
use Rattle.definitions.specs.Block.{kind_of}
use Rattle.laws.proofs.Regular.{regular64}
use Rattle.export_remquo.proofs.Written.{finished, number_is}
use borrow.Author.Rules.{rules}
use Rattle.export_remquo.proofs.zk_remquo64.Goals.{After-remquo-told}
use Rattle.export_remquo.proofs.zk_remquo64.Goals as goal

told : (c : After-remquo-told) → signed_meaning c.remquo-told.result.answer ≡ signed_remainder binary64 (kind_of c.args.kind) c.args.x c.args.y
told c = rw c.into.ensures at c.remquo-told.ensures.answer

pub returns-in-Ok : goal.returns-in-Ok
returns-in-Ok c =
    let k = finished binary64 regular64 _ _ _ _ (told (goal.at.returns-in-Ok c).After-remquo-told) _ c.in-Ok.is _ (to_z-of_z w32 _ (search rules)) (lit≤ tt) in
    record { number = k.0; value = k.1.0; quotient = k.1.1 }

pub returns-in-Err-clause-number : goal.returns-in-Err-clause-number
returns-in-Err-clause-number c = number_is binary64 regular64 _ _ _ _ (told (goal.at.returns-in-Err-clause-number c).After-remquo-told) _ _ c.in-Err.is c.into-in-Err.ensures
