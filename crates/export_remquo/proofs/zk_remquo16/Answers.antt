-- `zk_remquo16` meets its contract: what it writes is what `remquo` tells.
use mathlib.Core.Path.{◌≡◌}
use native.Mathlib.Omega.{arith}
use lib.Dec.{lit≤}
use mir.Syntax.{w32}
use mir.ValLaws.{to_z-of_z}
use Rattle.definitions.specs.Format.{binary16}
use Rattle.definitions.specs.Signed.{signed_remainder}
use Rattle.definitions.specs.Answers.{signed_meaning}
use Rattle.definitions.specs.Block.{kind_of}
use Rattle.laws.proofs.Regular.{regular16}
use Rattle.export_remquo.proofs.Written.{value_fits, finished, number_is}
use borrow.Author.Rules.{rules}
use Rattle.export_remquo.proofs.zk_remquo16.Goals.{After-remquo-told}
use Rattle.export_remquo.proofs.zk_remquo16.Goals as goal

told : (c : After-remquo-told) → signed_meaning c.remquo-told.result.answer ≡ signed_remainder binary16 (kind_of c.args.kind) c.args.x c.args.y
told c = rw c.into.ensures at c.remquo-told.ensures.answer

pub overflow_cast-value : goal.overflow_cast-value
overflow_cast-value c = record { fits = omega (arith, value_fits binary16 regular16 _ _ _ _ (told (goal.at.overflow_cast-value c).After-remquo-told) _ c.in-Ok.is) }

pub returns-in-Ok : goal.returns-in-Ok
returns-in-Ok c =
    let k = finished binary16 regular16 _ _ _ _ (told (goal.at.returns-in-Ok c).After-remquo-told) _ c.in-Ok.is _ (to_z-of_z w32 _ (search rules)) (lit≤ tt) in
    record { number = k.0; value = k.1.0; quotient = k.1.1 }

pub returns-in-Err-clause-number : goal.returns-in-Err-clause-number
returns-in-Err-clause-number c = number_is binary16 regular16 _ _ _ _ (told (goal.at.returns-in-Err-clause-number c).After-remquo-told) _ _ c.in-Err.is c.into-in-Err.ensures
