-- `zk_split80` meets its contract: what it writes is what the splitting tells.
use native.Mathlib.Omega.{arith}
use mir.Syntax.{w32}
use mir.ValLaws.{to_z-of_z}
use Rattle.definitions.specs.Format.{x87}
use Rattle.laws.proofs.Regular.{regular80}
use Rattle.export_scaling.proofs.WrittenSplit.{significand_small, parted80, number_is}
use borrow.Author.Rules.{rules}
use Rattle.export_scaling.proofs.split.zk_split80.Goals as goal

pub overflow_cast-significandw : goal.overflow_cast-significandw
overflow_cast-significandw c = record { fits = omega (arith, significand_small x87 regular80 _ _ c.split.ensures.answer _ c.in-Ok.is) }

pub returns-in-Ok : goal.returns-in-Ok
returns-in-Ok c =
    let w = parted80 x87 regular80 _ _ c.split.ensures.answer _ c.in-Ok.is _ (to_z-of_z w32 _ (search rules)) (omega arith) in
    record { number = w.0; significand = w.1.0; significandw = w.1.1.0; exponent = w.1.1.1 }

pub returns-in-Err-clause-number : goal.returns-in-Err-clause-number
returns-in-Err-clause-number c = number_is x87 regular80 _ _ c.split.ensures.answer _ _ c.in-Err.is c.into.ensures
