-- `zk_split32` meets its contract: what it writes is what the splitting tells.
use native.Mathlib.Omega.{arith}
use lib.Dec.{lit≤}
use mir.Syntax.{w32}
use mir.ValLaws.{to_z-of_z}
use Rattle.definitions.specs.Format.{binary32}
use Rattle.laws.proofs.Regular.{regular32}
use Rattle.export_scaling.proofs.WrittenSplit.{significand_small, parted, number_is}
use borrow.Author.Rules.{rules}
use Rattle.export_scaling.proofs.split.zk_split32.Goals as goal

pub overflow_cast-significand : goal.overflow_cast-significand
overflow_cast-significand c = record { fits = omega (arith, significand_small binary32 regular32 _ _ c.split.ensures.answer _ c.in-Ok.is) }

pub returns-in-Ok : goal.returns-in-Ok
returns-in-Ok c =
    let w = parted binary32 regular32 _ _ c.split.ensures.answer _ c.in-Ok.is _ (to_z-of_z w32 _ (search rules)) (lit≤ tt) in
    record { number = w.0; significand = w.1.0; exponent = w.1.1 }

pub returns-in-Err-clause-number : goal.returns-in-Err-clause-number
returns-in-Err-clause-number c = number_is binary32 regular32 _ _ c.split.ensures.answer _ _ c.in-Err.is c.into.ensures
