-- `remainder_by` meets its contract.
use mathlib.Core.Path.{refl}
use Rattle.points.proofs.Folded.{finished, refused}
use Rattle.points.proofs.remainder_by.Goals as goal

pub returns-in-Ok : goal.returns-in-Ok
returns-in-Ok c =
    finished c.args.period c.args.x c.requires c.remainder-told.result.answer c.remainder-told.ensures.answer _ _ c.in-Ok.is

pub returns-in-Err : goal.returns-in-Err
returns-in-Err c =
    refused c.args.period c.args.x c.requires c.remainder-told.result.answer c.remainder-told.ensures.answer _ _ _ c.in-Err.is refl
