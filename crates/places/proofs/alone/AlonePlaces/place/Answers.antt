-- `place` meets its contract: a refusal is a mark.
use Rattle.places.proofs.OnePlace.{finished, refused}
use Rattle.places.proofs.alone.AlonePlaces.place.Goals as goal

pub returns-in-Ok-clause-place : goal.returns-in-Ok-clause-place
returns-in-Ok-clause-place c =
    let a = c.args.self.now in
    let r = c.remainder in
    finished a.kind a.divisor.pattern c.args.x a.divisor.divides r.result.answer r.ensures.answer _ _ c.shown_bits.result c.in-Ok.is c.shown_bits.ensures

pub returns-in-Err-clause-place : goal.returns-in-Err-clause-place
returns-in-Err-clause-place c =
    let a = c.args.self.now in
    let r = c.remainder in
    refused a.kind a.divisor.pattern c.args.x a.divisor.divides r.result.answer r.ensures.answer _ _ c.in-Err.is
