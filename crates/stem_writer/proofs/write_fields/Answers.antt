-- `write_fields` meets its contract: what is accepted fits, and is written.
use mathlib.Core.Path.{refl, sym}
use native.Mathlib.Omega.{arith}
use lib.ListN.{length}
use Rattle.std.proofs.lemmas.Result.{err_from_is_err_and}
use Rattle.laws.proofs.StemWriter.{accepted}
use Rattle.stems.proofs.Opened.{refusal_some}
use Rattle.stem_writer.proofs.Whole.{refused_call, written_call}
use Rattle.stem_writer.proofs.write_fields.Goals as goal

pub returns-in_err-written : goal.returns-in_err-written
returns-in_err-written c =
    let a = c.args in
    let p = err_from_is_err_and c.from_residual.result c.from_residual.ensures.1 in
    rw (p.1, p.2)
    (refused_call a.fields.kind a.fields.period a.fields.origin a.readings.now a.radii.now a.room.now _ c.in_err-written.ensures.number (refusal_some c.in_err-written.field-0.0))

pub overflow_cast-count : goal.overflow_cast-count
overflow_cast-count c =
    let a = c.args in
    let says = accepted a.fields.kind a.fields.period a.fields.origin (length a.readings.now) (length a.radii.now) (length a.room.now) (sym c.in_ok-written.ensures.number) in
    record { fits = omega (arith, says.most) }

pub write_header-requires : goal.write_header-requires
write_header-requires c =
    let a = c.args in
    let says = accepted a.fields.kind a.fields.period a.fields.origin (length a.readings.now) (length a.radii.now) (length a.room.now) (sym c.in_ok-written.ensures.number) in
    (omega (arith, says.fits), omega (arith, says.known))

pub write_points-requires : goal.write_points-requires
write_points-requires c =
    let a = c.args in
    let says = accepted a.fields.kind a.fields.period a.fields.origin (length a.readings.now) (length a.radii.now) (length a.room.now) (sym c.in_ok-written.ensures.number) in
    (says.equal, omega (arith, says.fits))

pub returns : goal.returns
returns c =
    let a = c.args in
    rw c.in_ok-written.ensures.whole
    (written_call a.fields.kind a.fields.period a.fields.origin a.readings.now a.radii.now a.room.now _ _ _ c.in_ok-written.ensures.number refl c.write_header.ensures c.write_points.ensures)
