-- `zk_stem_write` meets its contract: what it leaves is what `write_fields` tells.
use mathlib.Core.Path.{refl, ◌∙◌}
use Rattle.stems.proofs.Opened.{refusal_some}
use Rattle.export_stems.proofs.Written.{refused, written}
use Rattle.export_stems.proofs.zk_stem_write.Goals as goal

pub returns-in-Err : goal.returns-in-Err
returns-in-Err c =
    let a = c.args in
    let k = refused a.kind a.period a.origin a.readings.now a.radii.now a.room.now _ _ _ a.written.now c.in-Err.ensures (refusal_some c.in-Err.refusal) in
    record { number = c.into.ensures ∙ k.0; room = k.1.0; written = rw c.into.ensures k.1.1 }

pub returns-in-Ok : goal.returns-in-Ok
returns-in-Ok c =
    let a = c.args in
    let k = written a.kind a.period a.origin a.readings.now a.radii.now a.room.now _ _ _ a.written.now c.in-Ok.ensures refl in
    record { number = k.0; room = k.1.0; written = k.1.1 }
