-- `write_stem` meets its contract: the fields of the gauge are handed on.
use mathlib.Core.Path.{sym, ◌∙◌}
use Rattle.gauges.specs.Held.{gauge_bits}
use Rattle.laws.proofs.StemWriter.{gauge_call}
use Rattle.stem_writer.proofs.write_stem.Goals as goal

pub returns : goal.returns
returns c =
    let a = c.args in
    rw c.from-fields.ensures at c.write_fields.ensures ∙ sym (gauge_call (gauge_bits a.gauge) a.readings.now a.radii.now a.room.now)
