-- `open_stem` meets its contract: the gauge of the fields that were judged.
use mathlib.Core.Path.{◌≡◌, sym, ap, ◌∙◌}
use Rattle.std.specs.Prelude.{Ok, Err}
use Rattle.std.proofs.lemmas.Result.{err_from_is_err_and}
use Rattle.definitions.specs.Stem.{file_kind, file_period, file_origin, gauge_of}
use Rattle.gauges.specs.Held.{gauge_held}
use Rattle.laws.proofs.Stem.{stem_opened}
use Rattle.stems.specs.Opened.{answer_of}
use Rattle.stems.proofs.Opened.{refused_for}
use Rattle.stems.proofs.open_stem.Goals as goal

pub returns-in_err-fields : goal.returns-in_err-fields
returns-in_err-fields c =
    let p = err_from_is_err_and c.from_residual.result c.from_residual.ensures.1 in
    rw (p.1, p.2) (sym (ap answer_of (refused_for c.args.file.now c.in_err-fields.field-0.0 c.in_err-fields.ensures.number)))

pub returns : goal.returns
returns c =
    let f = c.args.file.now in
    let g : c.into.result ≡ gauge_held (gauge_of (file_kind f) (file_period f) (file_origin f)) = rw c.in_ok-fields.ensures.fields at c.into.ensures in
    ap Ok g ∙ sym (ap answer_of (stem_opened f (sym c.in_ok-fields.ensures.number)))
