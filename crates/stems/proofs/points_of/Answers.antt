-- `points_of` meets its contract: what follows the header of an accepted file.
use mathlib.Core.Path.{sym, ap, ◌∙◌}
use Prim.Native.Nat.{◌-◌}
use native.Mathlib.Omega.{arith}
use lib.ListN.{length, drop, length-drop}
use lib.Seq.{take_all}
use Rattle.definitions.specs.Stem.{header_length, stem_points}
use Rattle.laws.proofs.Stem.{passed, stem_opened}
use Rattle.stems.proofs.Opened.{refused_for}
use Rattle.stems.proofs.points_of.Goals as goal

pub slice_bounds-result-count : goal.slice_bounds-result-count
slice_bounds-result-count c = (passed c.args.file.now (sym c.in-Ok.ensures.number)).header

pub slice_bounds-result-start : goal.slice_bounds-result-start
slice_bounds-result-start c = (passed c.args.file.now (sym c.in-Ok.ensures.number)).header

pub returns-in-Ok : goal.returns-in-Ok
returns-in-Ok c =
    let f = c.args.file.now in
    take_all (length f - header_length) (drop header_length f) (omega (arith, length-drop header_length f))
    ∙ sym (ap stem_points (stem_opened f (sym c.in-Ok.ensures.number)))

pub returns-in-Err : goal.returns-in-Err
returns-in-Err c = sym (ap stem_points (refused_for c.args.file.now c.in-Err.field-0 c.in-Err.ensures.number))
