-- `nan_of` meets its contract: what is chosen is made quiet and packed.
use mathlib.Core.Path.{◌∙◌}
use Rattle.operands.specs.Operand.{class_in}
use Rattle.laws.proofs.Nan.{quieted_stored}
use Rattle.facts.proofs.Choosing.{nan_stands, chosen_held, chosen_nan, chosen_none}
use Rattle.facts.proofs.nan.nan_of.Goals as goal

pub returns-in_default : goal.returns-in_default
returns-in_default g c =
    rw (← c.operand.ensures.is, ← c.operand-2.ensures.is)
    (c.house_nan.ensures ∙ chosen_none g.F.Format.format c.operand.result c.operand-2.result c.choose.result c.choose.ensures c.in_default.not-Nan)

pub quiet-requires : goal.quiet-requires
quiet-requires g c =
    chosen_held g.F.Format.format c.operand.result c.operand-2.result c.choose.result c.choose.ensures c.in-Nan.negative c.in-Nan.stored c.operand.ensures.stands c.operand-2.ensures.stands c.in-Nan.is

pub new-requires : goal.new-requires
new-requires g c =
    let f = g.F.Format.format in
    let h = chosen_held f c.operand.result c.operand-2.result c.choose.result c.choose.ensures c.in-Nan.negative c.in-Nan.stored c.operand.ensures.stands c.operand-2.ensures.stands c.in-Nan.is in
    rw c.quiet.ensures (nan_stands f c.in-Nan.negative _ (quieted_stored f g.met.F.Format.sound.regular c.in-Nan.stored h))

pub returns : goal.returns
unfolding class_in
returns g c =
    rw (← c.operand.ensures.is, ← c.operand-2.ensures.is)
    ((rw (c.new.ensures, c.quiet.ensures) at c.pack.ensures)
    ∙ chosen_nan g.F.Format.format c.operand.result c.operand-2.result c.choose.result c.choose.ensures c.in-Nan.negative c.in-Nan.stored c.in-Nan.is)
