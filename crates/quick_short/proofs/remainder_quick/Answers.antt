-- `remainder_quick` meets its contract: what is quick and not common is kept.
use mathlib.Core.Path.{sym, ◌∙◌}
use Rattle.quick_short.proofs.Fields.{not_common}
use Rattle.quick_short.proofs.remainder_quick.Goals as goal

pub remainder_kept-requires : goal.remainder_kept-requires
remainder_kept-requires g c =
    let a = c.args in
    (c.requires.0, not_common g.F.Format.format a.x a.y a.kind c.requires.1 (sym c.is_common.ensures ∙ c.if-is_common.false))
