-- `has_mark` meets its contract: the three letters are the mark's number.
use mathlib.Core.Path.{◌∙◌}
use native.Mathlib.Omega.{arith}
use Rattle.stems.proofs.Header.{mark_told}
use Rattle.stems.proofs.has_mark.Goals as goal

pub returns : goal.returns
returns c = c.starts_with.ensures.value ∙ mark_told c.args.file.now c.requires (λ i. omega (arith, c.type_inv.file i))
