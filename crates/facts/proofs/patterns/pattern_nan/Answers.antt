-- `pattern_nan` meets its contract: the operands are those of the patterns.
use mathlib.Core.Path.{◌∙◌}
use Rattle.laws.proofs.Small.{nan_fits}
use Rattle.facts.proofs.Choosing.{patterns_nan}
use Rattle.facts.proofs.patterns.pattern_nan.Goals as goal

pub returns-clause-nan : goal.returns-clause-nan
returns-clause-nan g c =
    c.nan_of.ensures ∙ patterns_nan g.F.Format.format g.met.F.Format.sound _ _ _ _ c.unpack.ensures c.unpack-2.ensures

pub returns-clause-fits : goal.returns-clause-fits
returns-clause-fits g c = rw (returns-clause-nan g c) (nan_fits g.F.Format.format g.met.F.Format.sound.regular _ _)
