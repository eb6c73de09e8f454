-- `pattern_of` meets its contract.
use mathlib.Core.Path.{sym, ap, ◌∙◌}
use lib.Ieee.{binary64, to_bits}
use Rattle.floats.proofs.Nan.{is_nan_lem, house_written}
use Rattle.floats.proofs.pattern_of.Goals as goal

pub returns-then-is_nan : goal.returns-then-is_nan
returns-then-is_nan c = sym (ap (to_bits binary64) (is_nan_lem c.args.x (sym c.is_nan.ensures.value ∙ c.if-is_nan.true)) ∙ house_written)
