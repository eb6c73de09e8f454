-- `float_of` meets its contract.
use mathlib.Core.Path.{sym, ◌∙◌}
use Rattle.floats.proofs.Nan.{number, read_nan, house_read}
use Rattle.floats.proofs.float_of.Goals as goal

pub float_from_bits-result : goal.float_from_bits-result
float_from_bits-result c = number c.args.pattern c.if-pattern-le9218868437227405312.true

pub returns-else-pattern-le9218868437227405312 : goal.returns-else-pattern-le9218868437227405312
returns-else-pattern-le9218868437227405312 c = house_read ∙ sym (read_nan c.args.pattern c.if-pattern-le9218868437227405312.false)
