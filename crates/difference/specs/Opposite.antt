-- How the code turns a sign. Nothing to believe: this only names the code's own value.
use Rattle.std.specs.Prelude.{not}
use Rattle.operands.specs.declared.Unpacked.{Unpacked}

-- the value with the other sign
abbrev pub opposite_of : Unpacked → Unpacked
opposite_of u = record { negative = not u.negative; significand = u.significand; exponent = u.exponent }
