-- What the code reads off the bytes of a line. Definitions only.
use Rattle.std.specs.Prelude.{ℕ, cond, ◌&&◌, List, Option, Some, None, eqb, length}
use Rattle.definitions.specs.Line.{all_hex, hex_value}

-- the number that 16 hex digits stand for, if the list is 16 of them
unfoldable pub field_of : List ℕ → Option ℕ
field_of l = cond (eqb (length l) 16 && all_hex l) (Some (hex_value 0 l)) None
