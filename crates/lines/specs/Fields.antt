-- What the code reads off a line. Definitions only.
use Rattle.std.specs.Prelude.{ℕ, cond, List, Option, Some, None, take, drop}
use Rattle.definitions.specs.Line.{hex_value, well_formed}

-- the two numbers of a line, if it is well formed
unfoldable pub fields_of : List ℕ → Option (ℕ × ℕ)
fields_of l = cond (well_formed l) (Some (hex_value 0 (take 16 l), hex_value 0 (drop 17 l))) None
