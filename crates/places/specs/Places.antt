-- What a place of an accepted list gets. Nothing to believe: this only names the code's own value.
use Rattle.std.specs.Prelude.{ℕ}
use Rattle.definitions.specs.Fold.{result_at, byte_at}
use Rattle.definitions.specs.declared.Kind.{Kind}
use Rattle.places.specs.declared.Place.{Place}

-- that of the dividend x, by the divisor y
abbrev pub place_at : Kind → ℕ → ℕ → Place
place_at κ y x = record { value = result_at κ y x; byte = byte_at κ y x }
