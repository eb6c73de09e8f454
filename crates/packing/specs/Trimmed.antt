-- How the code holds a trimmed value. Nothing to believe: this only names the code's own value.
use Rattle.std.specs.Prelude.{ℕ, ◌-◌, ◌/◌, ◌^◌}
use Rattle.std.specs.Float.Ieee.{size}
use Rattle.packing.specs.declared.pack.Trimmed.{Trimmed}

-- the leading p digits of a count, and how many lie below them
abbrev pub trimmed_of : ℕ → ℕ → Trimmed
trimmed_of p n = record { dropped = size n - p; significand = n / 2 ^ (size n - p) }
