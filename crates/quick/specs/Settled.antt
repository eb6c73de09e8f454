-- What a division left, settled. Nothing to believe: this only names the code's own values.
use Rattle.std.specs.Prelude.{ℕ, ◌+◌, ◌-◌, ◌%◌, ◌^◌, Bool, cond, not}
use Rattle.division.specs.declared.Divided.{Divided}
use Rattle.quick.specs.declared.Settled.{Settled}

-- by whether the quotient goes up
abbrev pub settled_of : Bool → Bool → Divided → ℕ → Settled
settled_of u n d b =
    cond u (record { negative = not n; rest = b - d.remainder; quotient = (d.quotient + 1) % 2 ^ 32 }) (record { negative = n; rest = d.remainder; quotient = d.quotient })
