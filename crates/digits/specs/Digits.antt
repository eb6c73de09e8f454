-- How many binary digits a number has from its leading one to its last. Definitions only.
use Rattle.std.specs.Prelude.{ℕ, ◌-◌, ◌%◌, ◌^◌, ◌≡◌}
use Rattle.std.specs.Float.Ieee.{size}

-- n has at most p of them: what lies below its p leading digits is zero
abbrev pub Digits : ℕ → ℕ → Type 0
Digits p n = n % 2 ^ (size n - p) ≡ 0
