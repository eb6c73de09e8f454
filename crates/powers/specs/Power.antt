-- The power that the code scales by. Nothing to believe: this only names the code's own value.
use Rattle.std.specs.Prelude.{ℕ, suc, ◌+◌, ◌-◌, min, ℤ, pos, negsuc}

-- more places than any format has between its smallest place and its largest
abbrev pub far : ℕ
far = 65536

-- a power with `far` added, where one further from 0 than that counts as `far`
unfoldable pub offset_of : ℤ → ℕ
offset_of (pos n) = far + min n far
offset_of (negsuc n) = far - suc n
