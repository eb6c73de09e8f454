-- A cut that the laws of rounding speak of. Nothing to believe: no statement of what is computed names it.
use Rattle.std.specs.Prelude.{ℕ, ◌+◌, ◌*◌, ◌/◌, ◌%◌, ◌^◌, cond, eqb}

-- n / 2 ^ k, made odd where something is left over: the last digit stands for all that was cut off
unfoldable pub odd_cut : ℕ → ℕ → ℕ
odd_cut n k = cond (eqb (n % 2 ^ k) 0) (n / 2 ^ k) (n / 2 ^ k / 2 * 2 + 1)
