-- The shift by the count of leading zeros brings the leading one to the top. Assumes nothing.
use mathlib.Core.Path.{◌≡◌}
use Prim.Native.Nat.{ℕ, ◌+◌, ◌-◌, ◌*◌, ◌^◌, ◌≤◌, ◌<◌}
use native.Mathlib.Omega.{arith}
use lib.Count.{count_leading_zeros}
use lib.Pow.{pow-add, shl_lt}
use lib.Ieee.{size}
use lib.Ieee.Digits.{size-lt}
use native.Mathlib.Nat.{mul-le-mul_right}
use Rattle.digits.proofs.Size.{size_leading, size_pos, size_top}

module _ (k a : ℕ) (some : 0 < a) (word : a < 2 ^ k) where
  pub leading_under : count_leading_zeros k a < k
  leading_under = let s = size_pos a some in omega (arith, size_leading k a word)

  pub shifted_small : a * 2 ^ count_leading_zeros k a < 2 ^ k
  shifted_small = let e : size a + count_leading_zeros k a ≡ k = omega (arith, size_leading k a word) in rw e at (shl_lt (size a) (count_leading_zeros k a) (size-lt a))

  pub shifted_top : 2 ^ (k - 1) ≤ a * 2 ^ count_leading_zeros k a
  shifted_top =
      let s = size_pos a some in
      let e : size a - 1 + count_leading_zeros k a ≡ k - 1 = omega (arith, size_leading k a word) in
      rw (← e, pow-add 2 (size a - 1) (count_leading_zeros k a)) (mul-le-mul_right (2 ^ count_leading_zeros k a) (size_top a some))
