-- The number of binary digits: bounds, shifts, and the machine's count of leading zeros. Assumes nothing.
use mathlib.Core.Path.{◌≡◌, refl}
use Prim.Native.Nat.{ℕ, zero, suc, ◌+◌, ◌-◌, ◌*◌, ◌/◌, ◌^◌, ◌≤◌, ◌<◌}
use native.Mathlib.Nat.{lt_of_le_of_lt, lt_of_lt_of_le, le_antisymm, lt_of_not-le, lt_irrefl, zero-lt-suc, add-zero, mul-le-mul_right, le-div_iff_mul-le}
use native.Mathlib.Omega.{arith}
use lib.Pow.{pow-add, pow_pos, pow_mono, shl_lt, shr_lt}
use lib.Count.{count_leading_zeros, leading_top, leading_of_zero}
use lib.Ieee.{size}
use lib.Ieee.Digits.{size-lt, size-le, size_reaches}

pub size_zero : size 0 ≡ 0
unfolding size
size_zero = refl

pub size_above : (n j : ℕ) → 2 ^ j ≤ n → j < size n
size_above n j h = lt_of_not-le (λ (l : size n ≤ j). lt_irrefl n (lt_of_lt_of_le (lt_of_lt_of_le (size-lt n) (pow_mono l)) h))

pub size_between : (n j : ℕ) → 2 ^ j ≤ n → n < 2 ^ suc j → size n ≡ suc j
size_between n j l h = le_antisymm (size-le n (suc j) h) (size_above n j l)

pub size_pos : (n : ℕ) → 0 < n → 0 < size n
size_pos n h = size_above n 0 h

pub size_mono : (n m : ℕ) → n ≤ m → size n ≤ size m
size_mono n m h = size-le n (size m) (lt_of_le_of_lt h (size-lt m))

-- the leading one's place
pub size_top : (n : ℕ) → 0 < n → 2 ^ (size n - 1) ≤ n
size_top n h = let p = size_pos n h in size_reaches n (size n - 1) (omega arith)

pub size_shift : (n t : ℕ) → 0 < n → size (n * 2 ^ t) ≡ size n + t
size_shift n t h =
    let p = size_pos n h in
    let low = size_above (n * 2 ^ t) (size n - 1 + t) (rw (pow-add 2 (size n - 1) t) (mul-le-mul_right (2 ^ t) (size_top n h))) in
    let high = size-le (n * 2 ^ t) (size n + t) (shl_lt (size n) t (size-lt n)) in
    omega arith

-- what is cut off at the place k takes k digits, or all of them
pub size_cut : (n k : ℕ) → k < size n → size (n / 2 ^ k) + k ≡ size n
size_cut n k h =
    let e : size n - 1 - k + k ≡ size n - 1 = omega arith in
    let f : size n - k + k ≡ size n = omega arith in
    let t = size_reaches n (size n - 1) (omega arith) in
    let low = size_above (n / 2 ^ k) (size n - 1 - k) ((le-div_iff_mul-le (pow_pos k)).1 (rw (← pow-add 2 (size n - 1 - k) k, e) t)) in
    let high = size-le (n / 2 ^ k) (size n - k) (shr_lt (size n - k) k (rw f (size-lt n))) in
    omega arith

-- the machine's count
pub size_leading : (k n : ℕ) → n < 2 ^ k → count_leading_zeros k n + size n ≡ k
size_leading k zero h = rw (size_zero, add-zero) (leading_of_zero k)
size_leading k (suc n) h = let t = leading_top k (suc n) (zero-lt-suc n) h in rw (size_between (suc n) t.0 t.2 t.3) t.1
