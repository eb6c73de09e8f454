-- Quotient and remainder in a common place: a factor of both operands cancels. Assumes nothing.
use mathlib.Core.Path.{◌≡◌, refl, sym, ap, ◌∙◌}
use mathlib.Core.Bool.{Bool, true, false, not}
use Prim.Native.Nat.{ℕ, ◌+◌, ◌-◌, ◌*◌, ◌/◌, ◌%◌, ◌^◌, ◌≤◌, ◌<◌}
use native.Mathlib.Nat.{mod-add-div, add-mul, mul_assoc, add-mul-mod_self_left, mul-div_cancel, mul-mod_left, add-zero, mul_comm, mul-sub, mul-lt-mul_of_pos_right, mul-le-mul_right, eq_of_mul-eq-mul_right}
use native.Mathlib.Omega.{arith}
use borrow.Author.Tests.{lt-ltb, le-ltb, eq-eqb, ne_eqb, eqb-false, eqb-true}
use lib.Dec.{T, ltb, eqb, ltb→lt, nltb→le}
use lib.Arith.{mod-mul, digits_div, digits_mod}
use lib.Pow.{pow-add}

-- what makes n with q divisors and r below one is its quotient and its remainder
pub unique_div : (n q r m : ℕ) → r < m → n ≡ q * m + r → n / m ≡ q
unique_div n q r m h e = ap (λ (k : ℕ). k / m) e ∙ digits_div q h

pub unique_mod : (n q r m : ℕ) → r < m → n ≡ q * m + r → n % m ≡ r
unique_mod n q r m h e = ap (λ (k : ℕ). k % m) e ∙ digits_mod q h

pub mod_scale : (n m c : ℕ) → 0 < m → 0 < c → n * c % (m * c) ≡ n % m * c
mod_scale n m c h g = mod-mul (n * c) h g ∙ simp (mul-div_cancel, mul-mod_left, add-zero)

pub sub_scale : (a b c : ℕ) → a * c - b * c ≡ (a - b) * c
sub_scale a b c = rw (mul_comm a c, mul_comm b c, mul_comm (a - b) c) (sym (mul-sub c a b))

pub ltb_scale : (a b c : ℕ) → 0 < c → ltb (a * c) (b * c) ≡ ltb a b
ltb_scale a b c h = go (ltb a b) (ltb→lt a b) (nltb→le a b)
  where
    go : (t : Bool) → (T t → a < b) → (T (not t) → b ≤ a) → ltb (a * c) (b * c) ≡ t
    go true f g = lt-ltb (a * c) (b * c) (mul-lt-mul_of_pos_right (f tt) h)
    go false f g = le-ltb (a * c) (b * c) (mul-le-mul_right c (g tt))

pub eqb_scale : (a b c : ℕ) → 0 < c → eqb (a * c) (b * c) ≡ eqb a b
eqb_scale a b c h = go (eqb a b) refl
  where
    go : (t : Bool) → eqb a b ≡ t → eqb (a * c) (b * c) ≡ t
    go true e = eq-eqb (a * c) (b * c) (ap (λ (z : ℕ). z * c) (eqb-true a b e))
    go false e = ne_eqb (a * c) (b * c) (λ q. eqb-false a b e (eq_of_mul-eq-mul_right c h a b q))

-- shifts: two in a row, and one less
pub shift_shift : (n i j : ℕ) → n * 2 ^ i * 2 ^ j ≡ n * 2 ^ (i + j)
shift_shift n i j = mul_assoc n (2 ^ i) (2 ^ j) ∙ ap (λ (z : ℕ). n * z) (sym (pow-add 2 i j))

pub shift_back : (n i j : ℕ) → j ≤ i → n * 2 ^ (i - j) * 2 ^ j ≡ n * 2 ^ i
shift_back n i j h = let e : i - j + j ≡ i = omega arith in shift_shift n (i - j) j ∙ rw e

-- a factor's own remainder is enough
pub mod_times : (q p c : ℕ) → q % c * p % c ≡ q * p % c
mod_times q p c =
    sym (ap (λ (n : ℕ). n * p % c) (sym (mod-add-div q c)) ∙ ap (λ (n : ℕ). n % c) (add-mul (q % c) (c * (q / c)) p ∙ ap (λ (n : ℕ). q % c * p + n) (mul_assoc c (q / c) p))
    ∙ add-mul-mod_self_left (q % c * p) c (q / c * p))
