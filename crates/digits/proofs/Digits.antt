-- Which numbers have at most p digits from the leading one to the last, and that remainders are among them. Assumes nothing.
use mathlib.Core.Path.{◌≡◌, subst}
use mathlib.Core.Bool.{Bool, true, false, not}
use Prim.Native.Nat.{ℕ, ◌+◌, ◌-◌, ◌*◌, ◌%◌, ◌^◌, ◌≤◌, ◌<◌, ◌∣◌}
use native.Mathlib.Nat.{lt_of_le_of_lt, lt_of_lt_of_le, le_of_lt, mod-lt, mod-le, mul-pos, add-sub_of_le, dvd-mul_right, dvd_trans, dvd-mod_iff, dvd-sub, dvd_of_mod-eq-zero, mod-eq-zero_of_dvd, mul-dvd-mul_right, dvd_of_mul-dvd-mul_right, add_assoc, mod-one}
use native.Mathlib.Omega.{arith}
use lib.Dec.{T, leb, leb→le, nleb→lt}
use lib.Pow.{pow-add, pow_pos, pow_mono, shl_lt}
use lib.Ieee.{size}
use lib.Ieee.Digits.{size-lt, size-le}
use Rattle.digits.specs.Digits.{Digits}
use Rattle.digits.proofs.Size.{size_shift}

pub pow_dvd : (i j : ℕ) → i ≤ j → 2 ^ i ∣ 2 ^ j
pow_dvd i j h = subst (λ (e : ℕ). 2 ^ i ∣ 2 ^ e) (add-sub_of_le h) (rw (pow-add 2 i (j - i)) (dvd-mul_right (2 ^ i) (2 ^ (j - i))))

-- a multiple of 2 ^ a below 2 ^ (p + a)
pub digits_intro : (p a n : ℕ) → 2 ^ a ∣ n → n < 2 ^ (p + a) → Digits p n
digits_intro p a n d l =
    let h = size-le n (p + a) l in
    mod-eq-zero_of_dvd (2 ^ (size n - p)) (dvd_trans (2 ^ (size n - p)) (pow_dvd (size n - p) a (omega arith)) d)

-- and each is one
pub digits_dvd : (p n : ℕ) → Digits p n → 2 ^ (size n - p) ∣ n
digits_dvd p n e = dvd_of_mod-eq-zero (2 ^ (size n - p)) e

pub digits_lt : (p n : ℕ) → n < 2 ^ (p + (size n - p))
digits_lt p n = lt_of_lt_of_le (size-lt n) (pow_mono (omega arith))

-- zeros put below
pub digits_shift : (p n k : ℕ) → Digits p n → Digits p (n * 2 ^ k)
digits_shift p n k d =
    digits_intro p (size n - p + k) (n * 2 ^ k) (rw (pow-add 2 (size n - p) k) (mul-dvd-mul_right (2 ^ (size n - p)) (digits_dvd p n d) (2 ^ k)))
    (rw add_assoc at (shl_lt (p + (size n - p)) k (digits_lt p n)))

-- and taken away again
pub digits_unshift : (p n k : ℕ) → 0 < n → Digits p (n * 2 ^ k) → Digits p n
digits_unshift p n k some d = go (leb (size n) p) (leb→le (size n) p) (nleb→lt (size n) p)
  where
    go : (t : Bool) → (T t → size n ≤ p) → (T (not t) → p < size n) → Digits p n
    go true h g = let e : size n - p ≡ 0 = omega (arith, h tt) in rw e (mod-one n)
    go false h g =
        let e : size (n * 2 ^ k) - p ≡ size n - p + k = omega (arith, size_shift n k some, g tt) in
        mod-eq-zero_of_dvd (2 ^ (size n - p))
        (dvd_of_mul-dvd-mul_right (2 ^ (size n - p)) (pow_pos k) (rw (e, pow-add 2 (size n - p) k) at (digits_dvd p (n * 2 ^ k) d)))

-- what is a whole number of the lower of two last places, and below both numbers
pub digits_common : (p n m v : ℕ) → Digits p n → (b : ℕ) → 2 ^ b ∣ m → m < 2 ^ (p + b) → v ≤ n → v ≤ m
    → ((c : ℕ) → 2 ^ c ∣ n → 2 ^ c ∣ m → 2 ^ c ∣ v) → Digits p v
digits_common p n m v dn b dm lm vn vm both = go (leb a b) (leb→le a b) (nleb→lt a b)
  where
    a : ℕ
    a = size n - p

    go : (t : Bool) → (T t → a ≤ b) → (T (not t) → b < a) → Digits p v
    go true h g = digits_intro p a v (both a (digits_dvd p n dn) (dvd_trans (2 ^ a) (pow_dvd a b (h tt)) dm)) (lt_of_le_of_lt vn (digits_lt p n))
    go false h g = digits_intro p b v (both b (dvd_trans (2 ^ b) (pow_dvd b a (le_of_lt (g tt))) (digits_dvd p n dn)) dm) (lt_of_le_of_lt vm lm)

-- the remainder by m, shifted by j places
pub digits_mod : (p n m j : ℕ) → 0 < m → Digits p n → Digits p m → Digits p (n % (m * 2 ^ j))
digits_mod p n m j h dn dm =
    digits_common p n (m * 2 ^ j) (n % (m * 2 ^ j)) dn (size m - p + j)
    (rw (pow-add 2 (size m - p) j) (mul-dvd-mul_right (2 ^ (size m - p)) (digits_dvd p m dm) (2 ^ j)))
    (rw add_assoc at (shl_lt (p + (size m - p)) j (digits_lt p m)))
    (mod-le n (m * 2 ^ j)) (le_of_lt (mod-lt n (mul-pos h (pow_pos j))))
    (λ c cn cm. (dvd-mod_iff (2 ^ c) cm).1 cn)

-- what is missing to the next multiple of m, where that is no more than the left-over
pub digits_up : (p n m : ℕ) → 0 < m → Digits p n → Digits p m → m ≤ 2 * (n % m) → Digits p (m - n % m)
digits_up p n m h dn dm u =
    let l = mod-lt n h in
    let k = mod-le n m in
    digits_common p n m (m - n % m) dn (size m - p) (digits_dvd p m dm) (digits_lt p m) (omega arith) (omega arith)
    (λ c cn cm. dvd-sub (2 ^ c) cm ((dvd-mod_iff (2 ^ c) cm).1 cn))

-- more digits are allowed
pub digits_more : (p q n : ℕ) → p ≤ q → Digits p n → Digits q n
digits_more p q n h d = mod-eq-zero_of_dvd (2 ^ (size n - q)) (dvd_trans (2 ^ (size n - q)) (pow_dvd (size n - q) (size n - p) (omega arith)) (digits_dvd p n d))
