-- A divisor that ends in zeros. Assumes nothing.
use Rattle.std.proofs.Common.{◌≡◌, ℕ, zero, suc, ◌+◌, ◌-◌, ◌*◌, ◌/◌, ◌%◌, ◌^◌, ◌<◌, ◌≤◌, sym, refl, ap, ◌∙◌, subst, le_trans, lt_trans, lt_of_lt_of_le, lt_irrefl, mod-lt, mod-eq_of_lt, mul_assoc, add-sub_of_le, mul-lt-mul_of_pos_right, one-mul, pow-suc, lt_of_not-le, div-add-mod', le-div_iff_mul-le, arith, pow_pos, pow_mono, pow-add}
use Prim.Native.Nat.{◌∣◌}
use native.Mathlib.Nat.{dvd-mul_left, one-dvd, dvd_trans, dvd-mul_right, mul-dvd-mul_right, div-mul_cancel, le_of_dvd, mod-eq-zero_of_dvd, dvd_of_mod-eq-zero}
use lib.Count.{count_trailing_zeros, under}
use Rattle.digits.proofs.Common.{unique_div, unique_mod}

-- the trailing zeros are zeros
under_dvd : (d t n : ℕ) → n % 2 ≡ d → 2 ^ t ∣ n / 2 → 2 ^ under d t ∣ n
under_dvd zero t n e h =
    let f : n / 2 * 2 ≡ n = omega arith in
    subst (λ (m : ℕ). 2 ^ suc t ∣ m) f (rw (pow-suc 2 t) (mul-dvd-mul_right (2 ^ t) h 2))
under_dvd (suc d) t n e h = one-dvd n

pub trailing_dvd : (k n : ℕ) → 2 ^ count_trailing_zeros k n ∣ n
unfolding count_trailing_zeros
trailing_dvd zero n = one-dvd n
trailing_dvd (suc k) n = under_dvd (n % 2) (count_trailing_zeros k (n / 2)) n refl (trailing_dvd k (n / 2))

-- and there are no more of them
most : (k n p : ℕ) → 0 < n → n < 2 ^ k → 2 ^ p ∣ n → p ≤ count_trailing_zeros k n
unfolding count_trailing_zeros
most zero n p some small h = omega arith
most (suc k) n zero some small h = omega arith
most (suc k) n (suc p) some small h =
    let c = n / 2 ^ suc p in
    let e : c * 2 ^ p * 2 ≡ n = mul_assoc c (2 ^ p) 2 ∙ ap (λ (m : ℕ). c * m) (sym (pow-suc 2 p)) ∙ div-mul_cancel (2 ^ suc p) h in
    let even : n % 2 ≡ 0 = omega arith in
    let half : n / 2 ≡ c * 2 ^ p = omega arith in
    let l = most k (n / 2) p (omega arith) (omega arith) (rw half (dvd-mul_left (2 ^ p) c)) in
    rw even (omega arith)

pub pow_dvd : (i j : ℕ) → i ≤ j → 2 ^ i ∣ 2 ^ j
pow_dvd i j h = subst (λ (e : ℕ). 2 ^ i ∣ 2 ^ e) (add-sub_of_le h) (rw (pow-add 2 i (j - i)) (dvd-mul_right (2 ^ i) (2 ^ (j - i))))

-- b ends in p zeros, and a shifted by as many places is divided by it
pub trailing_mod : (b p : ℕ) → p ≤ count_trailing_zeros 64 b → b % 2 ^ p ≡ 0
trailing_mod b p h = mod-eq-zero_of_dvd (2 ^ p) (dvd_trans (2 ^ p) (pow_dvd p (count_trailing_zeros 64 b) h) (trailing_dvd 64 b))

pub trailing_most : (b p : ℕ) → 0 < b → b < 2 ^ 64 → b % 2 ^ p ≡ 0 → p ≤ count_trailing_zeros 64 b
trailing_most b p some word e = most 64 b p some word (dvd_of_mod-eq-zero (2 ^ p) e)

-- fewer zeros than there are
pub fewer_mod : (b p k : ℕ) → p ≤ k → b % 2 ^ k ≡ 0 → b % 2 ^ p ≡ 0
fewer_mod b p k h e = mod-eq-zero_of_dvd (2 ^ p) (dvd_trans (2 ^ p) (pow_dvd p k h) (dvd_of_mod-eq-zero (2 ^ k) e))

module _ (b p : ℕ) (zeros : b % 2 ^ p ≡ 0) (some : 0 < b) (word : b < 2 ^ 64) where
  dvd : 2 ^ p ∣ b
  dvd = dvd_of_mod-eq-zero (2 ^ p) zeros

  whole : b / 2 ^ p * 2 ^ p ≡ b
  whole = div-mul_cancel (2 ^ p) dvd

  pub under_word : p < 64
  under_word =
      lt_of_not-le
      λ (l : 64 ≤ p).
      lt_irrefl b (lt_of_lt_of_le word (le_trans (pow_mono l) (le_of_dvd some dvd)))

  pub divisor_some : 0 < b / 2 ^ p
  divisor_some = (le-div_iff_mul-le {k = 2 ^ p} {x = 1} {y = b} (pow_pos p)).1 (rw (one-mul (2 ^ p)) (le_of_dvd some dvd))

  module _ (a : ℕ) where
    short_under : a % (b / 2 ^ p) * 2 ^ p < b
    short_under = let h = mul-lt-mul_of_pos_right (mod-lt a divisor_some) (pow_pos p) in rw whole at h

    short_sum : a / (b / 2 ^ p) * b + a % (b / 2 ^ p) * 2 ^ p ≡ a * 2 ^ p
    short_sum =
        let m = b / 2 ^ p in
        let e = ap (λ (n : ℕ). a / m * n) whole in
        let f = ap (λ (n : ℕ). n * 2 ^ p) (div-add-mod' a m) in
        omega arith

    pub short_div : a * 2 ^ p / b ≡ a / (b / 2 ^ p)
    short_div = unique_div (a * 2 ^ p) (a / (b / 2 ^ p)) (a % (b / 2 ^ p) * 2 ^ p) b short_under (sym short_sum)

    pub short_mod : a * 2 ^ p % b ≡ a % (b / 2 ^ p) * 2 ^ p
    short_mod = unique_mod (a * 2 ^ p) (a / (b / 2 ^ p)) (a % (b / 2 ^ p) * 2 ^ p) b short_under (sym short_sum)

    pub short_word : a % (b / 2 ^ p) * 2 ^ p % 2 ^ 64 ≡ a % (b / 2 ^ p) * 2 ^ p
    short_word = mod-eq_of_lt (lt_trans short_under word)
