-- Which counts a format holds: a significand of at most `precision` digits, with some digits below it dropped. Assumes nothing.
use mathlib.Core.Path.{◌≡◌, sym, subst}
use mathlib.Core.Bool.{Bool, true, false, not}
use Prim.Native.Nat.{ℕ, zero, suc, ◌+◌, ◌-◌, ◌*◌, ◌/◌, ◌^◌, ◌≤◌, ◌<◌}
use native.Mathlib.Nat.{le_trans, mul-le-mul, lt_of_lt_of_le, dvd-mul_left, div-mul_cancel, div-lt_iff_lt-mul, two-pow-succ, zero-mod}
use native.Mathlib.Omega.{arith}
use lib.Dec.{T, ltb, ltb→lt, nltb→le}
use lib.Pow.{pow-add, pow_pos, pow-lt, pow_mono, shl_lt, shl-shr, ones_lt, le_ones}
use lib.Ieee.{size}
use lib.Ieee.Digits.{size-le}
use lib.Ieee.Fits.{kept-lt}
use Rattle.digits.proofs.Size.{size_zero, size_between, size_shift}
use Rattle.digits.proofs.Digits.{digits_intro, digits_dvd}
use Rattle.definitions.specs.Format.{Format, Representable, Regular, leading, reach, body, magnitude}

-- The significand s of a count that has dropped j low digits: it fits, it has its leading digit unless none are dropped,
-- and the count is in range.
pub record Placed (f : Format) (j s : ℕ) : Type 0 where
  pub small : s < 2 ^ f.precision
  pub leads : s < leading f → j ≡ 0
  pub range : f.precision + j ≤ reach f

pub leading_twice : (f : Format) → Regular f → 2 ^ f.precision ≡ leading f + leading f
leading_twice f r =
    let e : suc (f.precision - 1) ≡ f.precision = omega arith in
    subst (λ (p : ℕ). 2 ^ p ≡ leading f + leading f) e (two-pow-succ (f.precision - 1))

-- what a held count has dropped, and what is left
pub held_placed : (f : Format) → Regular f → (n : ℕ) → Representable f n → Placed f (size n - f.precision) (n / 2 ^ (size n - f.precision))
held_placed f r n h =
    record {
      small = kept-lt f.precision n;
      leads = λ l. omega (arith, size-le n (f.precision - 1 + j) (rw (pow-add 2 (f.precision - 1) j) ((div-lt_iff_lt-mul (pow_pos j)).0 l)));
      range = omega arith;
    }
  where
    j : ℕ
    j = size n - f.precision

-- nothing is lost
pub held_count : (f : Format) (n : ℕ) → Representable f n → n / 2 ^ (size n - f.precision) * 2 ^ (size n - f.precision) ≡ n
held_count f n h = div-mul_cancel (2 ^ (size n - f.precision)) (digits_dvd f.precision n h.digits)

-- the other way: each such count is held
pub shifted_held : (f : Format) (j s : ℕ) → s < 2 ^ f.precision → f.precision + j ≤ reach f → Representable f (s * 2 ^ j)
shifted_held f j s l g =
    let b = shl_lt f.precision j l in
    record {
      digits = digits_intro f.precision j (s * 2 ^ j) (dvd-mul_left (2 ^ j) s) b;
      range = le_trans (size-le (s * 2 ^ j) (f.precision + j) b) g;
    }

pub placed_held : (f : Format) (j s : ℕ) → Placed f j s → Representable f (s * 2 ^ j)
placed_held f j s p = shifted_held f j s p.small p.range

-- and its j and s are the ones that are dropped and left
placed_dropped : (f : Format) → Regular f → (j s : ℕ) → Placed f j s → size (s * 2 ^ j) - f.precision ≡ j
placed_dropped f r j s p = go (ltb s (leading f)) (ltb→lt s (leading f)) (nltb→le s (leading f))
  where
    go : (t : Bool) → (T t → s < leading f) → (T (not t) → leading f ≤ s) → size (s * 2 ^ j) - f.precision ≡ j
    go true a b =
        let z = p.leads (a tt) in
        let l = size-le (s * 2 ^ j) (f.precision + j) (shl_lt f.precision j p.small) in
        omega arith
    go false a b =
        let e : suc (f.precision - 1) ≡ f.precision = omega arith in
        let l = size_between s (f.precision - 1) (b tt) (subst (λ (k : ℕ). s < 2 ^ k) (sym e) p.small) in
        let d = size_shift s j (lt_of_lt_of_le (pow_pos (f.precision - 1)) (b tt)) in
        omega arith

pub magnitude_placed : (f : Format) → Regular f → (j s : ℕ) → Placed f j s → magnitude f (s * 2 ^ j) ≡ body f f.layout j s
unfolding magnitude
magnitude_placed f r j s p = rw (placed_dropped f r j s p, shl-shr s j)

-- the largest finite count: every digit of the significand a one, in the highest place
abbrev pub largest : Format → ℕ
largest f = (2 ^ f.precision - 1) * 2 ^ (reach f - f.precision)

size_ones : (k : ℕ) → size (2 ^ k - 1) ≡ k
size_ones zero = size_zero
size_ones (suc k) = let d = two-pow-succ k in let h = pow_pos k in size_between (2 ^ suc k - 1) k (omega arith) (omega arith)

pub size_largest : (f : Format) → Regular f → size (largest f) ≡ reach f
size_largest f r =
    let h : 2 ^ 1 ≤ 2 ^ f.precision = pow_mono {i = 1} (omega arith) in
    let d = size_shift (2 ^ f.precision - 1) (reach f - f.precision) (omega arith) in
    omega (arith, size_ones f.precision)

pub largest_held : (f : Format) → Regular f → Representable f (largest f)
largest_held f r = shifted_held f (reach f - f.precision) (2 ^ f.precision - 1) (ones_lt f.precision) (omega arith)

pub largest_most : (f : Format) → Regular f → (n : ℕ) → Representable f n → n ≤ largest f
largest_most f r n h =
    let p = held_placed f r n h in
    let l : size n - f.precision ≤ reach f - f.precision = omega (arith, p.range) in
    rw held_count at (mul-le-mul (le_ones f.precision p.small) (pow_mono l))

pub one_held : (f : Format) → Regular f → Representable f 1
one_held f r = shifted_held f 0 1 (pow-lt {i = 0} (omega arith)) (omega arith)

pub zero_held : (f : Format) → Representable f 0
zero_held f = record { digits = zero-mod (2 ^ (size 0 - f.precision)); range = rw size_zero (omega arith) }
