-- The gap of two counts: whether it is below 64, how large it is, and how large it can be. Assumes nothing.
use mathlib.Core.Path.{◌≡◌, refl, sym}
use mathlib.Core.Bool.{Bool, true, false}
use Prim.Native.Nat.{ℕ, zero, suc, ◌+◌, ◌-◌, ◌≤◌, ◌<◌, zero-le}
use native.Mathlib.Nat.{add-zero, sub-zero, zero-sub}
use native.Mathlib.Omega.{arith}
use borrow.Author.Tests.{lt-ltb, ltb-true, ltb-false}
use lib.Dec.{T, ltb, le→leb, eqb-suc-zero, lit<, lit≤}
use lib.IntN.{ℤ, pos, negsuc, neg_ℤ, nat_abs, ◌+ℤ◌, ◌-ℤ◌, +ℤ_comm, +ℤ_assoc, neg_ℤ-+ℤ, +ℤ-neg_ℤ_cancel}
use lib.Signed.{lt_z, le_z}
use lib.Ieee.{size}
use Rattle.digits.proofs.Tests.{not_zero}
use Rattle.digits.proofs.Size.{size_zero, size_pos, size_between}
use Rattle.definitions.specs.Class.{gap}
use Rattle.definitions.specs.Format.{Format, Representable, Regular, exponent_of, largest_gap}
use Rattle.laws.proofs.Representable.{largest, size_largest}

-- the difference of two natural numbers is the cut-off one, or negative
pub sub_cases : (P : ℤ → Type 0) (a b : ℕ) → (b ≤ a → P (pos (a - b))) → ((k : ℕ) → a + suc k ≡ b → P (negsuc k)) → P (pos a -ℤ pos b)
sub_cases P a zero up down = rw add-zero (rw sub-zero at (up zero-le))
sub_cases P a (suc b) up down = go (ltb a (suc b)) refl
  where
    go : (t : Bool) → ltb a (suc b) ≡ t → P (pos a -ℤ pos (suc b))
    go true e = rw e (down (suc b - suc a) (omega (arith, ltb-true a (suc b) e)))
    go false e = rw e (up (ltb-false a (suc b) e))

pub sub_is : (P : ℤ → Type 0) (a b : ℕ) → P (pos (a - b)) → ((k : ℕ) → a < b → P (negsuc k)) → P (pos a -ℤ pos b)
sub_is P a b up down = sub_cases P a b (λ h. up) (λ k e. down k (omega arith))

-- and so is a gap
pub gap_is : (P : ℤ → Type 0) (n m : ℕ) → P (pos (size n - size m)) → ((k : ℕ) → size n < size m → P (negsuc k)) → P (gap n m)
unfolding gap
gap_is P zero m up down = rw (size_zero, zero-sub) at up
gap_is P (suc n) m up down = rw (eqb-suc-zero n) (sub_is P (size (suc n)) (size m) up down)

-- the gap is below 64 exactly if the cut-off difference of the lengths is
pub gap_near : (n m : ℕ) → lt_z (gap n m) (pos 64) ≡ ltb (size n - size m) 64
gap_near n m = gap_is (λ D. lt_z D (pos 64) ≡ ltb (size n - size m) 64) n m refl (λ k h. sym (lt-ltb (size n - size m) 64 (omega arith)))

pub gap_far : (n m : ℕ) → 64 ≤ size n - size m → nat_abs (gap n m) ≡ size n - size m
gap_far n m far = gap_is (λ D. nat_abs D ≡ size n - size m) n m refl (λ k h. omega arith)

-- [2.8] the gap is the difference of the exponents: the smallest place cancels
pub cancel : (z a b : ℤ) → (z +ℤ a) -ℤ (z +ℤ b) ≡ a -ℤ b
cancel z a b = rw (neg_ℤ-+ℤ z b, +ℤ_comm z a, ← +ℤ_assoc (a +ℤ z) (neg_ℤ z) (neg_ℤ b), +ℤ-neg_ℤ_cancel a z)

pub gap_exponents : (f : Format) (n m : ℕ) → 0 < n → 0 < m → gap n m ≡ exponent_of f n -ℤ exponent_of f m
unfolding gap
gap_exponents f n m pn pm =
    let a : 1 + (size n - 1) ≡ size n = omega (arith, size_pos n pn) in
    let b : 1 + (size m - 1) ≡ size m = omega (arith, size_pos m pm) in
    let d : pos (1 + (size n - 1)) -ℤ pos (1 + (size m - 1)) ≡ pos (size n - 1) -ℤ pos (size m - 1) = cancel (pos 1) (pos (size n - 1)) (pos (size m - 1)) in
    rw (not_zero n pn, cancel f.smallest (pos (size n - 1)) (pos (size m - 1))) (rw (a, b) at d)

-- no gap of a format's counts is above the largest
pub gap_bound : (f : Format) (n m : ℕ) → Representable f n → 0 < m → T (le_z (gap n m) (pos (largest_gap f)))
gap_bound f n m held pm =
    gap_is (λ D. T (le_z D (pos (largest_gap f)))) n m (le→leb (size n - size m) (largest_gap f) (omega (arith, size_pos m pm))) (λ k h. tt)

-- and the largest finite count by the smallest nonzero one has that gap
pub gap_reached : (f : Format) → Regular f → gap (largest f) 1 ≡ pos (largest_gap f)
gap_reached f r =
    let one : size 1 ≡ 1 = size_between 1 0 (lit≤ tt) (lit< tt) in
    gap_is (λ D. D ≡ pos (largest_gap f)) (largest f) 1 (rw (size_largest f r, one)) (λ k h. absurd (omega (arith, size_largest f r)))
