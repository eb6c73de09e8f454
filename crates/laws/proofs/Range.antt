-- Which counts are in range: an exponent above the bias, and more digits than `reach`, are one. Assumes nothing.
use mathlib.Core.Path.{◌≡◌, sym, ap, ◌∙◌}
use mathlib.Core.Bool.{Bool, true, false, not}
use Prim.Native.Nat.{ℕ, ◌+◌, ◌-◌, ◌≤◌, ◌<◌}
use native.Mathlib.Omega.{arith}
use borrow.Author.Tests.{lt-ltb, le-ltb}
use lib.Dec.{T, ltb, ltb→lt, nltb→le}
use lib.IntN.{ℤ, pos, neg_ℤ, ◌-ℤ◌, +ℤ_comm, +ℤ_idl, +ℤ-neg_ℤ_cancel}
use lib.Signed.{lt_z}
use lib.Ieee.{size}
use Rattle.definitions.specs.Format.{Format, Regular, exponent_of, reach}
use Rattle.laws.proofs.Gap.{sub_is}

-- the smallest place of a regular format
pub smallest_is : (f : Format) → Regular f → f.smallest ≡ neg_ℤ (pos (f.bias + f.precision - 2))
smallest_is f r =
    let k = pos (f.bias + f.precision - 2) in
    sym (sym (+ℤ_idl (neg_ℤ k)) ∙ ap (λ (z : ℤ). z -ℤ k) (sym r.place) ∙ +ℤ-neg_ℤ_cancel f.smallest k)

-- the exponent, counted from the smallest place
pub exponent_is : (f : Format) → Regular f → (n : ℕ) → exponent_of f n ≡ pos (size n - 1) -ℤ pos (f.bias + f.precision - 2)
exponent_is f r n = rw (← smallest_is f r) (+ℤ_comm f.smallest (pos (size n - 1)))

pub exponent_above_lem : (f : Format) → Regular f → (n : ℕ) → lt_z (pos f.bias) (exponent_of f n) ≡ ltb (reach f) (size n)
exponent_above_lem f r n =
    rw (exponent_is f r n)
    (sub_is (λ e. lt_z (pos f.bias) e ≡ ltb (reach f) (size n)) (size n - 1) (f.bias + f.precision - 2)
    (go (ltb (reach f) (size n)) (ltb→lt (reach f) (size n)) (nltb→le (reach f) (size n)))
    (λ k h. sym (le-ltb (reach f) (size n) (omega arith))))
  where
    go : (t : Bool) → (T t → reach f < size n) → (T (not t) → size n ≤ reach f) → ltb f.bias (size n - 1 - (f.bias + f.precision - 2)) ≡ t
    go true a b = lt-ltb f.bias (size n - 1 - (f.bias + f.precision - 2)) (omega (arith, a tt))
    go false a b = le-ltb f.bias (size n - 1 - (f.bias + f.precision - 2)) (omega (arith, b tt))
