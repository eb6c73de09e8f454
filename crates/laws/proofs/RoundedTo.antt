-- Rounding to p digits does not depend on the place in which a count is written, nor on what an odd cut loses. Assumes nothing.
use mathlib.Core.Path.{◌≡◌, sym, ap, ◌∙◌, subst}
use mathlib.Core.Bool.{Bool, true, false, not}
use Prim.Native.Nat.{ℕ, ◌+◌, ◌-◌, ◌*◌, ◌/◌, ◌^◌, ◌≤◌, ◌<◌}
use native.Mathlib.Nat.{add-zero, mul-one, div-mul_cancel, one-dvd, dvd_refl}
use native.Mathlib.Omega.{arith}
use lib.Dec.{T, leb, leb→le, nleb→lt, ltb, ltb→lt, nltb→le}
use lib.Pow.{pow-lt}
use lib.Ieee.{size}
use lib.Ieee.Fits.{kept-lt}
use Rattle.digits.specs.Digits.{Digits}
use Rattle.digits.proofs.Common.{shift_shift, shift_back}
use Rattle.digits.proofs.Size.{size_zero, size_shift}
use Rattle.digits.proofs.Digits.{digits_intro, digits_dvd, digits_shift}
use Rattle.definitions.specs.Format.{Format, Representable}
use Rattle.definitions.specs.Round.{Rounded, round}
use Rattle.laws.proofs.Round.{round_same, round_multiple, round_near}
use Rattle.laws.specs.OddCut.{odd_cut}
use Rattle.definitions.specs.Difference.{rounded_to}
use Rattle.laws.proofs.Sticky.{round_sticky, odd_size}

-- at most p digits are kept as they are
pub rounded_short : (p n t : ℕ) → size (n * 2 ^ t) ≤ p + t → rounded_to p (n * 2 ^ t) ≡ n * 2 ^ t
unfolding rounded_to
rounded_short p n t h =
    let e = size (n * 2 ^ t) - p in
    let l : e ≤ t = omega arith in
    let q : (round (n * 2 ^ t) e).quotient ≡ n * 2 ^ (t - e) =
    ap (λ (z : ℕ). (round z e).quotient) (sym (shift_back n t e l)) ∙ ap (λ (c : Rounded). c.quotient) (round_multiple (n * 2 ^ (t - e)) e) in
    ap (λ (z : ℕ). z * 2 ^ e) q ∙ shift_back n t e l

pub rounded_zero : (p : ℕ) → rounded_to p 0 ≡ 0
rounded_zero p = rounded_short p 0 0 (rw size_zero (omega arith))

-- the place in which a count is written does not matter
pub rounded_shift : (p n t : ℕ) → 0 < n → rounded_to p (n * 2 ^ t) ≡ rounded_to p n * 2 ^ t
unfolding rounded_to
rounded_shift p n t some = go (leb (size n) p) (leb→le (size n) p) (nleb→lt (size n) p)
  where
    s : size (n * 2 ^ t) ≡ size n + t
    s = size_shift n t some

    go : (b : Bool) → (T b → size n ≤ p) → (T (not b) → p < size n) → rounded_to p (n * 2 ^ t) ≡ rounded_to p n * 2 ^ t
    go true f g =
        let l = f tt in
        let k : rounded_to p n ≡ n = rw mul-one at (rounded_short p n 0 (rw mul-one (omega arith))) in
        rounded_short p n t (omega (arith, s)) ∙ ap (λ (z : ℕ). z * 2 ^ t) (sym k)
    go false f g =
        let l = g tt in
        let e : size (n * 2 ^ t) - p ≡ size n - p + t = omega (arith, s) in
        let c : round (n * 2 ^ t) (size n - p + t) ≡ round n (size n - p) =
        round_same (n * 2 ^ t) (size n - p + t) 0 n (size n - p) t (mul-one (n * 2 ^ t)) (omega arith) in
        ap (λ (i : ℕ). (round (n * 2 ^ t) i).quotient * 2 ^ i) e ∙ ap (λ (r : Rounded). r.quotient * 2 ^ (size n - p + t)) c
        ∙ sym (shift_shift (round n (size n - p)).quotient (size n - p) t)

-- and neither does what an odd cut by k places loses, where two digits are left below the p
pub rounded_sticky : (p n k : ℕ) → p + 2 + k ≤ size n → rounded_to p n ≡ rounded_to p (odd_cut n k) * 2 ^ k
unfolding rounded_to
rounded_sticky p n k h =
    let s = odd_size n k (omega arith) in
    let j = size (odd_cut n k) - p in
    let e : size n - p ≡ j + k = omega arith in
    ap (λ (i : ℕ). (round n i).quotient * 2 ^ i) e ∙ ap (λ (z : ℕ). z * 2 ^ (j + k)) (round_sticky n k j (omega arith))
    ∙ sym (shift_shift (round (odd_cut n k) j).quotient j k)

-- ---- what it leaves has at most p digits, and what has no more it keeps

short_digits : (p q : ℕ) → 1 ≤ p → q ≤ 2 ^ p → Digits p q
short_digits p q h l = go (ltb q (2 ^ p)) (ltb→lt q (2 ^ p)) (nltb→le q (2 ^ p))
  where
    go : (t : Bool) → (T t → q < 2 ^ p) → (T (not t) → 2 ^ p ≤ q) → Digits p q
    go true a b = digits_intro p 0 q (one-dvd q) (rw (add-zero p) (a tt))
    go false a b =
        let e : 2 ^ p ≡ q = omega (arith, b tt) in
        subst (Digits p) e (digits_intro p p (2 ^ p) (dvd_refl (2 ^ p)) (pow-lt (omega arith)))

pub rounded_digits : (p n : ℕ) → 1 ≤ p → Digits p (rounded_to p n)
unfolding rounded_to
rounded_digits p n h =
    let e = size n - p in
    digits_shift p (round n e).quotient e (short_digits p (round n e).quotient h (omega (arith, round_near n e, kept-lt p n)))

pub rounded_held : (f : Format) (n : ℕ) → Representable f n → rounded_to f.precision n ≡ n
rounded_held f n h =
    let p = f.precision in
    let e = size n - p in
    let m : n / 2 ^ e * 2 ^ e ≡ n = div-mul_cancel (2 ^ e) (digits_dvd p n h.digits) in
    subst (λ (i : ℕ). rounded_to p i ≡ i) m (rounded_short p (n / 2 ^ e) e (rw m (omega arith)))
