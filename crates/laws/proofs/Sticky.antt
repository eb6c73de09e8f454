-- The odd cut keeps all that a later rounding looks at: an even number may be added before or after it, and rounding what it leaves,
-- with two places or more to go, is rounding the whole. Assumes nothing.
use mathlib.Core.Path.{◌≡◌, refl, sym, ap, ◌∙◌}
use mathlib.Core.Bool.{Bool, true, false, not, cond}
use Prim.Native.Nat.{ℕ, suc, ◌+◌, ◌-◌, ◌*◌, ◌/◌, ◌%◌, ◌^◌, ◌≤◌, ◌<◌}
use native.Mathlib.Nat.{mod-lt, div-add-mod', pos_of_ne-zero, mul-le-mul_right, mul-div_cancel, mul-mod_left, mul-one, zero-mul, zero-add, lt_of_mul-lt-mul_right, two-pow-succ, lt_of_not-le}
use native.Mathlib.Omega.{arith}
use borrow.Author.Tests.{eqb-true, eqb-false, lt-ltb, le-ltb}
use lib.Dec.{T, ltb, leb, leb→le, nleb→lt, eqb, lit<}
use lib.Pow.{pow-add, pow_pos}
use lib.Ieee.{size}
use lib.Ieee.Digits.{size-lt, size-le}
use Rattle.digits.proofs.Common.{unique_div, unique_mod, sub_scale}
use Rattle.digits.proofs.Tests.{not_zero}
use Rattle.digits.proofs.Size.{size_between, size_above, size_mono, size_top, size_cut}
use Rattle.definitions.specs.Round.{Rounded, round}
use Rattle.laws.proofs.Division.{rounds_up_once}
use Rattle.laws.proofs.Round.{round_same}
use Rattle.laws.specs.OddCut.{odd_cut}

-- the two cases
pub odd_exact : (q k : ℕ) → odd_cut (q * 2 ^ k) k ≡ q
unfolding odd_cut
odd_exact q k = rw (mul-mod_left q (2 ^ k)) (mul-div_cancel q (pow_pos k))

pub odd_rest : (q r k : ℕ) → 0 < r → r < 2 ^ k → odd_cut (q * 2 ^ k + r) k ≡ q / 2 * 2 + 1
unfolding odd_cut
odd_rest q r k some l =
    rw (unique_div (q * 2 ^ k + r) q r (2 ^ k) l refl, unique_mod (q * 2 ^ k + r) q r (2 ^ k) l refl, not_zero r some)

-- nothing, and where all is cut off
pub odd_zero : (k : ℕ) → odd_cut 0 k ≡ 0
odd_zero k = rw zero-mul at (odd_exact 0 k)

pub odd_all : (n k : ℕ) → 0 < n → n < 2 ^ k → odd_cut n k ≡ 1
odd_all n k some l = rw (zero-mul, zero-add) at (odd_rest 0 n k some l)

-- a number is a multiple of the power, or has a rest
pub by_rest : (P : Type 0) (n k : ℕ) → ((q : ℕ) → n ≡ q * 2 ^ k → P) → ((q r : ℕ) → n ≡ q * 2 ^ k + r → 0 < r → r < 2 ^ k → P) → P
by_rest P n k f g = go (eqb (n % 2 ^ k) 0) refl
  where
    whole : n / 2 ^ k * 2 ^ k + n % 2 ^ k ≡ n
    whole = div-add-mod' n (2 ^ k)

    go : (t : Bool) → eqb (n % 2 ^ k) 0 ≡ t → P
    go true e = f (n / 2 ^ k) (omega (arith, whole, eqb-true (n % 2 ^ k) 0 e))
    go false e = g (n / 2 ^ k) (n % 2 ^ k) (sym whole) (pos_of_ne-zero (eqb-false (n % 2 ^ k) 0 e)) (mod-lt n (pow_pos k))

-- an even number added before or after
pub odd_add : (a b k : ℕ) → a % 2 ≡ 0 → odd_cut (a * 2 ^ k + b) k ≡ a + odd_cut b k
odd_add a b k even = by_rest (odd_cut (a * 2 ^ k + b) k ≡ a + odd_cut b k) b k whole rest
  where
    whole : (q : ℕ) → b ≡ q * 2 ^ k → odd_cut (a * 2 ^ k + b) k ≡ a + odd_cut b k
    whole q e =
        let s : a * 2 ^ k + q * 2 ^ k ≡ (a + q) * 2 ^ k = omega arith in
        rw (e, s, odd_exact (a + q) k, odd_exact q k)

    rest : (q r : ℕ) → b ≡ q * 2 ^ k + r → 0 < r → r < 2 ^ k → odd_cut (a * 2 ^ k + b) k ≡ a + odd_cut b k
    rest q r e some l =
        let s : a * 2 ^ k + (q * 2 ^ k + r) ≡ (a + q) * 2 ^ k + r = omega arith in
        rw (e, s, odd_rest (a + q) r k some l, odd_rest q r k some l) (omega arith)

-- a number taken from an even one before or after
pub odd_sub : (a b k : ℕ) → a % 2 ≡ 0 → b ≤ a * 2 ^ k → odd_cut (a * 2 ^ k - b) k ≡ a - odd_cut b k
odd_sub a b k even h = by_rest (odd_cut (a * 2 ^ k - b) k ≡ a - odd_cut b k) b k whole rest
  where
    whole : (q : ℕ) → b ≡ q * 2 ^ k → odd_cut (a * 2 ^ k - b) k ≡ a - odd_cut b k
    whole q e = rw (e, sub_scale a q (2 ^ k), odd_exact (a - q) k, odd_exact q k)

    rest : (q r : ℕ) → b ≡ q * 2 ^ k + r → 0 < r → r < 2 ^ k → odd_cut (a * 2 ^ k - b) k ≡ a - odd_cut b k
    rest q r e some l =
        let under : q < a = lt_of_mul-lt-mul_right (2 ^ k) (omega (arith, h)) in
        let c = a - q - 1 in
        let f : a ≡ c + q + 1 = omega arith in
        let g : a * 2 ^ k ≡ c * 2 ^ k + q * 2 ^ k + 2 ^ k = ap (λ (z : ℕ). z * 2 ^ k) f ∙ omega arith in
        let s : a * 2 ^ k - (q * 2 ^ k + r) ≡ c * 2 ^ k + (2 ^ k - r) = omega arith in
        rw (e, s, odd_rest c (2 ^ k - r) k (omega arith) (omega arith), odd_rest q r k some l) (omega arith)

-- ---- rounding

-- with the rest r below the places that are kept, what goes up is told by the places alone
up_sticky : (Q R r d D : ℕ) → 0 < r → r < d → R < 4 * D
    → ltb (4 * D * d) ((R * d + r) * 2 + Q % 2) ≡ ltb (4 * D) ((R / 2 * 2 + 1) * 2 + Q % 2)
up_sticky Q R r d D some l h = go (leb (2 * D) R) (leb→le (2 * D) R) (nleb→lt (2 * D) R)
  where
    go : (t : Bool) → (T t → 2 * D ≤ R) → (T (not t) → R < 2 * D) → ltb (4 * D * d) ((R * d + r) * 2 + Q % 2) ≡ ltb (4 * D) ((R / 2 * 2 + 1) * 2 + Q % 2)
    go true a b =
        let u = a tt in
        let m : 2 * D * d ≤ R * d = mul-le-mul_right d u in
        lt-ltb (4 * D * d) ((R * d + r) * 2 + Q % 2) (omega arith) ∙ sym (lt-ltb (4 * D) ((R / 2 * 2 + 1) * 2 + Q % 2) (omega arith))
    go false a b =
        let u : R + 1 ≤ 2 * D = omega (arith, b tt) in
        let m : (R + 1) * d ≤ 2 * D * d = mul-le-mul_right d u in
        le-ltb (4 * D * d) ((R * d + r) * 2 + Q % 2) (omega arith) ∙ sym (le-ltb (4 * D) ((R / 2 * 2 + 1) * 2 + Q % 2) (omega arith))

-- the quotient of a rounding, by one test
round_quotient : (n d k Q R : ℕ) → 2 ^ k ≡ d → R < d → n ≡ Q * d + R → (round n k).quotient ≡ cond (ltb d (R * 2 + Q % 2)) (Q + 1) Q
unfolding round
round_quotient n d k Q R p l e = rw (p, unique_div n Q R d l e, unique_mod n Q R d l e, rounds_up_once Q R d)

-- the odd cut by k places, then rounding by j, is rounding by both at once, where j is two or more
pub round_sticky : (n k j : ℕ) → 2 ≤ j → (round n (j + k)).quotient ≡ (round (odd_cut n k) j).quotient
round_sticky n k j h = by_rest ((round n (j + k)).quotient ≡ (round (odd_cut n k) j).quotient) n k whole rest
  where
    whole : (q : ℕ) → n ≡ q * 2 ^ k → (round n (j + k)).quotient ≡ (round (odd_cut n k) j).quotient
    whole q e = rw (e, odd_exact q k) (ap (λ (c : Rounded). c.quotient) (round_same (q * 2 ^ k) (j + k) 0 q j k (mul-one (q * 2 ^ k)) (omega arith)))

    D : ℕ
    D = 2 ^ (j - 2)

    four : 2 ^ j ≡ 4 * D
    four = let e : 2 + (j - 2) ≡ j = omega arith in ap (λ (i : ℕ). 2 ^ i) (sym e) ∙ pow-add 2 2 (j - 2)

    rest : (q r : ℕ) → n ≡ q * 2 ^ k + r → 0 < r → r < 2 ^ k → (round n (j + k)).quotient ≡ (round (odd_cut n k) j).quotient
    rest q r e some l =
        let d = 2 ^ k in
        let Q = q / (4 * D) in
        let R = q % (4 * D) in
        let w : q ≡ Q * (4 * D) + R = sym (div-add-mod' q (4 * D)) in
        let big : 0 < 4 * D = omega (arith, pow_pos (j - 2)) in
        let R< : R < 4 * D = mod-lt q big in
        let R≤ : R + 1 ≤ 4 * D = omega arith in
        let low : R * d + r < 4 * D * d = let m : (R + 1) * d ≤ 4 * D * d = mul-le-mul_right d R≤ in omega arith in
        let n= : q * d + r ≡ Q * (4 * D * d) + (R * d + r) = ap (λ (z : ℕ). z * d + r) w ∙ omega arith in
        let o= : q / 2 * 2 + 1 ≡ Q * (4 * D) + (R / 2 * 2 + 1) = ap (λ (z : ℕ). z / 2 * 2 + 1) w ∙ omega arith in
        let o< : R / 2 * 2 + 1 < 4 * D = omega arith in
        rw (e, odd_rest q r k some l)
        (round_quotient (q * d + r) (4 * D * d) (j + k) Q (R * d + r) (pow-add 2 j k ∙ ap (λ (z : ℕ). z * d) four) low n=
        ∙ ap (λ (t : Bool). cond t (Q + 1) Q) (up_sticky Q R r d D some l R<)
        ∙ sym (round_quotient (q / 2 * 2 + 1) (4 * D) j Q (R / 2 * 2 + 1) four o< o=))

-- ---- sizes

odd_size_even : (q : ℕ) → 2 ≤ q → size (q / 2 * 2 + 1) ≡ size q
odd_size_even q h =
    let some : 0 < q = omega arith in
    let s = size_above q 1 h in
    let i = size q - 2 in
    let e : size q ≡ suc (suc i) = omega arith in
    let two : 2 ^ suc i ≡ 2 ^ i + 2 ^ i = two-pow-succ i in
    let four : 2 ^ suc (suc i) ≡ 2 ^ suc i + 2 ^ suc i = two-pow-succ (suc i) in
    let f : size q - 1 ≡ suc i = omega arith in
    let top : 2 ^ suc i ≤ q = rw f at (size_top q some) in
    let word : q < 2 ^ suc (suc i) = rw e at (size-lt q) in
    size_between (q / 2 * 2 + 1) (suc i) (omega arith) (omega arith) ∙ sym e

-- the odd cut has lost k digits
pub odd_size : (n k : ℕ) → k + 2 ≤ size n → size (odd_cut n k) + k ≡ size n
odd_size n k h = by_rest (size (odd_cut n k) + k ≡ size n) n k whole rest
  where
    cut_off : (q : ℕ) → n / 2 ^ k ≡ q → size q + k ≡ size n
    cut_off q e = rw e at (size_cut n k (omega arith))

    whole : (q : ℕ) → n ≡ q * 2 ^ k → size (odd_cut n k) + k ≡ size n
    whole q e = let s = cut_off q (ap (λ (z : ℕ). z / 2 ^ k) e ∙ mul-div_cancel q (pow_pos k)) in ap (λ (z : ℕ). size (odd_cut z k) + k) e ∙ rw (odd_exact q k) s

    rest : (q r : ℕ) → n ≡ q * 2 ^ k + r → 0 < r → r < 2 ^ k → size (odd_cut n k) + k ≡ size n
    rest q r e some l =
        let s = cut_off q (unique_div n q r (2 ^ k) l e) in
        let two : 2 ≤ q = lt_of_not-le (λ (b : q ≤ 1). let z = size_mono q 1 b in let o = size-le 1 1 (lit< tt) in let f : ⊥ = omega arith in f) in
        ap (λ (z : ℕ). size (odd_cut z k) + k) e ∙ ap (λ (z : ℕ). size z + k) (odd_rest q r k some l) ∙ rw (odd_size_even q two) s
