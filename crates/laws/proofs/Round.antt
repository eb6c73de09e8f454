-- Rounding by a number of binary places: exact multiples, a common place, and what it does to the digits. Assumes nothing.
use mathlib.Core.Path.{◌≡◌, refl, sym, ap, ap₂, ◌∙◌}
use mathlib.Core.Bool.{Bool, true, false, not, cond}
use Prim.Native.Nat.{ℕ, ◌+◌, ◌-◌, ◌*◌, ◌/◌, ◌%◌, ◌^◌, ◌≤◌, ◌<◌}
use native.Mathlib.Nat.{zero-mul, mul-div-mul_right, mul-mod_left, mul-div_cancel, mod-lt, mod-le, mod-add-div, mod-eq_of_lt, div-eq_of_lt, div-le_self, div-lt_self, pos_of_ne-zero, div-mul_cancel, one-dvd, dvd-mul_left, lt_of_lt_of_le, mul-le-mul_right}
use native.Mathlib.Omega.{arith}
use borrow.Author.Tests.{le-ltb, lt-ltb, eq-eqb, ne_eqb, ltb-true, ltb-false, eqb-true, eqb-false}
use lib.Dec.{T, leb, leb→le, nleb→lt, ltb, eqb}
use lib.Pow.{pow-add, pow_pos, pow_mono, pow-lt, shl_lt, shr_lt}
use lib.Ieee.{size}
use lib.Ieee.Fits.{kept-lt}
use Rattle.digits.specs.Digits.{Digits}
use Rattle.digits.proofs.Tests.{clash, not_zero, and_false}
use Rattle.digits.proofs.Digits.{digits_intro, digits_dvd, digits_lt}
use Rattle.digits.proofs.Common.{mod_scale, eqb_scale, shift_back}
use Rattle.definitions.specs.Division.{rounds_up}
use Rattle.definitions.specs.declared.Kind.TheVariants.{Nearest}
use Rattle.definitions.specs.declared.Rounding.{Rounding}
use Rattle.definitions.specs.declared.Rounding.TheVariants.{Exact, Up, Down}
use Rattle.definitions.specs.Round.{Rounded, direction, round}
use Rattle.laws.proofs.Division.{up_scale, rounds_up_once}

-- where nothing is left over
pub round_exact : (n k : ℕ) → n % 2 ^ k ≡ 0 → round n k ≡ record { quotient = n / 2 ^ k; says = Exact }
unfolding round
round_exact n k e = rw (e, le-ltb (2 ^ k) 0 (omega arith), not_zero (2 ^ k) (pow_pos k))

pub round_multiple : (q k : ℕ) → round (q * 2 ^ k) k ≡ record { quotient = q; says = Exact }
round_multiple q k = round_exact (q * 2 ^ k) k (mul-mod_left q (2 ^ k)) ∙ rw (mul-div_cancel q (pow_pos k))

-- the place in which a number is written does not matter
round_finer : (n k i : ℕ) → round (n * 2 ^ i) (k + i) ≡ round n k
unfolding round
round_finer n k i =
    let d = 2 ^ k in
    let c = 2 ^ i in
    let e : eqb (n % d * c) 0 ≡ eqb (n % d) 0 = rw zero-mul at (eqb_scale (n % d) 0 c (pow_pos i)) in
    rw (pow-add 2 k i, mul-div-mul_right n d (pow_pos i), mod_scale n d c (pow_pos k) (pow_pos i), up_scale Nearest (n / d) (n % d) d c (pow_pos i), e)

pub round_same : (n k i m l j : ℕ) → n * 2 ^ i ≡ m * 2 ^ j → k + i ≡ l + j → round n k ≡ round m l
round_same n k i m l j e f = sym (round_finer n k i) ∙ rw (e, f) (round_finer m l j)

-- nothing is left of at most a half
pub round_nothing : (n k : ℕ) → 0 < n → 2 * n ≤ 2 ^ k → round n k ≡ record { quotient = 0; says = Down }
unfolding round
round_nothing n k some h =
    let l : n < 2 ^ k = omega arith in
    rw (div-eq_of_lt l, mod-eq_of_lt l, not_zero n some, le-ltb (2 ^ k) (2 * n) h, and_false (eqb (2 ^ k) (2 * n)))

-- a quotient is at most one more than the plain one
pub round_near : (n k : ℕ) → (round n k).quotient ≤ n / 2 ^ k + 1
unfolding round
round_near n k = go (rounds_up Nearest (n / 2 ^ k) (n % 2 ^ k) (2 ^ k))
  where
    go : (u : Bool) → cond u (n / 2 ^ k + 1) (n / 2 ^ k) ≤ n / 2 ^ k + 1
    go true = omega arith
    go false = omega arith

-- and no more than what is rounded
pub round_le : (n k : ℕ) → (round n k).quotient ≤ n
round_le n k = go (eqb (n % 2 ^ k) 0) (eqb-true (n % 2 ^ k) 0) (eqb-false (n % 2 ^ k) 0)
  where
    go : (t : Bool) → (t ≡ true → n % 2 ^ k ≡ 0) → (t ≡ false → n % 2 ^ k ≡ 0 → ⊥) → (round n k).quotient ≤ n
    go true a b = rw (round_exact n k (a refl)) (div-le_self n (2 ^ k))
    go false a b =
        let r = mod-lt n (pow_pos k) in
        let some : 0 < n % 2 ^ k = pos_of_ne-zero (b refl) in
        let l : n / 2 ^ k < n = div-lt_self (omega (arith, mod-le n (2 ^ k))) (omega arith) in
        omega (arith, round_near n k)

-- a number of at most p digits keeps that: it loses only zeros, or there is room for one more
pub round_digits : (p n k : ℕ) → 1 ≤ p → Digits p n → Digits p (round n k).quotient
round_digits p n k h d = go (leb k a) (leb→le k a) (nleb→lt k a)
  where
    a : ℕ
    a = size n - p

    go : (t : Bool) → (T t → k ≤ a) → (T (not t) → a < k) → Digits p (round n k).quotient
    go true f g =
        let l = f tt in
        let s = n / 2 ^ a in
        let m : s * 2 ^ (a - k) * 2 ^ k ≡ n = shift_back s a k l ∙ div-mul_cancel (2 ^ a) (digits_dvd p n d) in
        let c : (round n k).quotient ≡ s * 2 ^ (a - k) = rw m at (ap (λ (c : Rounded). c.quotient) (round_multiple (s * 2 ^ (a - k)) k)) in
        rw c (digits_intro p (a - k) (s * 2 ^ (a - k)) (dvd-mul_left (2 ^ (a - k)) s) (shl_lt p (a - k) (kept-lt p n)))
    go false f g =
        let l : n / 2 ^ k < 2 ^ (p - 1) = shr_lt (p - 1) k (lt_of_lt_of_le (digits_lt p n) (pow_mono (omega (arith, g tt)))) in
        let q = round_near n k in
        let w : 2 ^ (p - 1) < 2 ^ (p + 0) = pow-lt (omega arith) in
        digits_intro p 0 (round n k).quotient (one-dvd (round n k).quotient) (omega arith)

-- ---- what rounding is, said without its definition

-- how m stands to n: the same, above it or below
abbrev pub against : ℕ → ℕ → Rounding
against m n = cond (eqb m n) Exact (cond (ltb n m) Up Down)

-- q times d is at most half of d away from n, q is even at a half, and says tells on which side it lies
pub record Closest (n d q : ℕ) (says : Rounding) : Type 0 where
  pub above : 2 * (q * d) ≤ 2 * n + d
  pub below : 2 * n ≤ 2 * (q * d) + d
  pub even_above : 2 * (q * d) ≡ 2 * n + d → q % 2 ≡ 0
  pub even_below : 2 * n ≡ 2 * (q * d) + d → q % 2 ≡ 0
  pub told : says ≡ against (q * d) n

same_told : (m n : ℕ) → m ≡ n → Exact ≡ against m n
same_told m n e = rw (eq-eqb m n e)

above_told : (m n : ℕ) → n < m → Up ≡ against m n
above_told m n h = rw (ne_eqb m n (λ e. omega arith), lt-ltb n m h)

below_told : (m n : ℕ) → m < n → Down ≡ against m n
below_told m n h = rw (ne_eqb m n (λ e. omega arith), le-ltb n m (omega arith))

pub round_closest : (n k : ℕ) → Closest n (2 ^ k) (round n k).quotient (round n k).says
unfolding round
round_closest n k = rw (rounds_up_once q r d) (go (ltb d (r * 2 + q % 2)) (eqb r 0) refl refl)
  where
    d : ℕ
    d = 2 ^ k

    q : ℕ
    q = n / d

    r : ℕ
    r = n % d

    whole : r + d * q ≡ n
    whole = mod-add-div n d

    less : r < d
    less = mod-lt n (pow_pos k)

    go : (u z : Bool) → ltb d (r * 2 + q % 2) ≡ u → eqb r 0 ≡ z → Closest n d (cond u (q + 1) q) (direction z u)
    go true true e f = clash (omega (arith, less, ltb-true d (r * 2 + q % 2) e, eqb-true r 0 f))
    go true false e f =
        let w = whole in
        let l = less in
        let h = ltb-true d (r * 2 + q % 2) e in
        record {
          above = omega arith;
          below = omega arith;
          even_above = λ i. omega arith;
          even_below = λ i. omega arith;
          told = above_told ((q + 1) * d) n (omega arith);
        }
    go false z e f = closest z f
      where
        half : r * 2 + q % 2 ≤ d
        half = ltb-false d (r * 2 + q % 2) e

        side : (z : Bool) → eqb r 0 ≡ z → direction z false ≡ against (q * d) n
        side true i = same_told (q * d) n (omega (arith, whole, eqb-true r 0 i))
        side false i = let o = eqb-false r 0 i in below_told (q * d) n (omega (arith, whole))

        closest : (z : Bool) → eqb r 0 ≡ z → Closest n d q (direction z false)
        closest z i =
            let w = whole in
            let l = less in
            let h = half in
            record { above = omega arith; below = omega arith; even_above = λ j. omega arith; even_below = λ j. omega arith; told = side z i }

-- of two such quotients none is the greater: one place apart both would lie at a half, and be even
apart : {n d q m : ℕ} {s t : Rounding} → 0 < d → Closest n d q s → Closest n d m t → q < m → ⊥
apart {n} {d} {q} {m} some a b l =
    let i : q * d + d ≤ m * d = omega (arith, mul-le-mul_right d l) in
    let above = b.above in
    let below = a.below in
    let e = b.even_above (omega arith) in
    let f = a.even_below (omega arith) in
    let two : q + 2 ≤ m = omega arith in
    omega (arith, mul-le-mul_right d two)

-- nothing else is the closest
pub round_only : (n k q : ℕ) (says : Rounding) → Closest n (2 ^ k) q says → round n k ≡ record { quotient = q; says = says }
round_only n k q says c =
    let r = round_closest n k in
    let e : (round n k).quotient ≡ q = omega (arith, apart (pow_pos k) c r, apart (pow_pos k) r c) in
    ap₂ (λ (m : ℕ) (s : Rounding). record { quotient = m; says = s }) e (r.told ∙ ap (λ (m : ℕ). against (m * 2 ^ k) n) e ∙ sym c.told)
