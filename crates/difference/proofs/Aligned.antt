-- The difference of two words, the lower one cut oddly to the place of the higher one, is rounded as the exact difference is.
-- Assumes nothing.
use mathlib.Core.Path.{◌≡◌, refl, sym, ap, ◌∙◌, subst}
use mathlib.Core.Bool.{Bool, true, false, not, beq}
use Prim.Native.Nat.{ℕ, ◌+◌, ◌-◌, ◌*◌, ◌/◌, ◌%◌, ◌^◌, ◌≤◌, ◌<◌}
use native.Mathlib.Nat.{mul-one, zero-mul, mul-le-mul_right, mul-lt-mul_of_pos_right, lt_of_mul-lt-mul_right, eq_of_mul-eq-mul_right, dvd_of_mod-eq-zero, dvd_trans, div-mul_cancel, pos_of_ne-zero, add-mul}
use native.Mathlib.Omega.{arith}
use borrow.Author.Tests.{eqb-true, eqb-false, lt-ltb, le-ltb}
use lib.Dec.{T, ltb, leb, leb→le, nleb→lt, ltb→lt, nltb→le, eqb}
use lib.Pow.{pow-add, pow_pos, pow_mono}
use lib.Ieee.{size}
use Rattle.digits.proofs.Common.{shift_shift, sub_scale}
use Rattle.digits.proofs.Digits.{pow_dvd}
use Rattle.digits.proofs.Size.{size_shift, size_above, size_pos}
use Rattle.definitions.specs.Class.{Value}
use Rattle.definitions.specs.Difference.{rounded_to, exact_difference}
use Rattle.laws.specs.OddCut.{odd_cut}
use Rattle.laws.proofs.Difference.{cases_by_sign, difference_cases}
use Rattle.laws.proofs.Sticky.{by_rest, odd_exact, odd_rest, odd_add, odd_sub, odd_size}
use Rattle.laws.proofs.RoundedTo.{rounded_zero, rounded_shift, rounded_sticky}

-- an odd cut by g places that rounding to p digits does not see
record Unseen (p N g : ℕ) : Type 0 where
  rounds : rounded_to p N ≡ rounded_to p (odd_cut N g) * 2 ^ g
  sized : size (odd_cut N g) + g ≡ size N

unseen : (p N g : ℕ) → p ≤ 60 → 0 < N → N % 2 ≡ 0 → (2 ≤ g → 2 ^ 61 * 2 ^ g ≤ N) → Unseen p N g
unseen p N g h some even top = go (leb g 1) (leb→le g 1) (nleb→lt g 1)
  where
    exactly : (q : ℕ) → q * 2 ^ g ≡ N → Unseen p N g
    exactly q e =
        let l : 0 < q = pos_of_ne-zero (λ z. omega (arith, ap (λ (i : ℕ). i * 2 ^ g) z, zero-mul (2 ^ g))) in
        subst (λ (i : ℕ). Unseen p i g) e
        (record {
          rounds = rounded_shift p q g l ∙ ap (λ (i : ℕ). rounded_to p i * 2 ^ g) (sym (odd_exact q g));
          sized = rw (odd_exact q g) (sym (size_shift q g l));
        })

    go : (t : Bool) → (T t → g ≤ 1) → (T (not t) → 1 < g) → Unseen p N g
    go true a b = exactly (N / 2 ^ g) (div-mul_cancel (2 ^ g) (dvd_trans (2 ^ g) (pow_dvd g 1 (a tt)) (dvd_of_mod-eq-zero 2 even)))
    go false a b =
        let l = b tt in
        let s = size_above N (61 + g) (rw (pow-add 2 61 g) (top (omega arith))) in
        record { rounds = rounded_sticky p N g (omega arith); sized = odd_size N g (omega arith) }

-- what the word w, at a place, has to do with the count n
pub record Rounds (p w place n : ℕ) : Type 0 where
  pub rounds : rounded_to p w * 2 ^ place ≡ rounded_to p n * 2 ^ 62
  pub sized : 0 < w → 63 ≤ size w + place

settled : (p N g y n : ℕ) → 0 < N → N * 2 ^ y ≡ n * 2 ^ 62 → Unseen p N g → Rounds p (odd_cut N g) (y + g) n
settled p N g y n some e u =
    let l : 0 < n = pos_of_ne-zero (λ z. omega (arith, ap (λ (i : ℕ). i * 2 ^ 62) z, mul-lt-mul_of_pos_right some (pow_pos y), zero-mul (2 ^ y))) in
    let j : g + y ≡ y + g = omega arith in
    record {
      rounds =
          ap (λ (i : ℕ). rounded_to p (odd_cut N g) * 2 ^ i) (sym j) ∙ sym (shift_shift (rounded_to p (odd_cut N g)) g y)
          ∙ ap (λ (i : ℕ). i * 2 ^ y) (sym u.rounds) ∙ sym (rounded_shift p N y some) ∙ ap (rounded_to p) e ∙ rounded_shift p n 62 l;
      sized = λ h. omega (arith, u.sized, ap size e, size_shift N y some, size_shift n 62 l, size_pos n l);
    }

nothing : (p place : ℕ) → Rounds p 0 place 0
nothing p place =
    record { rounds = rw (rounded_zero p) (zero-mul (2 ^ place)); sized = λ h. absurd (omega arith) }

-- below an even number before the cut, below it after
pub odd_below : (a b k : ℕ) → a % 2 ≡ 0 → b < a * 2 ^ k → odd_cut b k < a
odd_below a b k even h = by_rest (odd_cut b k < a) b k whole rest
  where
    whole : (q : ℕ) → b ≡ q * 2 ^ k → odd_cut b k < a
    whole q e = let l : q < a = lt_of_mul-lt-mul_right (2 ^ k) (rw e at h) in rw (e, odd_exact q k) l

    rest : (q r : ℕ) → b ≡ q * 2 ^ k + r → 0 < r → r < 2 ^ k → odd_cut b k < a
    rest q r e some l = let i : q < a = lt_of_mul-lt-mul_right (2 ^ k) (omega arith) in rw (e, odd_rest q r k some l) (omega arith)

-- the difference of two words, the one of the lower cut
pub record Agrees (p place : ℕ) (w d : Value) : Type 0 where
  pub sign : w.negative ≡ d.negative
  pub count : Rounds p w.count place d.count

abbrev of : Bool → ℕ → Value
of s n = record { negative = s; count = n }

-- words A and b, the one g places above the other, of the counts n and m
module _ (p A b g y n m : ℕ) (narrow : p ≤ 60) (A-top : 2 ^ 62 ≤ A) (b-small : b < 2 ^ 63) (A-even : A % 2 ≡ 0) (b-even : b % 2 ≡ 0)
    (n-is : A * 2 ^ (y + g) ≡ n * 2 ^ 62) (m-is : b * 2 ^ y ≡ m * 2 ^ 62) where
  high_is : A * 2 ^ g * 2 ^ y ≡ n * 2 ^ 62
  high_is = let j : g + y ≡ y + g = omega arith in shift_shift A g y ∙ ap (λ (i : ℕ). A * 2 ^ i) j ∙ n-is

  high_even : A * 2 ^ g % 2 ≡ 0
  high_even =
      let h : A ≡ A / 2 * 2 = omega (arith, A-even) in
      let e : A * 2 ^ g ≡ A / 2 * 2 ^ g * 2 = ap (λ (i : ℕ). i * 2 ^ g) h ∙ omega arith in
      omega arith

  high_top : 2 ≤ g → 2 ^ 61 * 2 ^ g + b ≤ A * 2 ^ g
  high_top h = let m = mul-le-mul_right (2 ^ g) A-top in let f = pow_mono {i = 2} {j = g} h in omega (arith, b-small)

  high_pos : 0 < A * 2 ^ g
  high_pos = let m = mul-le-mul_right (2 ^ g) A-top in omega (arith, pow_pos g)

  sum : Rounds p (A + odd_cut b g) (y + g) (n + m)
  sum =
      let N = A * 2 ^ g + b in
      let e : N * 2 ^ y ≡ (n + m) * 2 ^ 62 = add-mul (A * 2 ^ g) b (2 ^ y) ∙ omega (arith, high_is, m-is) in
      let some : 0 < N = omega (arith, high_pos) in
      rw (← odd_add A b g A-even)
      (settled p N g y (n + m) some e (unseen p N g narrow some (omega (arith, high_even, b-even)) (λ h. omega (arith, high_top h))))

  apart : b < A * 2 ^ g → Rounds p (A - odd_cut b g) (y + g) (n - m)
  apart l =
      let N = A * 2 ^ g - b in
      let e : N * 2 ^ y ≡ (n - m) * 2 ^ 62 = sym (sub_scale (A * 2 ^ g) b (2 ^ y)) ∙ rw (high_is, m-is) (sub_scale n m (2 ^ 62)) in
      let some : 0 < N = omega arith in
      rw (← odd_sub A b g A-even (omega arith))
      (settled p N g y (n - m) some e (unseen p N g narrow some (omega (arith, high_even, b-even)) (λ h. omega (arith, high_top h))))

  swapped : A * 2 ^ g < b → Rounds p (odd_cut b g - A) (y + g) (m - n)
  swapped l =
      let z : g ≡ 0 = no_gap in
      let N = b - A * 2 ^ g in
      let e : N * 2 ^ y ≡ (m - n) * 2 ^ 62 = sym (sub_scale b (A * 2 ^ g) (2 ^ y)) ∙ rw (high_is, m-is) (sub_scale m n (2 ^ 62)) in
      let some : 0 < N = omega arith in
      subst (λ (i : ℕ). Rounds p i (y + g) (m - n)) (plain N z ∙ ap (λ (i : ℕ). b - i) one ∙ ap (λ (i : ℕ). i - A) (sym (plain b z)))
      (settled p N g y (m - n) some e (unseen p N g narrow some (omega (arith, high_even, b-even)) (λ h. absurd (omega arith))))
    where
      no_gap : g ≡ 0
      no_gap = go (eqb g 0) (eqb-true g 0) (eqb-false g 0)
        where
          go : (t : Bool) → (t ≡ true → g ≡ 0) → (t ≡ false → g ≡ 0 → ⊥) → g ≡ 0
          go true a b = a refl
          go false a b =
              let h = pow_mono {i = 1} {j = g} (pos_of_ne-zero (b refl)) in
              let m = mul-le-mul_right (2 ^ g) A-top in
              let f : ⊥ = omega (arith, b-small) in
              absurd f

      plain : (i : ℕ) → g ≡ 0 → odd_cut i g ≡ i
      plain i z = rw z (rw mul-one at (odd_exact i 0))

      one : A * 2 ^ g ≡ A
      one = ap (λ (i : ℕ). A * 2 ^ i) no_gap ∙ mul-one A

  -- the higher word is below the lower one only where there is no gap
  cut_above : A * 2 ^ g < b → A < odd_cut b g
  cut_above l =
      by_rest (A < odd_cut b g) b g (λ q e. rw (e, odd_exact q g) (lt_of_mul-lt-mul_right (2 ^ g) (rw e at l)))
      (λ q r e some k.
      let i : A * 2 ^ g < (q + 1) * 2 ^ g = omega arith in
      let j = lt_of_mul-lt-mul_right (2 ^ g) i in
      rw (e, odd_rest q r g some k) (omega (arith, A-even)))

  by_cases : (same s t : Bool) → Agrees p (y + g) (cases_by_sign same (of s A) (of t (odd_cut b g))) (cases_by_sign same (of s n) (of t m))
  by_cases false s t = record { sign = refl; count = sum }
  by_cases true s t = go (ltb b (A * 2 ^ g)) (ltb→lt b (A * 2 ^ g)) (nltb→le b (A * 2 ^ g))
    where
      Goal : Type 0
      Goal = Agrees p (y + g) (cases_by_sign true (of s A) (of t (odd_cut b g))) (cases_by_sign true (of s n) (of t m))

      up : (i j : ℕ) → i < j → i * 2 ^ y < j * 2 ^ y
      up i j h = mul-lt-mul_of_pos_right h (pow_pos y)

      over : (u : Bool) → (T u → A * 2 ^ g < b) → (T (not u) → b ≤ A * 2 ^ g) → A * 2 ^ g ≤ b → Goal
      over true c d h =
          let l = c tt in
          let i : n < m = lt_of_mul-lt-mul_right (2 ^ 62) (rw (high_is, m-is) at (up (A * 2 ^ g) b l)) in
          let j = cut_above l in
          rw (le-ltb (odd_cut b g) A (omega arith), lt-ltb A (odd_cut b g) j, le-ltb m n (omega arith), lt-ltb n m i)
          (record { sign = refl; count = swapped l })
      over false c d h =
          let e : b ≡ A * 2 ^ g = omega (arith, d tt) in
          let i : odd_cut b g ≡ A = ap (λ (i : ℕ). odd_cut i g) e ∙ odd_exact A g in
          let j : m ≡ n = eq_of_mul-eq-mul_right (2 ^ 62) (pow_pos 62) m n (sym m-is ∙ ap (λ (i : ℕ). i * 2 ^ y) e ∙ high_is) in
          rw (i, j, le-ltb A A (omega arith), le-ltb n n (omega arith)) (record { sign = refl; count = nothing p (y + g) })

      go : (u : Bool) → (T u → b < A * 2 ^ g) → (T (not u) → A * 2 ^ g ≤ b) → Goal
      go true c d =
          let l = c tt in
          let i : m < n = lt_of_mul-lt-mul_right (2 ^ 62) (rw (high_is, m-is) at (up b (A * 2 ^ g) l)) in
          rw (lt-ltb (odd_cut b g) A (odd_below A b g A-even l), lt-ltb m n i) (record { sign = refl; count = apart l })
      go false c d = over (ltb (A * 2 ^ g) b) (ltb→lt (A * 2 ^ g) b) (nltb→le (A * 2 ^ g) b) (d tt)

  pub words_agree : (s t : Bool) → Agrees p (y + g) (exact_difference (of s A) (of t (odd_cut b g))) (exact_difference (of s n) (of t m))
  words_agree s t = rw (difference_cases (of s A) (of t (odd_cut b g)), difference_cases (of s n) (of t m)) (by_cases (beq s t) s t)
