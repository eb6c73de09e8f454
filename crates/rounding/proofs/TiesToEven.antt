-- Rounding by one test: a quotient goes up where the left-over, and one more if the quotient is odd, pass half of the divisor.
-- Assumes nothing.
use mathlib.Core.Path.{◌≡◌, refl}
use mathlib.Core.Bool.{Bool, true, false, cond}
use Prim.Native.Nat.{ℕ, suc, ◌+◌, ◌*◌, ◌/◌, ◌%◌, ◌^◌, ◌<◌}
use native.Mathlib.Nat.{add-zero, div-eq_of_lt, div-lt_self, mod-eq_of_lt, mod-le, mod-lt, mul-mod_left, pow-suc}
use native.Mathlib.Omega.{arith}
use borrow.Author.Tests.{ltb-true, ltb-false, lt-ltb, le-ltb, eqb-true}
use lib.Dec.{ltb, eqb}
use lib.Pow.{pow_pos}
use Rattle.definitions.specs.Division.{rounds_up}
use Rattle.definitions.specs.Round.{round, direction}
use Rattle.definitions.specs.declared.Kind.TheVariants.{Nearest}
use Rattle.definitions.specs.declared.Rounding.TheVariants.{Exact, Up, Down}
use Rattle.laws.proofs.Division.{rounds_up_once}
use Rattle.rounding.specs.Round.{round_of, rounded_of}
use Rattle.definitions.specs.declared.WithRounding.{WithRounding}

module _ (q r m : ℕ) where
  -- the definition's answer is the code's: where nothing is left over, the test fails
  pub rounded_once : 0 < m → record { value = cond (rounds_up Nearest q r m) (q + 1) q; says = direction (eqb r 0) (rounds_up Nearest q r m) }
      ≡ rounded_of q r (ltb m (r * 2 + q % 2))
  rounded_once h = rw (rounds_up_once q r m) (go (ltb m (r * 2 + q % 2)) (eqb r 0) refl refl)
    where
      go : (up none : Bool) → ltb m (r * 2 + q % 2) ≡ up → eqb r 0 ≡ none
          → ◌≡◌ {A = WithRounding ℕ} (record { value = cond up (q + 1) q; says = direction none up })
          (cond none (record { value = q; says = Exact }) (cond up (record { value = q + 1; says = Up }) (record { value = q; says = Down })))
      go true true e f = absurd (omega (arith, ltb-true m (r * 2 + q % 2) e, eqb-true r 0 f))
      go false true e f = refl
      go true false e f = refl
      go false false e f = refl

  -- against half of the divisor: an odd quotient goes up at the half, an even one past it
  half_once : m % 2 ≡ 0 → ltb m (r * 2 + q % 2) ≡ ltb (m / 2) (r + q % 2)
  half_once even = go (ltb (m / 2) (r + q % 2)) refl
    where
      go : (t : Bool) → ltb (m / 2) (r + q % 2) ≡ t → ltb m (r * 2 + q % 2) ≡ t
      go true e = lt-ltb m (r * 2 + q % 2) (omega (arith, ltb-true (m / 2) (r + q % 2) e))
      go false e = le-ltb m (r * 2 + q % 2) (omega (arith, ltb-false (m / 2) (r + q % 2) e))

pow_even : (k : ℕ) → 0 < k → 2 ^ k % 2 ≡ 0
pow_even Prim.Native.Nat.zero h = elim h [ ]
pow_even (suc k) h = rw (pow-suc 2 k) (mul-mod_left (2 ^ k) 2)

module _ (n k : ℕ) where
  -- it is one rounding of the quotient and the remainder by the power
  round_rounded : round_of n k ≡ rounded_of (n / 2 ^ k) (n % 2 ^ k) (ltb (2 ^ k) (n % 2 ^ k * 2 + n / 2 ^ k % 2))
  unfolding round
  round_rounded = rounded_once (n / 2 ^ k) (n % 2 ^ k) (2 ^ k) (pow_pos k)

  -- and the test is one comparison with half of it
  pub round_half : 0 < k → round_of n k ≡ rounded_of (n / 2 ^ k) (n % 2 ^ k) (ltb (2 ^ k / 2) (n % 2 ^ k + n / 2 ^ k % 2))
  round_half some = rw (half_once (n / 2 ^ k) (n % 2 ^ k) (2 ^ k) (pow_even k some)) at round_rounded

  -- all of n is left over
  pub round_whole : 0 < k → n < 2 ^ k → round_of n k ≡ rounded_of 0 n (ltb (2 ^ k / 2) n)
  round_whole some h = rw (div-eq_of_lt h, mod-eq_of_lt h, add-zero) at (round_half some)

  -- a quotient with something left over can go up
  pub round_room : 0 < n % 2 ^ k → n / 2 ^ k < n
  round_room h = div-lt_self (omega (arith, mod-le n (2 ^ k))) (omega (arith, mod-lt n (pow_pos k)))

-- nothing is left over
pub round_none : (n : ℕ) → round_of n 0 ≡ rounded_of n 0 false
round_none n =
    let q : n / 2 ^ 0 ≡ n = omega arith in
    let r : n % 2 ^ 0 ≡ 0 = omega arith in
    rw (q, r) at (round_rounded n 0)
