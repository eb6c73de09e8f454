-- The two cases of binary64, by their fields: both patterns are normal. Assumes nothing.
use Rattle.std.proofs.Common.{◌≡◌, ℕ, ◌+◌, ◌*◌, ◌%◌, ◌^◌, ◌<◌, ◌≤◌, true, ◌&&◌, ltb, leb, ap, add_comm, arith, ltb-true, leb-true}
use Rattle.digits.proofs.Tests.{and_both}
use Rattle.definitions.specs.Format.{binary64}
use Rattle.definitions.specs.declared.Kind.{Kind}
use Rattle.quick.specs.Common.{field_of, spread_of, common, margin_of, kept}
use Rattle.quick.proofs.Normals.{normal_significand, Normal}

pub normal : (b : ℕ) → 0 < field_of b → field_of b < 2047 → Normal binary64 b
normal b some low = record { some = some; below_top = low; leads = omega arith }

-- the code's significand is the pattern's, with eleven spare bits
pub spread_is : (b : ℕ) → spread_of b ≡ normal_significand binary64 b * 2 ^ 11
spread_is b = ap (λ (s : ℕ). s * 2 ^ 11) (add_comm (b % 2 ^ 52) (2 ^ 52))

-- the common case
pub record Fields (x y : ℕ) : Type 0 where
  pub below_top : field_of x < 2047
  pub some : 0 < field_of y
  pub order : field_of y ≤ field_of x

pub fields : (x y : ℕ) → common x y ≡ true → Fields x y
fields x y e =
    let a = and_both (ltb (field_of x) 2047 && ltb 0 (field_of y)) (leb (field_of y) (field_of x)) e in
    let b = and_both (ltb (field_of x) 2047) (ltb 0 (field_of y)) a.0 in
    record { below_top = ltb-true (field_of x) 2047 b.0; some = ltb-true 0 (field_of y) b.1; order = leb-true (field_of y) (field_of x) a.1 }

module _ (x y : ℕ) (fs : Fields x y) where
  pub dividend : Normal binary64 x
  dividend = normal x (omega arith) fs.below_top

  pub divisor : Normal binary64 y
  divisor = normal y fs.some (omega arith)

-- a dividend that is kept
pub record Below (κ : Kind) (x y : ℕ) : Type 0 where
  pub some : 0 < field_of x
  pub apart : field_of x + margin_of κ < field_of y
  pub top : field_of y < 2047

pub below : (κ : Kind) (x y : ℕ) → kept κ x y ≡ true → Below κ x y
below κ x y e =
    let a = and_both (ltb 0 (field_of x) && ltb (field_of x + margin_of κ) (field_of y)) (ltb (field_of y) 2047) e in
    let b = and_both (ltb 0 (field_of x)) (ltb (field_of x + margin_of κ) (field_of y)) a.0 in
    record { some = ltb-true 0 (field_of x) b.0; apart = ltb-true (field_of x + margin_of κ) (field_of y) b.1; top = ltb-true (field_of y) 2047 a.1 }

module _ (κ : Kind) (x y : ℕ) (b : Below κ x y) where
  pub dividend_below : Normal binary64 x
  dividend_below = normal x b.some (omega arith)

  pub divisor_above : Normal binary64 y
  divisor_above = normal y (omega arith) b.top
