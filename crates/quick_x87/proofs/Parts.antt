-- The parts of an x87 pattern are its words', and what is normal by its words is a normal pattern. Assumes nothing.
use mathlib.Core.Path.{◌≡◌, refl}
use mathlib.Core.Bool.{Bool, true, false, ◌&&◌}
use Prim.Native.Nat.{ℕ, ◌^◌, ◌≤◌, ◌<◌}
use native.Mathlib.Omega.{arith}
use borrow.Author.Tests.{ltb-true, leb-true, leb-false, le-leb, lt-leb}
use lib.Dec.{ltb, leb}
use Rattle.digits.proofs.Tests.{and_both}
use Rattle.definitions.specs.Format.{x87, words, patterns}
use Rattle.quick.proofs.Normals.{exponent_field, normal_significand, Normal}
use Rattle.quick_x87.specs.Common.{field_of, normal, normals}

-- a normal number of the significand s and the word w
pub record Parts (s w : ℕ) : Type 0 where
  pub normal : Normal x87 (words w s)
  pub field : exponent_field x87 (words w s) ≡ field_of w
  pub significand : normal_significand x87 (words w s) ≡ s
  pub sign : leb (2 ^ 79) (words w s) ≡ leb 32768 w
  pub small : words w s < patterns x87
  pub leads : 2 ^ 63 ≤ s

pub parts : (s w : ℕ) → s < 2 ^ 64 → w < 2 ^ 16 → normal s w ≡ true → Parts s w
parts s w low high e =
    let a = and_both (leb (2 ^ 63) s && ltb 0 (field_of w)) (ltb (field_of w) 32767) e in
    let b = and_both (leb (2 ^ 63) s) (ltb 0 (field_of w)) a.0 in
    let field : exponent_field x87 (words w s) ≡ field_of w = omega arith in
    let significand : normal_significand x87 (words w s) ≡ s = omega arith in
    let leads = leb-true (2 ^ 63) s b.0 in
    record {
      normal = record { some = omega (arith, field, ltb-true 0 (field_of w) b.1); below_top = omega (arith, field, ltb-true (field_of w) 32767 a.1); leads = omega (arith, significand, leads) };
      field = field;
      significand = significand;
      sign = go (leb 32768 w) refl;
      small = omega arith;
      leads = leads;
    }
  where
    go : (b : Bool) → leb 32768 w ≡ b → leb (2 ^ 79) (words w s) ≡ b
    go true e = le-leb (2 ^ 79) (words w s) (omega (arith, leb-true 32768 w e))
    go false e = lt-leb (2 ^ 79) (words w s) (omega (arith, leb-false 32768 w e))

-- both operands
pub both : (x xw y yw : ℕ) → x < 2 ^ 64 → xw < 2 ^ 16 → y < 2 ^ 64 → yw < 2 ^ 16 → normals x xw y yw ≡ true → Parts x xw × Parts y yw
both x xw y yw hx hxw hy hyw e = let n = and_both (normal x xw) (normal y yw) e in (parts x xw hx hxw n.0, parts y yw hy hyw n.1)
