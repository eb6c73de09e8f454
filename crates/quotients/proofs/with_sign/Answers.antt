-- `with_sign` meets its contract: a magnitude below 2^31 and its negation fit an i32.
use mathlib.Core.Path.{◌≡◌, ◌∙◌}
use Prim.Native.Nat.{ℕ, zero, suc, ◌<◌}
use native.Mathlib.Omega.{arith}
use lib.IntN.{ℤ, pos, neg_ℤ, ◌-ℤ◌, +ℤ_idl}
use mir.Syntax.{w32}
use mir.Val.{SFits, to_z, of_z}
use mir.ValLaws.{to_z_pos, to_z-of_z}
use Rattle.definitions.specs.Remainder.{quotient_modulus}
use Rattle.quotients.proofs.with_sign.Goals as goal

-- bits that are told are read as themselves
reads : (q : ℕ) → q < quotient_modulus → to_z w32 q ≡ pos q
reads q h = to_z_pos w32 q (omega arith)

-- the machine reads z as q, and takes it off 0
module _ (q : ℕ) (z : ℤ) (e : z ≡ pos q) (h : q < quotient_modulus) where
  taken-off : pos 0 -ℤ z ≡ neg_ℤ (pos q)
  taken-off = rw e (+ℤ_idl (neg_ℤ (pos q)))

  fits : SFits w32 (pos 0 -ℤ z)
  fits = rw taken-off (go q h)
    where
      go : (n : ℕ) → n < quotient_modulus → SFits w32 (neg_ℤ (pos n))
      go zero l = record { sfits = omega arith }
      go (suc n) l = record { sfits = omega arith }

  negated : to_z w32 (of_z w32 (pos 0 -ℤ z)) ≡ neg_ℤ (pos q)
  negated = to_z-of_z w32 (pos 0 -ℤ z) fits ∙ taken-off

pub overflow_sub-result : goal.overflow_sub-result
overflow_sub-result c = fits c.args.quotient _ (reads c.args.quotient c.requires) c.requires

pub returns-then-negative : goal.returns-then-negative
returns-then-negative c =
    rw c.if-negative.true (negated c.args.quotient _ (reads c.args.quotient c.requires) c.requires)

pub returns-else-negative : goal.returns-else-negative
returns-else-negative c =
    rw c.if-negative.false (reads c.args.quotient c.requires)
