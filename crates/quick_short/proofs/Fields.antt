-- The two cases, by their fields: both patterns are normal. Assumes nothing.
use mathlib.Core.Path.{◌≡◌, refl, sym, ap, ◌∙◌}
use mathlib.Core.Bool.{Bool, true, false, ◌&&◌, ◌||◌}
use Prim.Native.Nat.{ℕ, ◌+◌, ◌≤◌, ◌<◌}
use native.Mathlib.Omega.{arith}
use borrow.Author.Tests.{ltb-true, leb-true}
use lib.Dec.{ltb, leb}
use Rattle.digits.proofs.Tests.{and_both}
use Rattle.definitions.specs.Format.{Format, top_field}
use Rattle.definitions.specs.declared.Kind.{Kind}
use Rattle.quick.specs.Common.{margin_of}
use Rattle.quick.proofs.Normals.{Normal}
use Rattle.quick_short.specs.Short.{Short, field_of, common, kept, quick}
use Rattle.quick_short.proofs.Formats.{normal}

-- what is quick and not common is kept
pub not_common : (f : Format) (x y : ℕ) (κ : Kind) → quick f κ x y ≡ true → common f x y ≡ false → kept f κ x y ≡ true
not_common f x y κ e n = sym (ap (λ (b : Bool). b || kept f κ x y) n) ∙ e

module _ (f : Format) (s : Short f) (x y : ℕ) where
  -- the common case
  pub record Ordered : Type 0 where
    pub order : field_of f y ≤ field_of f x
    pub dividend : Normal f x
    pub divisor : Normal f y

  pub ordered : common f x y ≡ true → Ordered
  ordered e =
      let a = and_both (ltb (field_of f x) (top_field f) && ltb 0 (field_of f y)) (leb (field_of f y) (field_of f x)) e in
      let b = and_both (ltb (field_of f x) (top_field f)) (ltb 0 (field_of f y)) a.0 in
      let top = ltb-true (field_of f x) (top_field f) b.0 in
      let some = ltb-true 0 (field_of f y) b.1 in
      let order = leb-true (field_of f y) (field_of f x) a.1 in
      record { order = order; dividend = normal f s x (omega arith) top; divisor = normal f s y some (omega arith) }

  -- a dividend that is kept
  pub record Below (κ : Kind) : Type 0 where
    pub apart : field_of f x + margin_of κ < field_of f y
    pub dividend : Normal f x
    pub divisor : Normal f y

  pub below : (κ : Kind) → kept f κ x y ≡ true → Below κ
  below κ e =
      let a = and_both (ltb 0 (field_of f x) && ltb (field_of f x + margin_of κ) (field_of f y)) (ltb (field_of f y) (top_field f)) e in
      let b = and_both (ltb 0 (field_of f x)) (ltb (field_of f x + margin_of κ) (field_of f y)) a.0 in
      let some = ltb-true 0 (field_of f x) b.0 in
      let apart = ltb-true (field_of f x + margin_of κ) (field_of f y) b.1 in
      let top = ltb-true (field_of f y) (top_field f) a.1 in
      record { apart = apart; dividend = normal f s x some (omega arith); divisor = normal f s y (omega arith) top }

  -- either way both are normal
  pub both_normal : (κ : Kind) → quick f κ x y ≡ true → Normal f x × Normal f y
  both_normal κ e = go (common f x y) refl e
    where
      go : (b : Bool) → common f x y ≡ b → b || kept f κ x y ≡ true → Normal f x × Normal f y
      go true c k = let o = ordered c in (o.dividend, o.divisor)
      go false c k = let b = below κ k in (b.dividend, b.divisor)
