-- Differences where one of the two operands is a zero. Assumes nothing.
use mathlib.Core.Path.{◌≡◌, refl, sym, ap, ◌∙◌}
use mathlib.Core.Bool.{Bool, false, cond, beq}
use Prim.Native.Nat.{ℕ, ◌<◌}
use Rattle.definitions.specs.Class.{Value, finite}
use Rattle.definitions.specs.Format.{Format, Representable}
use Rattle.definitions.specs.Difference.{exact_difference, difference_value}
use Rattle.laws.proofs.Representable.{zero_held}
use Rattle.laws.proofs.Difference as law
use Rattle.laws.proofs.Difference.{difference_held}
use Rattle.operands.specs.Operand.{operand_of, class_in, value_in}
use Rattle.operands.specs.declared.Operand.TheVariants.{Zero, Finite}
use Rattle.operands.specs.declared.Unpacked.{Unpacked}
use Rattle.operands.proofs.Lead.{zero_operand_lem}
use Rattle.shapes.specs.Shape.{Sound}
use Rattle.packing.specs.Stands.{StandsValue}
use Rattle.packing.proofs.Standing.{unpacks}
use Rattle.difference.specs.Opposite.{opposite_of}
use Rattle.difference.proofs.Halves.{opposite_operand}

abbrev of : Bool → ℕ → Value
of s n = record { negative = s; count = n }

module _ (f : Format) (ok : Sound f) where
  -- a difference that the format holds, as an operand
  kept : (x y d : Value) → exact_difference x y ≡ d → Representable f d.count → operand_of f.smallest (finite d) ≡ operand_of f.smallest (difference_value f x y)
  kept x y d e h = ap (operand_of f.smallest) (sym (difference_held f ok.regular x y d e h))

  pub zero_zero : (s t : Bool) → Zero (cond (beq s t) false s) ≡ operand_of f.smallest (difference_value f (of s 0) (of t 0))
  zero_zero s t =
      let d = of (cond (beq s t) false s) 0 in
      sym (zero_operand_lem f.smallest d refl) ∙ kept (of s 0) (of t 0) d (law.zero_zero s t) (zero_held f)

  module _ (u : Unpacked) (stands : StandsValue f (Finite u)) where
    abbrev v : Value
    v = value_in f.smallest u

    some : 0 < v.count
    some = (unpacks f ok u stands).some

    pub zero_less : (s : Bool) → Finite (opposite_of u) ≡ operand_of f.smallest (difference_value f (of s 0) v)
    unfolding class_in
    zero_less s =
        sym (opposite_operand f ok u stands)
        ∙ kept (of s 0) v (value_in f.smallest (opposite_of u)) (law.zero_less s u.negative v.count some) stands.held

    pub less_zero : (t : Bool) → Finite u ≡ operand_of f.smallest (difference_value f v (of t 0))
    unfolding class_in
    less_zero t = stands.is ∙ kept v (of t 0) v (law.less_zero u.negative t v.count some) stands.held
