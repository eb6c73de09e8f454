-- The difference of operands that are those of patterns is that of the patterns, in every format. Assumes nothing.
use mathlib.Core.Path.{◌≡◌, ap, ◌∙◌}
use Prim.Native.Nat.{ℕ, ◌^◌, ◌≤◌}
use native.Mathlib.Omega.{arith}
use Rattle.definitions.specs.Class.{Class}
use Rattle.definitions.specs.Format.{Format, class_of, pattern_of, patterns}
use Rattle.definitions.specs.Difference.{difference_class, difference}
use Rattle.definitions.specs.Answers.{joined}
use Rattle.definitions.specs.declared.Pattern.{Pattern}
use Rattle.laws.proofs.Difference.{difference_holds}
use Rattle.laws.proofs.Small.{difference_small}
use Rattle.operands.specs.declared.Operand.{Operand}
use Rattle.operands.specs.Operand.{operand_of, class_in}
use Rattle.shapes.specs.Shape.{Sound}
use Rattle.packing.specs.Stands.{Stands}
use Rattle.packing.proofs.Standing.{class_pattern, stands_class, class_of_lem}

module _ (f : Format) (ok : Sound f) (x y : ℕ) (o p : Operand) (ox : o ≡ operand_of f.smallest (class_of f x)) (py : p ≡ operand_of f.smallest (class_of f y))
    (r : Operand) (is : r ≡ operand_of f.smallest (difference_class f (class_in f.smallest o) (class_in f.smallest p))) where
  abbrev class : Class
  class = difference_class f (class_of f x) (class_of f y)

  operand_is : r ≡ operand_of f.smallest class
  operand_is = is ∙ (λ i. operand_of f.smallest (difference_class f (class_pattern f ok x o ox i) (class_pattern f ok y p py i)))

  pub difference_stands : Stands f r
  difference_stands = stands_class f ok class r (difference_holds f ok.regular (class_of f x) (class_of f y)) operand_is

  -- and the low word of its pattern is all of it
  pub difference_low : patterns f ≤ 2 ^ 64 → (v : Pattern) → joined v ≡ pattern_of f (class_in f.smallest r) → v.low ≡ difference f x y
  unfolding difference
  difference_low l v packed =
      let e : joined v ≡ difference f x y =
      packed ∙ ap (λ (q : Operand). pattern_of f (class_in f.smallest q)) operand_is
      ∙ ap (pattern_of f) (class_of_lem f ok class (difference_holds f ok.regular (class_of f x) (class_of f y))) in
      omega (arith, difference_small f ok.regular x y)
