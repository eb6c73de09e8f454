-- Differences by the cases that the code puts together: where an operand is no number, and an infinity less a number. Assumes nothing.
use mathlib.Core.Path.{◌≡◌, refl}
use mathlib.Core.Bool.{Bool}
use mathlib.Core.Logic.{◌⊎◌, inl, inr}
use Prim.Native.Nat.{ℕ}
use Rattle.definitions.specs.Class.{Class, unsupported, nan, infinite, finite}
use Rattle.definitions.specs.Format.{Format, house}
use Rattle.definitions.specs.Difference.{difference_class}
use Rattle.operands.specs.Operand.{class_in, operand_of}
use Rattle.operands.specs.declared.Operand.{Operand}
use Rattle.operands.specs.declared.Operand.TheVariants.{Unsupported, Nan, Infinite, Zero, Finite}
use Rattle.operands.specs.declared.Unpacked.{Unpacked}

-- an unsupported pattern's, or a NaN
abbrev pub NoNumber : Operand → Type 0
NoNumber o = (o ≡ Unsupported) ⊎ ((n : Bool) × (s : ℕ) × (o ≡ Nan n s))

module _ (f : Format) (o : Operand) where
  pub none_less : NoNumber o → (y : Class) → house f ≡ difference_class f (class_in f.smallest o) y
  unfolding difference_class class_in
  none_less (inl h) y = rw h
  none_less (inr h) y = rw h.2

  pub less_none : (x : Class) → NoNumber o → house f ≡ difference_class f x (class_in f.smallest o)
  unfolding difference_class class_in
  less_none unsupported h = refl
  less_none (nan n s) h = refl
  less_none (infinite s) (inl h) = rw h
  less_none (infinite s) (inr h) = rw h.2
  less_none (finite v) (inl h) = rw h
  less_none (finite v) (inr h) = rw h.2

  pub infinite_less : (s : Bool) → ((n : Bool) × (o ≡ Zero n)) ⊎ ((u : Unpacked) × (o ≡ Finite u)) → Infinite s ≡ operand_of f.smallest (difference_class f (infinite s) (class_in f.smallest o))
  unfolding operand_of difference_class class_in
  infinite_less s (inl h) = rw h.1
  infinite_less s (inr h) = rw h.1
