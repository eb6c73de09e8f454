-- The signed answer of operands, from their remainder, and of operands that are those of patterns: in every format. Assumes nothing.
use Rattle.std.specs.Prelude.{Result, Ok, Err}
use mathlib.Core.Path.{◌≡◌, sym, ap, ◌∙◌}
use mathlib.Core.Bool.{Bool, ◌||◌}
use Prim.Native.Nat.{ℕ, ◌<◌}
use lib.IntN.{ℤ, pos}
use Rattle.definitions.specs.Class.{Class, signed, combined}
use Rattle.definitions.specs.Format.{Format, class_of}
use Rattle.definitions.specs.Facts.{denormal, told_denormal}
use Rattle.definitions.specs.Remainder.{Remainder, quotient_modulus, remainder_of}
use Rattle.definitions.specs.Signed.{negative_class, signed_of, signed_remainder}
use Rattle.definitions.specs.Answers.{remainder_meaning, signed_meaning}
use Rattle.definitions.specs.declared.Kind.{Kind}
use Rattle.definitions.specs.declared.Refused.{Refused}
use Rattle.definitions.specs.declared.Residue.{Residue}
use Rattle.definitions.proofs.Facts.{told_always}
use Rattle.definitions.proofs.Refusals.{signed_zero}
use Rattle.operands.specs.declared.Operand.{Operand}
use Rattle.operands.specs.Operand.{operand_of, class_in}
use Rattle.laws.proofs.Remainder.{bits_told}
use Rattle.shapes.specs.Shape.{Sound}
use Rattle.packing.proofs.Standing.{class_pattern}

-- a remainder of the classes x and y that was told as a
module _ (f : Format) (κ : Kind) (x y : Class) (a : Result (Residue ℕ) Refused) (told : remainder_meaning a ≡ remainder_of f κ x y) where
  module _ (r : Residue ℕ) (e : a ≡ Ok r) where
    bits_are : r.quotient ≡ (remainder_of f κ x y).quotient
    unfolding remainder_meaning
    bits_are = ap (λ (r : Remainder). r.quotient) (sym (ap remainder_meaning e) ∙ told)

    pub bits_few : r.quotient < quotient_modulus
    bits_few = rw bits_are (bits_told f κ x y)

    pub finished : (g : ℤ) → g ≡ signed (combined (negative_class x) (negative_class y)) r.quotient
        → signed_meaning (Ok (record { value = r.value; quotient = g })) ≡ signed_of f κ x y
    unfolding remainder_meaning signed_meaning signed_of
    finished g h =
        let meant = sym (ap remainder_meaning e) ∙ told in
        λ i. record { number = (meant i).number; value = (meant i).value; quotient = (h ∙ ap (signed (combined (negative_class x) (negative_class y))) bits_are) i }

  pub refused : (r : Refused) → a ≡ Err r → signed_meaning (Err r) ≡ signed_of f κ x y
  unfolding remainder_meaning signed_meaning signed_of
  refused r e =
      let meant = sym (ap remainder_meaning e) ∙ told in
      let s = combined (negative_class x) (negative_class y) in
      λ i. record { number = (meant i).number; value = (meant i).value; quotient = (sym (signed_zero s) ∙ ap (λ (r : Remainder). signed s r.quotient) meant) i }

module _ (f : Format) (ok : Sound f) (x y : ℕ) (o p : Operand)
    (ox : o ≡ operand_of f.smallest (class_of f x)) (py : p ≡ operand_of f.smallest (class_of f y)) where
  pub patterns_signed : (κ : Kind) (r : Result (Residue ℤ) Refused) → signed_meaning r ≡ signed_of f κ (class_in f.smallest o) (class_in f.smallest p)
      → signed_meaning r ≡ signed_remainder f κ x y
  unfolding signed_remainder
  patterns_signed κ r e = e ∙ (λ i. signed_of f κ (class_pattern f ok x o ox i) (class_pattern f ok y p py i))

-- what is told of denormal operands: the remainder never gives 6
pub patterns_denormal : (f : Format) (κ : Kind) (x y : ℕ) (b : Bool) → b ≡ denormal f x || denormal f y → b ≡ told_denormal f (signed_remainder f κ x y).number x y
patterns_denormal f κ x y b e = e ∙ sym (told_always f κ x y (pos 0)).1
