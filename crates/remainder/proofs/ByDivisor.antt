-- A value by a divisor, in every format: what is returned as it is, and what two values leave. Assumes nothing.
use Rattle.std.specs.Prelude.{Option, None, Some}
use mathlib.Core.Path.{◌≡◌, refl, ap, ◌∙◌}
use Prim.Native.Nat.{ℕ}
use native.Mathlib.Omega.{arith}
use lib.IntN.{ℤ}
use Rattle.definitions.specs.Class.{Value, finite}
use Rattle.definitions.specs.Format.{Format, Representable, pattern_of}
use Rattle.definitions.specs.Division as division
use Rattle.definitions.specs.Division.{Outcome, finish, finish_by}
use Rattle.definitions.specs.Remainder.{quotient_bits}
use Rattle.definitions.specs.declared.Kind.{Kind}
use Rattle.operands.specs.declared.Operand.{Operand}
use Rattle.operands.specs.declared.Operand.TheVariants.{Finite}
use Rattle.operands.specs.declared.Unpacked.{Unpacked}
use Rattle.operands.specs.Operand.{class_in, value_in, value_operand, divisor_in, Unpacks}
use Rattle.operands.proofs.Cases.{other_cases}
use Rattle.shapes.specs.Shape.{Sound}
use Rattle.packing.specs.Stands.{StandsValue, StandsDivisor}
use Rattle.packing.proofs.Standing.{stands_value, value_of, value_class, unpacks}
use Rattle.laws.proofs.Division.{finish_far, finish_held}
use Rattle.pairs.specs.declared.Left.{Left}
use Rattle.pairs.specs.Pair.{left_of}
use Rattle.pairs.specs.Divisions.{divisor_divisions}
use Rattle.quotients.proofs.Bits.{bits_low}

-- a pattern and quotient bits that are those of an outcome
abbrev pub Writes : Format → ℕ → ℕ → Outcome → Type 0
Writes f p q r = (p ≡ pattern_of f (finite r.value)) × (q ≡ quotient_bits r.whole)

-- what the code has found not to be unpacked is not divided
pub not_divided : (x : Operand) → ((u : Unpacked) → x ≡ Finite u → ⊥) → (y : Option Unpacked) → 0 ≡ divisor_divisions x y
not_divided x k y = other_cases (λ (o : Operand). 0 ≡ divisor_divisions o y) refl (λ n s. refl) (λ n. refl) (λ n. refl) x k

module _ (f : Format) (ok : Sound f) (κ : Kind) where
  -- a value that is packed as it is
  module _ (x : Operand) (p q : ℕ) (packed : p ≡ pattern_of f (finite (value_operand f.smallest x))) (none : q ≡ 0) where
    kept : (r : Outcome) → r ≡ finish κ division.unbounded (value_operand f.smallest x) → Writes f p q r
    unfolding finish
    kept r e = rw e (packed, none)

    pub by_unbounded : Writes f p q (finish κ division.unbounded (value_operand f.smallest x))
    by_unbounded = kept _ refl

    -- a value that the code has found not to be unpacked, so that it is a zero
    pub zero_kept : ((u : Unpacked) → x ≡ Finite u → ⊥) → (y : Option Unpacked) → StandsDivisor f y → Writes f p q (finish κ (divisor_in f.smallest y) (value_operand f.smallest x))
    unfolding finish class_in
    zero_kept k None sy = by_unbounded
    zero_kept k (Some b) sy =
        let z : (value_operand f.smallest x).count ≡ 0 = other_cases (λ (o : Operand). (value_operand f.smallest o).count ≡ 0) refl (λ n s. refl) (λ n. refl) (λ n. refl) x k in
        kept _ (finish_far κ (value_in f.smallest b).count (value_operand f.smallest x) (unpacks f ok b sy).some (omega arith))

  -- two numbers that are not zero, and what the code has left of them
  module _ (a b : Unpacked) (sa : StandsValue f (Finite a)) (sb : StandsValue f (Finite b)) (l : Left)
      (left : (s : ℤ) (v w : Value) → Unpacks s v a → Unpacks s w b → l ≡ left_of s (finish_by κ w.count v)) where
    outcome : Outcome
    outcome = finish_by κ (value_in f.smallest b).count (value_in f.smallest a)

    held : Representable f outcome.value.count
    unfolding outcome class_in
    held = finish_held f κ (value_in f.smallest b).count (value_in f.smallest a) (unpacks f ok b sb).some sb.held sa.held

    left_is : l ≡ left_of f.smallest outcome
    unfolding outcome
    left_is = left f.smallest (value_in f.smallest a) (value_in f.smallest b) (unpacks f ok a sa) (unpacks f ok b sb)

    pub left_stands : StandsValue f l.value
    left_stands = stands_value f ok outcome.value l.value held (ap (λ (z : Left). z.value) left_is)

    pub left_written : (p q : ℕ) → p ≡ pattern_of f (class_in f.smallest l.value) → q ≡ quotient_bits l.quotient
        → Writes f p q (finish κ (divisor_in f.smallest (Some b)) (value_operand f.smallest (Finite a)))
    unfolding finish outcome class_in
    left_written p q ep eq =
        let v = value_of f ok outcome.value l.value held (ap (λ (z : Left). z.value) left_is) in
        (ep ∙ ap (pattern_of f) (value_class f ok l.value left_stands ∙ ap finite v), eq ∙ ap (λ (z : Left). quotient_bits z.quotient) left_is ∙ bits_low outcome.whole)
