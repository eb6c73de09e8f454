-- The remainder of two operands, in every format: what the verdict says of them, and what each verdict is answered with. Assumes nothing.
use Rattle.std.specs.Prelude.{Ok, Err}
use mathlib.Core.Path.{◌≡◌, refl, sym, ap, ◌∙◌}
use mathlib.Core.Bool.{Bool, cond}
use Prim.Native.Nat.{ℕ}
use Rattle.definitions.specs.Format.{Format}
use Rattle.definitions.specs.Numbers.{first, accepted, dividing}
use Rattle.definitions.specs.Facts.{refused_value}
use Rattle.definitions.specs.Division.{finish}
use Rattle.definitions.specs.Remainder.{remainder_of}
use Rattle.definitions.specs.Answers.{remainder_meaning, refusal_number, joined}
use Rattle.definitions.specs.declared.Kind.{Kind}
use Rattle.definitions.specs.declared.Refusal.{Refusal}
use Rattle.definitions.specs.declared.Refused.{Refused}
use Rattle.definitions.specs.declared.Residue.{Residue}
use Rattle.operands.specs.declared.Operand.{Operand}
use Rattle.operands.specs.declared.Operand.TheVariants.{Unsupported, Nan, Infinite, Zero, Finite}
use Rattle.operands.specs.Operand.{class_in, value_in, value_operand, divisor_operand, divisor_in}
use Rattle.shapes.specs.Shape.{Sound}
use Rattle.packing.specs.Stands.{Stands, StandsValue}
use Rattle.packing.proofs.Standing.{stands_finite, stands_unpacked, divisor_is, unpacks}
use Rattle.digits.proofs.Tests.{not_zero, clash}
use Rattle.pairs.specs.Divisions.{divisor_divisions}
use Rattle.laws.proofs.Refusals.{refusal_refuses}
use Rattle.checks.proofs.Judged.{AcceptedPair, accepted_pair}
use Rattle.remainder.proofs.ByDivisor.{Writes}

-- a refused pair is not two numbers, so nothing is divided
module _ (f : Format) (ok : Sound f) where
  pub refused_none : (x y : Operand) → Stands f y → (w : Refusal) → first (dividing (class_in f.smallest x) (class_in f.smallest y)) ≡ refusal_number w
      → 0 ≡ divisor_divisions x (divisor_operand y)
  unfolding class_in first
  refused_none Unsupported y sy w e = refl
  refused_none (Nan n t) y sy w e = refl
  refused_none (Infinite n) y sy w e = refl
  refused_none (Zero n) y sy w e = refl
  refused_none (Finite a) Unsupported sy w e = refl
  refused_none (Finite a) (Nan n t) sy w e = refl
  refused_none (Finite a) (Infinite n) sy w e = refl
  refused_none (Finite a) (Zero n) sy w e = refl
  refused_none (Finite a) (Finite b) sy w e =
      let some = (unpacks f ok b (stands_unpacked f ok b sy)).some in
      let none : refusal_number w ≡ 0 = sym (rw (not_zero (value_in f.smallest b).count some) at e) in
      clash (ap (λ (t : Bool). cond t 1 0) (sym (refusal_refuses w) ∙ ap accepted none))

module _ (f : Format) (ok : Sound f) where
  module _ (x y : Operand) (κ : Kind) where
    pub refused : (w : Refusal) (r : Refused) → first (dividing (class_in f.smallest x) (class_in f.smallest y)) ≡ refusal_number w → r.why ≡ w
        → joined r.value ≡ refused_value f (refusal_number w) (class_in f.smallest x) (class_in f.smallest y)
        → remainder_meaning (Err r) ≡ remainder_of f κ (class_in f.smallest x) (class_in f.smallest y)
    unfolding remainder_meaning remainder_of
    refused w r e i j = rw (i, e, refusal_refuses w, ← j)

    module _ (none : first (dividing (class_in f.smallest x) (class_in f.smallest y)) ≡ 0) where
      pair : AcceptedPair (class_in f.smallest x) (class_in f.smallest y)
      pair = accepted_pair (class_in f.smallest y) (class_in f.smallest x) none

      pub dividend_stands : Stands f x → StandsValue f x
      dividend_stands s = stands_finite f ok pair.value x s pair.dividend

      pub answered : (a : Residue ℕ) → Writes f (joined a.value) a.quotient (finish κ (divisor_in f.smallest (divisor_operand y)) (value_operand f.smallest x))
          → remainder_meaning (Ok a) ≡ remainder_of f κ (class_in f.smallest x) (class_in f.smallest y)
      unfolding remainder_meaning remainder_of
      answered a w = rw (none, ← divisor_is f ok y pair.divisor.not_zero) (λ i. record { number = 0; value = w.0 i; quotient = w.1 i })
