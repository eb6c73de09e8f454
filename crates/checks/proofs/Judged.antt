-- What a verdict says of the classes that were judged: an accepted pair is a finite dividend and a divisor that is not zero. Assumes nothing.
use Rattle.std.specs.Prelude.{Result, Ok, Err}
use mathlib.Core.Path.{◌≡◌, refl, sym, ap, ◌∙◌}
use mathlib.Core.Bool.{Bool, true, false, cond, ◌||◌}
use mathlib.Core.List.{List, ◌∷◌}
use Prim.Native.Nat.{ℕ, ◌<◌}
use native.Mathlib.Omega.{arith}
use lib.Dec.{eqb, lit<}
use lib.IntN.{ℤ}
use Rattle.definitions.specs.Class.{Value, Class, unsupported, nan, infinite, finite}
use Rattle.definitions.specs.Numbers.{Check, first, dividing, is_unsupported, is_nan, is_infinite, is_zero}
use Rattle.definitions.specs.Fold.{dividing_list}
use Rattle.definitions.specs.Answers.{refusal_number}
use Rattle.definitions.specs.declared.Refusal.{Refusal}
use Rattle.operands.specs.declared.Operand.{Operand}
use Rattle.operands.specs.Operand.{operand_of}
use Rattle.operands.proofs.Lead.{by_count}
use Rattle.digits.proofs.Tests.{not_zero, clash}
use Rattle.laws.proofs.Refusals.{refusal_refuses}
use Rattle.checks.specs.Verdict.{verdict_number, unsupported_operand, nan_operand, infinite_operand, zero_operand}

-- the tests on an operand are those on its class
module _ (s : ℤ) where
  pub unsupported_told : (a : Class) → unsupported_operand (operand_of s a) ≡ is_unsupported a
  unfolding operand_of
  unsupported_told unsupported = refl
  unsupported_told (nan n t) = refl
  unsupported_told (infinite n) = refl
  unsupported_told (finite v) = by_count s v (λ (o : Operand). unsupported_operand o ≡ false) (λ z. refl) (λ h. refl)

  pub nan_told : (a : Class) → nan_operand (operand_of s a) ≡ is_nan a
  unfolding operand_of
  nan_told unsupported = refl
  nan_told (nan n t) = refl
  nan_told (infinite n) = refl
  nan_told (finite v) = by_count s v (λ (o : Operand). nan_operand o ≡ false) (λ z. refl) (λ h. refl)

  pub infinite_told : (a : Class) → infinite_operand (operand_of s a) ≡ is_infinite a
  unfolding operand_of
  infinite_told unsupported = refl
  infinite_told (nan n t) = refl
  infinite_told (infinite n) = refl
  infinite_told (finite v) = by_count s v (λ (o : Operand). infinite_operand o ≡ false) (λ z. refl) (λ h. refl)

  pub zero_told : (a : Class) → zero_operand (operand_of s a) ≡ is_zero a
  unfolding operand_of
  zero_told unsupported = refl
  zero_told (nan n t) = refl
  zero_told (infinite n) = refl
  zero_told (finite v) = by_count s v (λ (o : Operand). zero_operand o ≡ eqb v.count 0) (λ z. rw z) (λ h. rw (not_zero v.count h))

-- the checks of the code, in their order
abbrev pub pair_number : Operand → Operand → ℕ
pair_number x y =
    cond (unsupported_operand x || unsupported_operand y) 2 (cond (nan_operand x || nan_operand y) 3 (cond (infinite_operand x) 4 (cond (zero_operand y) 5 0)))

abbrev pub divisor_number : Operand → ℕ
divisor_number y = cond (nan_operand y) 3 (cond (zero_operand y) 5 0)

module _ (s : ℤ) (b : Class) (y : Operand) (ey : y ≡ operand_of s b) where
  pub divisor_number_lem : divisor_number y ≡ first (dividing_list b)
  unfolding first
  divisor_number_lem = rw (ey, nan_told s b, zero_told s b)

  pub pair_number_lem : (a : Class) (x : Operand) → x ≡ operand_of s a → pair_number x y ≡ first (dividing a b)
  unfolding first
  pair_number_lem a x ex = rw (ex, ey, unsupported_told s a, unsupported_told s b, nan_told s a, nan_told s b, infinite_told s a, zero_told s b)

neither : (a b : Bool) → a || b ≡ false → (a ≡ false) × (b ≡ false)
neither true b e = clash (cc)
neither false b e = (refl, e)

-- the number of a refusal is not 0
pub refusal_some : (w : Refusal) → eqb (refusal_number w) 0 ≡ false
refusal_some w = (neither _ _ (neither _ _ (refusal_refuses w)).0).0

-- the number that a verdict gives
pub refused_number : (r : Result Unit Refusal) (w : Refusal) (n : ℕ) → r ≡ Err w → verdict_number r ≡ n → n ≡ refusal_number w
refused_number r w n p e = sym e ∙ ap verdict_number p

pub accepted_number : (r : Result Unit Refusal) (n : ℕ) → r ≡ Ok tt → verdict_number r ≡ n → n ≡ 0
accepted_number r n p e = sym e ∙ ap verdict_number p

-- where the number is 0, no check of the list applies
pub passes : (c : Check) (cs : List Check) → 0 < c.number → first (c ∷ cs) ≡ 0 → (c.test ≡ false) × (first cs ≡ 0)
unfolding first
passes c cs h e = go c.test refl e
  where
    go : (t : Bool) → c.test ≡ t → cond t c.number (first cs) ≡ 0 → (c.test ≡ false) × (first cs ≡ 0)
    go true p q = absurd (omega arith)
    go false p q = (p, q)

-- a divisor that was accepted is infinite, or finite and not zero
pub record AcceptedDivisor (b : Class) : Type 0 where
  pub not_nan : is_nan b ≡ false
  pub not_zero : is_zero b ≡ false

-- an accepted pair: a finite dividend, and a divisor
pub record AcceptedPair (a b : Class) : Type 0 where
  pub value : Value
  pub dividend : a ≡ finite value
  pub supported : is_unsupported b ≡ false
  pub divisor : AcceptedDivisor b

module _ (b : Class) where
  pub accepted_divisor : first (dividing_list b) ≡ 0 → AcceptedDivisor b
  accepted_divisor e =
      let n = passes _ _ (lit< tt) e in
      record { not_nan = n.0; not_zero = (passes _ _ (lit< tt) n.1).0 }

  pub accepted_pair : (a : Class) → first (dividing a b) ≡ 0 → AcceptedPair a b
  accepted_pair a e =
      let u = passes _ _ (lit< tt) e in
      let n = passes _ _ (lit< tt) u.1 in
      let i = passes _ _ (lit< tt) n.1 in
      go a (neither _ _ u.0) (neither _ _ n.0) i.0 (passes _ _ (lit< tt) i.1).0
    where
      go : (c : Class) → (is_unsupported c ≡ false) × (is_unsupported b ≡ false) → (is_nan c ≡ false) × (is_nan b ≡ false) → is_infinite c ≡ false → is_zero b ≡ false → AcceptedPair c b
      go unsupported u n i z = clash (cc)
      go (nan t s) u n i z = clash (cc)
      go (infinite t) u n i z = clash (cc)
      go (finite v) u n i z = record { value = v; dividend = refl; supported = u.1; divisor = record { not_nan = n.1; not_zero = z } }
