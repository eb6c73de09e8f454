-- Operands that stand for what a format holds: where they come from, and that they are within the code's range. Assumes nothing.
use Rattle.std.specs.Prelude.{Option, None, Some}
use mathlib.Core.Path.{◌≡◌, refl, sym, ap, ◌∙◌, subst}
use mathlib.Core.Bool.{Bool, true, false, not, cond}
use Prim.Native.Nat.{ℕ, suc, ◌+◌, ◌-◌, ◌^◌, ◌≤◌, ◌<◌}
use native.Mathlib.Omega.{arith}
use borrow.Author.Tests.{eqb-false}
use lib.Dec.{T, ltb, nltb→le, eqb}
use lib.IntN.{ℤ, pos, negsuc, nat_abs, ◌+ℤ◌, pos-ne-negsuc}
use lib.Ieee.{size}
use lib.Signed.{mag}
use mir.Syntax.{w32}
use mir.Val.{to_z, of_z}
use Rattle.digits.specs.Digits.{Digits}
use Rattle.digits.proofs.Digits.{digits_more}
use Rattle.digits.proofs.Signed.{mag_add, small_back}
use Rattle.digits.proofs.Tests.{clash}
use Rattle.definitions.specs.Class.{Value, Class, unsupported, nan, infinite, finite}
use Rattle.definitions.specs.Format.{Format, Representable, Holds, class_of, reach}
use Rattle.definitions.specs.Numbers.{is_zero}
use Rattle.definitions.specs.Division.{finish, divisor_of}
use Rattle.definitions.specs.declared.Kind.{Kind}
use Rattle.operands.specs.declared.Operand.{Operand}
use Rattle.operands.specs.declared.Operand.TheVariants.{Unsupported, Nan, Infinite, Zero, Finite}
use Rattle.operands.specs.declared.Unpacked.{Unpacked}
use Rattle.operands.specs.Operand.{operand_of, unpacked_of, class_in, value_in, value_operand, divisor_operand, divisor_in, Ready, Unpacks}
use Rattle.operands.proofs.Lead.{class_back, lead, lead_top, lead_word}
use Rattle.laws.proofs.Division.{finish_held}
use Rattle.laws.proofs.RoundTrip.{read_holds}
use Rattle.shapes.specs.Shape.{Sound}
use Rattle.packing.specs.Stands.{Stands, StandsValue, StandsDivisor}

-- the smallest place of a regular format is as far below one as its bias and its precision say
small_of : (s : ℤ) (k : ℕ) → s +ℤ pos k ≡ pos 0 → mag s ≤ k
small_of (pos n) k e = let z : n + k ≡ 0 = ap nat_abs e in omega arith
small_of (negsuc n) k e = go (ltb k (suc n)) (nltb→le k (suc n)) e
  where
    go : (t : Bool) → (T (not t) → suc n ≤ k) → cond t (negsuc (suc n - suc k)) (pos (k - suc n)) ≡ pos 0 → n ≤ k
    go true h q = absurd (pos-ne-negsuc 0 (suc n - suc k) (sym q))
    go false h q = omega (arith, h tt)

module _ (f : Format) (ok : Sound f) where
  pub smallest_small : mag f.smallest < 2 ^ 15
  smallest_small = omega (arith, small_of f.smallest (f.bias + f.precision - 2) ok.regular.place, ok.narrow, ok.short)

  pub held_digits : (n : ℕ) → Representable f n → Digits 64 n
  held_digits n h = digits_more f.precision 64 n ok.narrow h.digits

  -- what is unpacked of a class is read back as it
  pub class_of_lem : (c : Class) → Holds f c → class_in f.smallest (operand_of f.smallest c) ≡ c
  unfolding class_in operand_of
  class_of_lem unsupported h = refl
  class_of_lem (nan n s) h = refl
  class_of_lem (infinite n) h = refl
  class_of_lem (finite v) h = class_back f.smallest v (held_digits v.count h)

  pub stands_class : (c : Class) (o : Operand) → Holds f c → o ≡ operand_of f.smallest c → Stands f o
  stands_class c o h e =
      let q = class_of_lem c h in
      subst (Stands f) (sym e) (record { is = ap (operand_of f.smallest) (sym q); holds = subst (Holds f) (sym q) h })

  -- the operand of a pattern
  pub stands_pattern : (b : ℕ) (o : Operand) → o ≡ operand_of f.smallest (class_of f b) → Stands f o
  stands_pattern b o = stands_class (class_of f b) o (read_holds f ok.regular b)

  pub class_pattern : (b : ℕ) (o : Operand) → o ≡ operand_of f.smallest (class_of f b) → class_in f.smallest o ≡ class_of f b
  class_pattern b o e = ap (class_in f.smallest) e ∙ class_of_lem (class_of f b) (read_holds f ok.regular b)

  -- the operand of a value
  pub value_of : (v : Value) (o : Operand) → Representable f v.count → o ≡ operand_of f.smallest (finite v) → value_operand f.smallest o ≡ v
  value_of v o h e = rw (ap (class_in f.smallest) e ∙ class_of_lem (finite v) h)

  pub stands_value : (v : Value) (o : Operand) → Representable f v.count → o ≡ operand_of f.smallest (finite v) → StandsValue f o
  stands_value v o h e =
      let q = value_of v o h e in
      record { is = e ∙ ap (λ (w : Value). operand_of f.smallest (finite w)) (sym q); held = subst (λ (w : Value). Representable f w.count) (sym q) h }

  -- an operand of a finite class is a value
  pub stands_finite : (v : Value) (o : Operand) → Stands f o → class_in f.smallest o ≡ finite v → StandsValue f o
  stands_finite v o s e = stands_value v o (subst (Holds f) e s.holds) (s.is ∙ ap (operand_of f.smallest) e)

  -- and a value is an operand of its class
  pub value_stands : (o : Operand) → StandsValue f o → Stands f o
  value_stands o s = stands_class (finite (value_operand f.smallest o)) o s.held s.is

  pub value_class : (o : Operand) → StandsValue f o → class_in f.smallest o ≡ finite (value_operand f.smallest o)
  value_class o s = ap (class_in f.smallest) s.is ∙ class_of_lem (finite (value_operand f.smallest o)) s.held

  pub stands_unpacked : (u : Unpacked) → Stands f (Finite u) → StandsValue f (Finite u)
  unfolding class_in
  stands_unpacked u s = stands_finite (value_in f.smallest u) (Finite u) s refl

  -- what an operand divides by, as the code holds it; a zero is refused before
  pub divisor_stands : (y : Operand) → Stands f y → StandsDivisor f (divisor_operand y)
  divisor_stands Unsupported s = tt
  divisor_stands (Nan n t) s = tt
  divisor_stands (Infinite n) s = tt
  divisor_stands (Zero n) s = tt
  divisor_stands (Finite u) s = stands_unpacked u s

  pub divisor_is : (y : Operand) → is_zero (class_in f.smallest y) ≡ false → divisor_in f.smallest (divisor_operand y) ≡ divisor_of (class_in f.smallest y)
  unfolding class_in
  divisor_is Unsupported z = refl
  divisor_is (Nan n t) z = refl
  divisor_is (Infinite n) z = refl
  divisor_is (Zero n) z = clash (cc)
  divisor_is (Finite u) z = refl

  -- an unpacked value: its count is not zero, and it is unpacked from it
  pub unpacks : (u : Unpacked) → StandsValue f (Finite u) → Unpacks f.smallest (value_in f.smallest u) u
  unfolding class_in operand_of
  unpacks u s =
      go (value_in f.smallest u) (held_digits (value_in f.smallest u).count s.held) s.is
    where
      go : (v : Value) → Digits 64 v.count → Finite u ≡ operand_of f.smallest (finite v) → Unpacks f.smallest v u
      go v d e = by (eqb v.count 0) refl e
        where
          by : (z : Bool) → eqb v.count 0 ≡ z → Finite u ≡ cond z (Zero v.negative) (Finite (unpacked_of f.smallest v)) → Unpacks f.smallest v u
          by true q p = clash (cc)
          by false q p = record { some = (let n = eqb-false v.count 0 q in omega arith); digits = d; is = (cc) }

  -- an unpacked value is within the code's range
  pub ready : (u : Unpacked) → StandsValue f (Finite u) → Ready u
  unfolding unpacked_of class_in
  ready u s =
      let v = value_in f.smallest u in
      let p = unpacks u s in
      let e : u.exponent ≡ f.smallest +ℤ pos (size v.count - 1) = ap (λ (w : Unpacked). w.exponent) p.is in
      let a : u.significand ≡ lead v.count = ap (λ (w : Unpacked). w.significand) p.is in
      let range : size v.count ≤ reach f = s.held.range in
      record {
        top = rw a (lead_top v.count p.some);
        word = rw a (lead_word v.count p.some);
        small = rw e (omega (arith, mag_add f.smallest (pos (size v.count - 1)), smallest_small, range, ok.narrow, ok.short));
      }

  -- what the machine holds of the smallest place, and of an exponent, is read back as it was written
  pub smallest_back : (s : ℤ) → s ≡ f.smallest → to_z w32 (of_z w32 s) ≡ f.smallest
  smallest_back s is = rw is (small_back f.smallest (omega (arith, smallest_small)))

  pub exponent_back : (u : Unpacked) → StandsValue f (Finite u) → to_z w32 (of_z w32 u.exponent) ≡ u.exponent
  exponent_back u h = small_back u.exponent (omega (arith, (ready u h).small))

  -- what is left of a value by a divisor is a value again
  pub finish_stands : (κ : Kind) (y : Option Unpacked) (v : Value) → StandsDivisor f y → Representable f v.count → Representable f (finish κ (divisor_in f.smallest y) v).value.count
  unfolding finish class_in
  finish_stands κ None v sy h = h
  finish_stands κ (Some u) v sy h = finish_held f κ (value_in f.smallest u).count v (unpacks u sy).some sy.held h

-- the operands of two patterns
module _ (f : Format) (ok : Sound f) (x y : ℕ) (o p : Operand)
    (ox : o ≡ operand_of f.smallest (class_of f x)) (py : p ≡ operand_of f.smallest (class_of f y)) where
  pub patterns_stand : Stands f o × Stands f p
  patterns_stand = (stands_pattern f ok x o ox, stands_pattern f ok y p py)
