-- What an operand and a divisor are that the code has found not to be an unpacked value: one of the other cases. Assumes nothing.
use Rattle.std.specs.Prelude.{Option, None, Some}
use mathlib.Core.Path.{◌≡◌, refl}
use mathlib.Core.Bool.{Bool}
use Prim.Native.Nat.{ℕ}
use Rattle.operands.specs.declared.Operand.{Operand}
use Rattle.operands.specs.declared.Unpacked.{Unpacked}
use Rattle.operands.specs.declared.Operand.TheVariants.{Unsupported, Nan, Infinite, Zero, Finite}

pub other_cases : (P : Operand → Type 0) → P Unsupported → ((n : Bool) (s : ℕ) → P (Nan n s)) → ((n : Bool) → P (Infinite n)) → ((n : Bool) → P (Zero n))
    → (o : Operand) → ((x : Unpacked) → o ≡ Finite x → ⊥) → P o
other_cases P u q i z Unsupported k = u
other_cases P u q i z (Nan n s) k = q n s
other_cases P u q i z (Infinite n) k = i n
other_cases P u q i z (Zero n) k = z n
other_cases P u q i z (Finite v) k = absurd (k v refl)

pub other_unbounded : (d : Option Unpacked) → ((u : Unpacked) → d ≡ Some u → ⊥) → d ≡ None
other_unbounded None k = refl
other_unbounded (Some u) k = absurd (k u refl)
