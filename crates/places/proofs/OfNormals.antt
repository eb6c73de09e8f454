-- The place of two normal numbers, from what is shown of their quotient. Assumes nothing.
use mathlib.Core.Path.{◌≡◌, refl, sym, ap, ◌∙◌}
use mathlib.Core.Bool.{Bool, true, false}
use Prim.Native.Nat.{ℕ, ◌+◌, ◌-◌, ◌*◌, ◌/◌, ◌%◌, ◌^◌, ◌<◌}
use native.Mathlib.Nat.{mod-lt}
use native.Mathlib.Omega.{arith}
use lib.Dec.{leb}
use Rattle.definitions.specs.Format.{binary64}
use Rattle.definitions.specs.Division.{rounds_up}
use Rattle.definitions.specs.Remainder.{Remainder, quotient_bits, remainder, shown}
use Rattle.definitions.specs.Fold.{result_at, byte_at}
use Rattle.definitions.specs.declared.Kind.{Kind}
use Rattle.definitions.specs.declared.Kind.TheVariants.{Truncated, Nearest}
use Rattle.division.specs.Divided.{divided_of}
use Rattle.division.specs.declared.Divided.{Divided}
use Rattle.prepared.specs.Prepared.{shown_of}
use Rattle.quick.specs.Common.{field_of, spread_of}
use Rattle.quick.specs.Settled.{settled_of}
use Rattle.quick.specs.declared.Settled.{Settled}
use Rattle.quick.proofs.Normals.{normal_class}
use Rattle.quick.proofs.Fields.{Fields, dividend, divisor, spread_is}
use Rattle.quick.proofs.Scaled.{settled_answer, left_ends, left_answer}
use Rattle.places.specs.Places.{place_at}
use Rattle.places.proofs.OnePlace.{placed}

-- the decision looks at the quotient's last digit only, which three bits keep
up_shown : (κ : Kind) (q r m : ℕ) → rounds_up κ (q % 8) r m ≡ rounds_up κ (q % 2 ^ 32) r m
up_shown Truncated q r m = refl
up_shown Nearest q r m = let e : q % 8 % 2 ≡ q % 2 ^ 32 % 2 = omega arith in rw e

-- what is settled of a left-over with three bits of its quotient, and of one with more of them
same_value : (u n : Bool) (r p q b f : ℕ)
    → (settled_answer binary64 11 (settled_of u n (record { remainder = r; quotient = p }) b) f).value
    ≡ (settled_answer binary64 11 (settled_of u n (record { remainder = r; quotient = q }) b) f).value
same_value true n r p q b f = refl
same_value false n r p q b f = refl

-- the next quotient, cut in two ways
next : (p q : ℕ) → p % 8 ≡ q % 8 → (p + 1) % 2 ^ 32 % 8 ≡ (q + 1) % 2 ^ 32 % 2 ^ 31 % 8
next p q e = low32 (p + 1) ∙ more p q e ∙ sym (low31 ((q + 1) % 2 ^ 32) ∙ low32 (q + 1))
  where
    low32 : (k : ℕ) → k % 2 ^ 32 % 8 ≡ k % 8
    low32 k = omega arith

    low31 : (k : ℕ) → k % 2 ^ 31 % 8 ≡ k % 8
    low31 k = omega arith

    more : (p q : ℕ) → p % 8 ≡ q % 8 → (p + 1) % 8 ≡ (q + 1) % 8
    more p q e = omega arith

same_byte : (u n : Bool) (r q b : ℕ)
    → shown (settled_of u n (record { remainder = r; quotient = q % 8 }) b).quotient ≡ shown (quotient_bits (settled_of u n (record { remainder = r; quotient = q % 2 ^ 32 }) b).quotient)
same_byte true n r q b = next (q % 8) (q % 2 ^ 32) (omega arith)
same_byte false n r q b = omega arith

module _ (κ : Kind) (x y : ℕ) (fs : Fields x y) (left : Divided) (is : left ≡ shown_of (spread_of x) (spread_of y) (field_of x - field_of y)) where
  abbrev exact : Divided
  exact = divided_of (spread_of x) (spread_of y) (field_of x - field_of y)

  abbrev up : Bool
  up = rounds_up κ left.quotient left.remainder (spread_of y)

  abbrev settled : Settled
  settled = settled_of up (leb (2 ^ 63) x) left (spread_of y)

  pub below : left.remainder < spread_of y
  below = rw is (mod-lt _ (omega arith))

  pub ends : left.remainder % 2 ^ 11 ≡ 0
  ends = rw is (left_ends binary64 11 x y (spread_of x) (spread_of y) (dividend x y fs) (divisor x y fs) fs.order (spread_is x) (spread_is y) exact refl)

  up_is : up ≡ rounds_up κ exact.quotient exact.remainder (spread_of y)
  up_is = rw is (up_shown κ (spread_of x * 2 ^ (field_of x - field_of y) / spread_of y) exact.remainder (spread_of y))

  answer : settled_answer binary64 11 (settled_of up (leb (2 ^ 63) x) exact (spread_of y)) (field_of y) ≡ remainder binary64 κ x y
  answer =
      left_answer binary64 11 x y (spread_of x) (spread_of y) (dividend x y fs) (divisor x y fs) fs.order (spread_is x) (spread_is y) exact refl κ _
      (ap (λ (u : Bool). settled_of u (leb (2 ^ 63) x) exact (spread_of y)) up_is)

  -- a value and a byte that are those of what is settled
  module _ (v b : ℕ) (ev : v ≡ (settled_answer binary64 11 settled (field_of y)).value) (eb : b ≡ shown settled.quotient) where
    value_is : v ≡ result_at κ y x
    unfolding result_at
    value_is =
        ev ∙ ap (λ (l : Divided). (settled_answer binary64 11 (settled_of up (leb (2 ^ 63) x) l (spread_of y)) (field_of y)).value) is
        ∙ same_value up (leb (2 ^ 63) x) exact.remainder _ exact.quotient (spread_of y) (field_of y) ∙ ap (λ (r : Remainder). r.value) answer

    byte_is : b ≡ byte_at κ y x
    unfolding byte_at
    byte_is =
        rw (normal_class binary64 x (dividend x y fs))
        (eb ∙ ap (λ (l : Divided). shown (settled_of up (leb (2 ^ 63) x) l (spread_of y)).quotient) is
        ∙ same_byte up (leb (2 ^ 63) x) exact.remainder (spread_of x * 2 ^ (field_of x - field_of y) / spread_of y) (spread_of y)
        ∙ ap (λ (r : Remainder). shown r.quotient) answer)

    pub normal_place : record { value = v; byte = b } ≡ place_at κ y x
    normal_place = placed κ y x v b value_is byte_is
