-- One place of a list: which dividends an accepted divisor refuses, and what a call of its own leaves there. Assumes nothing.
use Rattle.std.specs.Prelude.{Result, Ok, Err}
use mathlib.Core.Path.{◌≡◌, refl, sym, ap, ◌∙◌}
use mathlib.Core.Bool.{true, false, not, ◌||◌}
use Prim.Native.Nat.{ℕ, ◌^◌, ◌<◌}
use native.Mathlib.Omega.{arith}
use borrow.Author.Tests.{not-true, not-false}
use Rattle.digits.proofs.Tests.{clash}
use Rattle.definitions.specs.Class.{Class, unsupported, nan, infinite, finite}
use Rattle.definitions.specs.Format.{binary64, class_of}
use Rattle.definitions.specs.Numbers.{first, accepted, dividing, is_unsupported, is_nan, is_infinite}
use Rattle.definitions.specs.Remainder.{Remainder, remainder_of, remainder, shown}
use Rattle.definitions.specs.Answers.{refusal_number, remainder_meaning, joined}
use Rattle.definitions.specs.Fold.{dividing_list, bad, result_at, byte_at}
use Rattle.definitions.specs.declared.Kind.{Kind}
use Rattle.definitions.specs.declared.Pattern.{Pattern}
use Rattle.definitions.specs.declared.Refusal.{Refusal}
use Rattle.definitions.specs.declared.Refused.{Refused}
use Rattle.definitions.specs.declared.Residue.{Residue}
use Rattle.definitions.proofs.Refusals.{supported}
use Rattle.laws.proofs.Refusals.{refusal_refuses}
use Rattle.laws.proofs.Regular.{regular64}
use Rattle.laws.proofs.Small.{remainder_small}
use Rattle.checks.proofs.Judged.{AcceptedDivisor, accepted_divisor}
use Rattle.places.specs.Places.{place_at}
use Rattle.places.specs.declared.Place.{Place}

-- a place of both lists
pub placed : (κ : Kind) (y x v b : ℕ) → v ≡ result_at κ y x → b ≡ byte_at κ y x → ◌≡◌ {A = Place} (record { value = v; byte = b }) (place_at κ y x)
placed κ y x v b ev eb = (λ i. record { value = ev i; byte = eb i })

-- by a divisor that is accepted, a dividend is refused exactly if it is NaN or infinite
accepts : (x y : Class) → is_unsupported x ≡ false → is_unsupported y ≡ false → AcceptedDivisor y → accepted (first (dividing x y)) ≡ not (is_nan x || is_infinite x)
unfolding first
accepts unsupported y ux uy d = clash (cc)
accepts (nan n s) y ux uy d = rw uy
accepts (infinite n) y ux uy d = rw (uy, d.not_nan)
accepts (finite v) y ux uy d = rw (uy, d.not_nan, d.not_zero)

-- a pattern of one word is its low word
low_word : (p : Pattern) (n : ℕ) → joined p ≡ n → n < 2 ^ 64 → p.low ≡ n
low_word p n e h = omega arith

module _ (κ : Kind) (y x : ℕ) (d : first (dividing_list (class_of binary64 y)) ≡ 0) (a : Result (Residue ℕ) Refused) (told : remainder_meaning a ≡ remainder binary64 κ x y) where
  accepts_good : accepted (remainder binary64 κ x y).number ≡ not (bad x)
  unfolding remainder remainder_of
  accepts_good = accepts (class_of binary64 x) (class_of binary64 y) (supported binary64 refl x) (supported binary64 refl y) (accepted_divisor (class_of binary64 y) d)

  value_low : (v : Pattern) → joined v ≡ (remainder binary64 κ x y).value → v.low ≡ result_at κ y x
  unfolding result_at
  value_low v e = low_word v _ e (remainder_small binary64 regular64 κ x y)

  module _ (v : Pattern) (q b : ℕ) (e : a ≡ Ok (record { value = v; quotient = q })) (is : b ≡ shown q) where
    answered : ◌≡◌ {A = Remainder} (record { number = 0; value = joined v; quotient = q }) (remainder binary64 κ x y)
    unfolding remainder_meaning
    answered = ap remainder_meaning (sym e) ∙ told

    good : bad x ≡ false
    good = not-true (bad x) (sym accepts_good ∙ sym (ap (λ (r : Remainder). accepted r.number) answered))

    byte_is : b ≡ byte_at κ y x
    unfolding byte_at
    byte_is = rw good (is ∙ ap (λ (r : Remainder). shown r.quotient) answered)

    pub finished : record { value = v.low; byte = b } ≡ place_at κ y x
    finished = placed κ y x v.low b (value_low v (ap (λ (r : Remainder). r.value) answered)) byte_is

  module _ (w : Refusal) (v : Pattern) (e : a ≡ Err (record { why = w; value = v })) where
    marked : ◌≡◌ {A = Remainder} (record { number = refusal_number w; value = joined v; quotient = 0 }) (remainder binary64 κ x y)
    unfolding remainder_meaning
    marked = ap remainder_meaning (sym e) ∙ told

    is_bad : bad x ≡ true
    is_bad = not-false (bad x) (sym accepts_good ∙ sym (ap (λ (r : Remainder). accepted r.number) marked) ∙ refusal_refuses w)

    mark_is : 255 ≡ byte_at κ y x
    unfolding byte_at
    mark_is = rw is_bad

    pub refused : record { value = v.low; byte = 255 } ≡ place_at κ y x
    refused = placed κ y x v.low 255 (value_low v (ap (λ (r : Remainder). r.value) marked)) mark_is
