-- What an exported remainder with a signed quotient writes, from what the library told: in every format, out of one word of a pattern or of
-- two. Assumes nothing.
use Rattle.std.specs.Prelude.{Result, Ok, Err}
use mathlib.Core.Path.{◌≡◌, refl, sym, ap, ◌∙◌}
use Prim.Native.Nat.{ℕ, ◌^◌, ◌≤◌, ◌<◌}
use native.Mathlib.Omega.{arith}
use lib.IntN.{ℤ}
use Rattle.definitions.specs.Format.{Format, Regular, patterns}
use Rattle.definitions.specs.Signed.{SignedRemainder, signed_remainder}
use Rattle.definitions.specs.Answers.{refusal_number, signed_meaning, joined}
use Rattle.definitions.specs.declared.Kind.{Kind}
use Rattle.definitions.specs.declared.Refused.{Refused}
use Rattle.definitions.specs.declared.Residue.{Residue}
use Rattle.definitions.specs.Exports.{significand_in, word_in}
use Rattle.laws.proofs.Lent.{significand_of_lem, word_of}
use Rattle.laws.proofs.Small.{remainder_small}
use Rattle.laws.proofs.Signed.{signed_remainder_lem}

-- a remainder that the library told as a
module _ (f : Format) (r : Regular f) (κ : Kind) (x y : ℕ) (a : Result (Residue ℤ) Refused) (told : signed_meaning a ≡ signed_remainder f κ x y) where
  module _ (t : Residue ℤ) (e : a ≡ Ok t) where
    meant : signed_remainder f κ x y ≡ record { number = 0; value = joined t.value; quotient = t.quotient }
    unfolding signed_meaning
    meant = sym told ∙ ap signed_meaning e

    pub value_fits : joined t.value < patterns f
    value_fits = rw (ap (λ (g : SignedRemainder). g.value) (sym meant) ∙ (signed_remainder_lem f κ x y).1) (remainder_small f r κ x y)

    -- the low word is the whole pattern; z is what the machine holds of the quotient
    pub finished : (z : ℤ) → z ≡ t.quotient → patterns f ≤ 2 ^ 64
        → (0 ≡ (signed_remainder f κ x y).number) × ((t.value.low ≡ (signed_remainder f κ x y).value) × (z ≡ (signed_remainder f κ x y).quotient))
    finished z held h = let s = value_fits in rw meant (refl, (omega arith, held))

    -- the low word is the significand, and the high word is the other one
    pub finished80 : (z : ℤ) → z ≡ t.quotient → t.value.low < 2 ^ 64
        → (0 ≡ (signed_remainder f κ x y).number)
        × ((t.value.low ≡ significand_in (signed_remainder f κ x y).value) × ((t.value.high ≡ word_in (signed_remainder f κ x y).value) × (z ≡ (signed_remainder f κ x y).quotient)))
    finished80 z held h = rw meant (refl, (significand_of_lem t.value h, (word_of t.value h, held)))

  pub number_is : (t : Refused) (n : ℕ) → a ≡ Err t → n ≡ refusal_number t.why → n ≡ (signed_remainder f κ x y).number
  unfolding signed_meaning
  number_is t n e is = is ∙ ap (λ (t : SignedRemainder). t.number) (ap signed_meaning (sym e) ∙ told)
