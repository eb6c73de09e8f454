-- What an exported remainder writes, from what the library told: in every format, out of one word of a pattern or of two. Assumes nothing.
use Rattle.std.specs.Prelude.{Result, Ok, Err}
use mathlib.Core.Path.{◌≡◌, refl, sym, ap, ◌∙◌}
use Prim.Native.Nat.{ℕ, ◌^◌, ◌≤◌, ◌<◌}
use native.Mathlib.Omega.{arith}
use Rattle.definitions.specs.Format.{Format, Regular, patterns}
use Rattle.definitions.specs.Remainder.{Remainder, remainder}
use Rattle.definitions.specs.Answers.{refusal_number, remainder_meaning, joined}
use Rattle.definitions.specs.declared.Kind.{Kind}
use Rattle.definitions.specs.declared.Refused.{Refused}
use Rattle.definitions.specs.declared.Residue.{Residue}
use Rattle.definitions.specs.Exports.{significand_in, word_in}
use Rattle.laws.proofs.Lent.{significand_of_lem, word_of}
use Rattle.laws.proofs.Small.{remainder_small}

-- a remainder that the library told as a
module _ (f : Format) (r : Regular f) (κ : Kind) (x y : ℕ) (a : Result (Residue ℕ) Refused) (told : remainder_meaning a ≡ remainder f κ x y) where
  module _ (t : Residue ℕ) (e : a ≡ Ok t) where
    meant : remainder f κ x y ≡ record { number = 0; value = joined t.value; quotient = t.quotient }
    unfolding remainder_meaning
    meant = sym told ∙ ap remainder_meaning e

    pub value_fits : joined t.value < patterns f
    value_fits = let s = remainder_small f r κ x y in rw meant at s

    -- the low word is the whole pattern
    pub finished : patterns f ≤ 2 ^ 64 → (0 ≡ (remainder f κ x y).number) × ((t.value.low ≡ (remainder f κ x y).value) × (t.quotient ≡ (remainder f κ x y).quotient))
    finished h = let s = value_fits in rw meant (refl, (omega arith, refl))

    -- the low word is the significand, and the high word is the other one
    pub finished80 : t.value.low < 2 ^ 64
        → (0 ≡ (remainder f κ x y).number)
        × ((t.value.low ≡ significand_in (remainder f κ x y).value) × ((t.value.high ≡ word_in (remainder f κ x y).value) × (t.quotient ≡ (remainder f κ x y).quotient)))
    finished80 h = rw meant (refl, (significand_of_lem t.value h, (word_of t.value h, refl)))

  pub number_is : (t : Refused) (n : ℕ) → a ≡ Err t → n ≡ refusal_number t.why → n ≡ (remainder f κ x y).number
  unfolding remainder_meaning
  number_is t n e is = is ∙ ap (λ (t : Remainder). t.number) (ap remainder_meaning (sym e) ∙ told)
