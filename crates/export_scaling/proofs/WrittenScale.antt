-- What an exported scaling writes, from what the library told: in every format, out of one word of a pattern or of two. Assumes nothing.
use Rattle.std.specs.Prelude.{Result, Ok, Err}
use mathlib.Core.Path.{◌≡◌, refl, sym, ap, ◌∙◌}
use Prim.Native.Nat.{ℕ, ◌^◌, ◌≤◌, ◌<◌}
use native.Mathlib.Omega.{arith}
use lib.IntN.{ℤ}
use Rattle.definitions.specs.Format.{Format, Regular, patterns}
use Rattle.definitions.specs.Scale.{ScaleReport, scale_report}
use Rattle.definitions.specs.Answers.{refusal_number, joined, scale_meaning}
use Rattle.definitions.specs.declared.Pattern.{Pattern}
use Rattle.definitions.specs.declared.Refused.{Refused}
use Rattle.definitions.specs.declared.WithRounding.{WithRounding}
use Rattle.definitions.specs.Exports.{says_number, significand_in, word_in}
use Rattle.laws.proofs.Small.{scale_small}
use Rattle.laws.proofs.Lent.{significand_of_lem, word_of}

-- the report of x scaled by 2 ^ k, which the library told as a
module _ (f : Format) (r : Regular f) (x : ℕ) (k : ℤ) (a : Result (WithRounding Pattern) Refused) (told : scale_meaning a ≡ scale_report f x k) where
  abbrev R : ScaleReport
  R = scale_report f x k

  module _ (t : WithRounding Pattern) (is : a ≡ Ok t) where
    meant : R ≡ record { number = 0; value = joined t.value; says = t.says }
    unfolding scale_meaning
    meant = sym told ∙ ap scale_meaning is

    pub value_small : joined t.value < patterns f
    value_small = let s = scale_small f r x k in rw meant at s

    -- a value of one word, and one of two
    pub scaled : (n : ℕ) → n ≡ says_number t.says → patterns f ≤ 2 ^ 64 → (0 ≡ R.number) × ((t.value.low ≡ R.value) × (n ≡ says_number R.says))
    scaled n i one = let s = value_small in rw meant (refl, (omega arith, i))

    pub scaled80 : (n : ℕ) → n ≡ says_number t.says → t.value.low < 2 ^ 64
        → (0 ≡ R.number) × ((t.value.low ≡ significand_in R.value) × ((t.value.high ≡ word_in R.value) × (n ≡ says_number R.says)))
    scaled80 n i h = rw meant (refl, (significand_of_lem t.value h, (word_of t.value h, i)))

  pub number_is : (t : Refused) (n : ℕ) → a ≡ Err t → n ≡ refusal_number t.why → n ≡ R.number
  unfolding scale_meaning
  number_is t n e is = is ∙ ap (λ (t : ScaleReport). t.number) (ap scale_meaning (sym e) ∙ told)
