-- What an exported splitting writes, from what the library told: in every format, out of one word of a pattern or of two. Assumes nothing.
use Rattle.std.specs.Prelude.{Result, Ok, Err}
use mathlib.Core.Path.{◌≡◌, refl, sym, ap, ◌∙◌}
use Prim.Native.Nat.{ℕ, ◌^◌, ◌≤◌, ◌<◌}
use native.Mathlib.Omega.{arith}
use lib.IntN.{ℤ}
use Rattle.definitions.specs.Format.{Format, Regular, patterns}
use Rattle.definitions.specs.Scale.{SplitReport, split_report}
use Rattle.definitions.specs.Answers.{refusal_number, joined, split_meaning}
use Rattle.definitions.specs.declared.Refused.{Refused}
use Rattle.definitions.specs.declared.Split.{Split}
use Rattle.definitions.specs.Exports.{significand_in, word_in}
use Rattle.laws.proofs.Small.{split_small}
use Rattle.laws.proofs.Lent.{significand_of_lem, word_of}

-- the report of x split, which the library told as a
module _ (f : Format) (r : Regular f) (x : ℕ) (a : Result Split Refused) (told : split_meaning a ≡ split_report f x) where
  abbrev R : SplitReport
  R = split_report f x

  module _ (t : Split) (is : a ≡ Ok t) where
    meant : R ≡ record { number = 0; significand = joined t.significand; exponent = t.exponent }
    unfolding split_meaning
    meant = sym told ∙ ap split_meaning is

    pub significand_small : joined t.significand < patterns f
    significand_small = let s = split_small f r x in rw meant at s

    -- a significand of one word, and one of two; the exponent is stored as i
    pub parted : (i : ℤ) → i ≡ t.exponent → patterns f ≤ 2 ^ 64 → (0 ≡ R.number) × ((t.significand.low ≡ R.significand) × (i ≡ R.exponent))
    parted i j one = let s = significand_small in rw meant (refl, (omega arith, j))

    pub parted80 : (i : ℤ) → i ≡ t.exponent → t.significand.low < 2 ^ 64
        → (0 ≡ R.number) × ((t.significand.low ≡ significand_in R.significand) × ((t.significand.high ≡ word_in R.significand) × (i ≡ R.exponent)))
    parted80 i j h = rw meant (refl, (significand_of_lem t.significand h, (word_of t.significand h, j)))

  pub number_is : (t : Refused) (n : ℕ) → a ≡ Err t → n ≡ refusal_number t.why → n ≡ R.number
  unfolding split_meaning
  number_is t n e is = is ∙ ap (λ (t : SplitReport). t.number) (ap split_meaning (sym e) ∙ told)
