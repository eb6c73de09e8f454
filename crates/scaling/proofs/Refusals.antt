-- What scaling and splitting report of an operand that they refuse. Assumes nothing.
use mathlib.Core.Path.{◌≡◌}
use mathlib.Core.Bool.{false}
use lib.IntN.{ℤ}
use Rattle.std.specs.Prelude.{Err}
use Rattle.definitions.specs.Answers.{joined, refusal_number, scale_meaning, split_meaning}
use Rattle.definitions.specs.Class.{Class}
use Rattle.definitions.specs.Facts.{refused_value}
use Rattle.definitions.specs.Format.{Format}
use Rattle.definitions.specs.Numbers.{first, accepted}
use Rattle.definitions.specs.Scale.{scaling, scale_of, splitting, split_of}
use Rattle.definitions.specs.declared.Refusal.{Refusal}
use Rattle.definitions.specs.declared.Refused.{Refused}

module _ (f : Format) (x : Class) (r : Refused) (why : Refusal) (is : r.why ≡ why) (value : joined r.value ≡ refused_value f (refusal_number why) x x)
    (no : accepted (refusal_number why) ≡ false) where
  pub scale_refused : (k : ℤ) → first (scaling x) ≡ refusal_number why → scale_meaning (Err r) ≡ scale_of f x k
  unfolding scale_meaning scale_of
  scale_refused k e = rw (is, value, e, no)

  pub split_refused : first (splitting x) ≡ refusal_number why → split_meaning (Err r) ≡ split_of f x
  unfolding split_meaning split_of
  split_refused e = rw (is, value, e, no)
