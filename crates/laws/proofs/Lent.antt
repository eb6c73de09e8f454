-- What is written through lent numbers, and what a refusal leaves of them. Assumes nothing.
use mathlib.Core.Path.{◌≡◌}
use Prim.Native.Nat.{ℕ, ◌^◌, ◌<◌}
use native.Mathlib.Omega.{arith}
use Rattle.definitions.specs.Answers.{refusal_number, joined}
use Rattle.definitions.specs.declared.Refusal.{Refusal}
use Rattle.definitions.specs.declared.Pattern.{Pattern}
use Rattle.laws.proofs.Refusals.{refusal_refuses}
use Rattle.definitions.specs.Exports.{after, significand_in, word_in}

-- a refusal leaves what was lent
pub kept : {A : Type 0} (w : Refusal) (n : ℕ) (answer lent : A) → n ≡ refusal_number w → lent ≡ after n answer lent
kept w n answer lent e = rw (e, refusal_refuses w)

-- the two words of an x87 pattern, out of the one number
pub significand_of_lem : (v : Pattern) → v.low < 2 ^ 64 → v.low ≡ significand_in (joined v)
significand_of_lem v h = omega arith

pub word_of : (v : Pattern) → v.low < 2 ^ 64 → v.high ≡ word_in (joined v)
word_of v h = omega arith
