-- The number and the values of each case of each answer of the code. Definitions only.
use Rattle.std.specs.Prelude.{ℕ, ℤ, pos, Result, Ok, Err}
use Rattle.definitions.specs.declared.Pattern.{Pattern}
use Rattle.definitions.specs.declared.Refusal.{Refusal}
use Rattle.definitions.specs.declared.Refusal.TheVariants as why
use Rattle.definitions.specs.declared.Rounding.TheVariants.{Exact}
use Rattle.definitions.specs.declared.Refused.{Refused}
use Rattle.definitions.specs.declared.Residue.{Residue}
use Rattle.definitions.specs.declared.Reached.{Reached}
use Rattle.definitions.specs.declared.Progress.{Progress}
use Rattle.definitions.specs.declared.Progress.TheVariants.{Finished, Unfinished}
use Rattle.definitions.specs.declared.WithRounding.{WithRounding}
use Rattle.definitions.specs.declared.Split.{Split}
use Rattle.definitions.specs.Format.{words}
use Rattle.definitions.specs.Remainder.{Remainder}
use Rattle.definitions.specs.Signed.{SignedRemainder}
use Rattle.definitions.specs.Reports.{Report}
use Rattle.definitions.specs.Scale.{ScaleReport, SplitReport}

-- [7.1] the number of each refusal
abbrev pub refusal_number : Refusal → ℕ
refusal_number why.BadLength = 9
refusal_number why.BadSize = 6
refusal_number why.Unsupported = 2
refusal_number why.Nan = 3
refusal_number why.Infinite = 4
refusal_number why.ZeroDivisor = 5
refusal_number why.ZeroSplit = 8

-- the one number that a pattern is
abbrev pub joined : Pattern → ℕ
joined p = words p.high p.low

unfoldable pub remainder_meaning : Result (Residue ℕ) Refused → Remainder
remainder_meaning (Ok a) = record { number = 0; value = joined a.value; quotient = a.quotient }
remainder_meaning (Err r) = record { number = refusal_number r.why; value = joined r.value; quotient = 0 }

unfoldable pub signed_meaning : Result (Residue ℤ) Refused → SignedRemainder
signed_meaning (Ok a) = record { number = 0; value = joined a.value; quotient = a.quotient }
signed_meaning (Err r) = record { number = refusal_number r.why; value = joined r.value; quotient = pos 0 }

-- a call of which an unfinished one has the number u. A refused call reports no steps.
unfoldable pub steps_meaning : ℕ → Result (Progress Reached) Refused → Report ℕ
steps_meaning u (Ok (Finished a)) = record { number = 0; value = joined a.value; quotient = a.quotient; steps = a.steps }
steps_meaning u (Ok (Unfinished a)) = record { number = u; value = joined a.value; quotient = a.quotient; steps = a.steps }
steps_meaning u (Err r) = record { number = refusal_number r.why; value = joined r.value; quotient = 0; steps = 0 }

-- [7.1] an unfinished step is 1, and an unfinished run 7
abbrev pub step_meaning : Result (Progress Reached) Refused → Report ℕ
step_meaning = steps_meaning 1

abbrev pub run_meaning : Result (Progress Reached) Refused → Report ℕ
run_meaning = steps_meaning 7

unfoldable pub scale_meaning : Result (WithRounding Pattern) Refused → ScaleReport
scale_meaning (Ok a) = record { number = 0; value = joined a.value; says = a.says }
scale_meaning (Err r) = record { number = refusal_number r.why; value = joined r.value; says = Exact }

unfoldable pub split_meaning : Result Split Refused → SplitReport
split_meaning (Ok a) = record { number = 0; significand = joined a.significand; exponent = a.exponent }
split_meaning (Err r) = record { number = refusal_number r.why; significand = joined r.value; exponent = pos 0 }
