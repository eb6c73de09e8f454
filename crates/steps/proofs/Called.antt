-- What a call reports, by what its checks come to: a refusal, or its run written down. Assumes nothing.
use Rattle.std.specs.Prelude.{Err}
use mathlib.Core.Path.{◌≡◌, sym, ap, ◌∙◌}
use mathlib.Core.Bool.{Bool, true, false, not, cond}
use mathlib.Core.List.{List, ◌++◌}
use Prim.Native.Nat.{ℕ, ◌%◌, ◌^◌}
use borrow.Author.Tests.{not-false}
use lib.Dec.{eqb, lit<}
use Rattle.definitions.specs.Class.{Class, finite}
use Rattle.definitions.specs.Format.{Representable, x87, class_of, pattern_of}
use Rattle.definitions.specs.Numbers.{Check, first, accepted, dividing}
use Rattle.definitions.specs.Facts.{refused_value}
use Rattle.definitions.specs.Division.{Outcome, dividend_of, divisor_of}
use Rattle.definitions.specs.Remainder.{quotient_bits}
use Rattle.definitions.specs.Steps.{run}
use Rattle.definitions.specs.Reports.{Report, nothing, sized, calling, report_of, step_report, run_report}
use Rattle.definitions.specs.Answers.{refusal_number, steps_meaning, joined}
use Rattle.definitions.specs.declared.Kind.{Kind}
use Rattle.definitions.specs.declared.Refusal.{Refusal}
use Rattle.definitions.specs.declared.Refused.{Refused}
use Rattle.definitions.specs.declared.Progress.{Progress}
use Rattle.definitions.specs.declared.Progress.TheVariants.{Finished, Unfinished}
use Rattle.laws.proofs.Refusals.{refusal_refuses}
use Rattle.chains.proofs.Run.{run_one}
use Rattle.chains.proofs.Spent.{Judgement, refused, passed, refusal, numbered, result}
use Rattle.checks.proofs.Judged.{AcceptedPair, refusal_some, passes, accepted_pair}
use Rattle.operands.specs.declared.Operand.{Operand}
use Rattle.operands.specs.Operand.{operand_of, class_in, value_operand, divisor_operand, divisor_in}
use Rattle.packing.specs.Stands.{Stands, StandsValue, StandsDivisor}
use Rattle.shapes.proofs.Sounds.{sound80}
use Rattle.packing.proofs.Standing.{class_of_lem, stands_finite, class_pattern, divisor_stands, divisor_is}
use Rattle.quotients.proofs.Bits.{bits_low}
use Rattle.runs.specs.Ran.{ran_of, ran_in}
use Rattle.steps.specs.Called.{ran_report, call_report}
use Rattle.runs.specs.declared.Ran.{Ran}
use Rattle.runs.proofs.Loop.{ran_held, ran_stands}

-- ---- the size

-- a wrong size has the number 6 whatever is checked after it, and a right one leaves the number to that
module _ (n : ℕ) (cs : List Check) where
  pub missized : sized n ≡ false → first (calling nothing n ++ cs) ≡ 6
  unfolding first
  missized e = rw e

  pub right_sized : sized n ≡ true → first (calling nothing n ++ cs) ≡ first cs
  unfolding first
  right_sized e = rw e

-- ---- the report

-- the checks of the size and the operands decide, unless their number is 0: then it is k, which says how the call ended
ended : (n : ℕ) (a b : Class) (k : ℕ) → numbered nothing n a b k ≡ cond (eqb (refusal nothing n a b) 0) k (refusal nothing n a b)
unfolding first
ended n a b k = go (result nothing n a b)
  where
    go : {i z : Bool} {number : ℕ → ℕ} → Judgement i z number → number k ≡ cond (eqb (number 0) 0) k (number 0)
    go (refused r f o s e) = rw (e k, e 0, o)
    go (passed i z e) = rw (e k, e 0)

module _ (u : ℕ) (κ : Kind) (n budget : ℕ) (a b : Class) where
  outcome : Outcome
  outcome = run κ n budget (divisor_of b) (dividend_of a)

  pub refused_call : (w : Refusal) (r : Refused) → refusal_number w ≡ refusal nothing n a b → r.why ≡ w → joined r.value ≡ refused_value x87 (refusal_number w) a b
      → steps_meaning u (Err r) ≡ call_report u κ n budget a b
  unfolding first steps_meaning outcome
  refused_call w r e h i = rw (h, ended n a b (cond (not outcome.done) u 0), ← e, refusal_some w, refusal_refuses w, ← i)

  -- an accepted call's run, written down
  pub accepted_call : accepted u ≡ true → refusal nothing n a b ≡ 0 → (t : Progress Ran) → t ≡ ran_of (run κ n budget (divisor_of b) (dividend_of a))
      → Representable x87 (run κ n budget (divisor_of b) (dividend_of a)).value.count → ran_report u t ≡ call_report u κ n budget a b
  unfolding first outcome
  accepted_call ok e t i h =
      ap (ran_report u) i ∙ go outcome.done
      ∙ sym (ap (λ (k : ℕ). report_of (refused_value x87 k a b) k outcome) (ended n a b (cond (not outcome.done) u 0) ∙ rw e))
    where
      left : Ran
      left = record { value = operand_of x87.smallest (finite outcome.value); quotient = outcome.whole % 2 ^ 32; steps = outcome.steps }

      written : (k : ℕ) → ◌≡◌ {A = Report ℕ}
          (record { number = k; value = pattern_of x87 (class_in x87.smallest left.value); quotient = quotient_bits left.quotient; steps = outcome.steps })
          (record { number = k; value = pattern_of x87 (finite outcome.value); quotient = quotient_bits outcome.whole; steps = outcome.steps })
      written k = λ j. record { number = k; value = pattern_of x87 (class_of_lem x87 sound80 (finite outcome.value) h j); quotient = bits_low outcome.whole j; steps = outcome.steps }

      go : (d : Bool) → ran_report u (cond d (Finished left) (Unfinished left)) ≡ (let k = cond (not d) u 0 in report_of (refused_value x87 k a b) k outcome)
      go true = written 0
      go false = rw ok (written u)

-- ---- what stands for the operands of an accepted call

module _ (x y : Operand) (sx : Stands x87 x) (sy : Stands x87 y) (n : ℕ) (none : 0 ≡ refusal nothing n (class_in x87.smallest x) (class_in x87.smallest y)) where
  right : (not (sized n) ≡ false) × (first (dividing (class_in x87.smallest x) (class_in x87.smallest y)) ≡ 0)
  right = passes _ _ (lit< tt) (passes _ _ (lit< tt) (sym none)).1

  pair : AcceptedPair (class_in x87.smallest x) (class_in x87.smallest y)
  pair = accepted_pair (class_in x87.smallest y) (class_in x87.smallest x) right.1

  -- they are what a run asks for
  pub ready_call : StandsValue x87 x × StandsDivisor x87 (divisor_operand y) × (sized n ≡ true)
  ready_call = (stands_finite x87 sound80 pair.value x sx pair.dividend, divisor_stands x87 sound80 y sy, not-false (sized n) right.0)

  module _ (κ : Kind) (budget : ℕ) (t : Progress Ran) (ran : t ≡ ran_of (run κ n budget (divisor_in x87.smallest (divisor_operand y)) (value_operand x87.smallest x))) where
    -- what the run leaves can be written down
    pub ran_writable : StandsValue x87 (ran_in t).value
    ran_writable = ran_stands κ n x ready_call.0 (divisor_operand y) ready_call.1 budget t ran

    pub ran_call : (u : ℕ) → accepted u ≡ true → ran_report u t ≡ call_report u κ n budget (class_in x87.smallest x) (class_in x87.smallest y)
    ran_call u ok =
        let z = divisor_is x87 sound80 y pair.divisor.not_zero in
        accepted_call u κ n budget (class_in x87.smallest x) (class_in x87.smallest y) ok (sym none) t (rw z at ran)
        (rw z at (ran_held κ n x ready_call.0 (divisor_operand y) ready_call.1 budget))

-- ---- patterns, and the operands that they stand for

module _ (i j : ℕ) (x y : Operand) (ex : x ≡ operand_of x87.smallest (class_of x87 i)) (ey : y ≡ operand_of x87.smallest (class_of x87 j)) where
  of_patterns : (u : ℕ) (κ : Kind) (n budget : ℕ) → call_report u κ n budget (class_in x87.smallest x) (class_in x87.smallest y) ≡ call_report u κ n budget (class_of x87 i) (class_of x87 j)
  of_patterns u κ n budget = λ k. call_report u κ n budget (class_pattern x87 sound80 i x ex k) (class_pattern x87 sound80 j y ey k)

  -- a step is a run of budget one, and 1 is its number if it does not finish
  pub step_report_lem : (κ : Kind) (n : ℕ) → call_report 1 κ n 1 (class_in x87.smallest x) (class_in x87.smallest y) ≡ step_report nothing κ n i j
  unfolding step_report
  step_report_lem κ n = of_patterns 1 κ n 1 ∙ rw (run_one κ n (divisor_of (class_of x87 j)) (dividend_of (class_of x87 i)))

  -- a run's is 7
  pub run_report_lem : (κ : Kind) (n budget : ℕ) → call_report 7 κ n budget (class_in x87.smallest x) (class_in x87.smallest y) ≡ run_report nothing κ n budget i j
  unfolding run_report
  run_report_lem κ n budget = of_patterns 7 κ n budget
