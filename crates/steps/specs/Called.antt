-- What a call reports. Nothing to believe: these only name the code's own values.
use Rattle.std.specs.Prelude.{ℕ, not, [], ◌∷◌, ◌++◌}
use Rattle.definitions.specs.declared.Progress.{Progress}
use Rattle.definitions.specs.declared.Progress.TheVariants.{Finished, Unfinished}
use Rattle.definitions.specs.Class.{Class}
use Rattle.definitions.specs.Format.{x87, pattern_of}
use Rattle.definitions.specs.Numbers.{check, first, dividing}
use Rattle.definitions.specs.Facts.{refused_value}
use Rattle.definitions.specs.Division.{dividend_of, divisor_of}
use Rattle.definitions.specs.Remainder.{quotient_bits}
use Rattle.definitions.specs.Steps.{run}
use Rattle.definitions.specs.Reports.{Report, nothing, calling, report_of}
use Rattle.definitions.specs.declared.Kind.{Kind}
use Rattle.operands.specs.Operand.{class_in}
use Rattle.runs.specs.Ran.{ran_in}
use Rattle.runs.specs.declared.Ran.{Ran}

-- a run's number, where that of an unfinished one is u
abbrev pub ran_number : ℕ → Progress Ran → ℕ
ran_number u (Finished t) = 0
ran_number u (Unfinished t) = u

-- the same, written down
abbrev pub ran_report : ℕ → Progress Ran → Report ℕ
ran_report u r =
    let t = ran_in r in
    record {
      number = ran_number u r;
      value = pattern_of x87 (class_in x87.smallest t.value);
      quotient = quotient_bits t.quotient;
      steps = t.steps;
    }

-- a call on what x and y stand for, where an unfinished one has the number u: `step_report` and `run_report` are its two cases
abbrev pub call_report : ℕ → Kind → ℕ → ℕ → Class → Class → Report ℕ
call_report u κ n b x y =
    let r = run κ n b (divisor_of y) (dividend_of x) in
    let k = first (calling nothing n ++ (dividing x y ++ (check u (not r.done) ∷ []))) in
    report_of (refused_value x87 k x y) k r
