-- What a step and a run on x87 patterns report. Definitions only.
use Rattle.std.specs.Prelude.{ℕ, Bool, true, not, cond, ◌&&◌, List, [], ◌∷◌, ◌++◌, leb, eqb}
use Rattle.definitions.specs.Class.{Class, finite}
use Rattle.definitions.specs.Format.{class_of, pattern_of, x87}
use Rattle.definitions.specs.Numbers.{Check, check, first, accepted, dividing}
use Rattle.definitions.specs.Facts.{refused_value}
use Rattle.definitions.specs.declared.Kind.{Kind}
use Rattle.definitions.specs.Division.{Outcome, dividend_of, divisor_of}
use Rattle.definitions.specs.Remainder.{quotient_bits}
use Rattle.definitions.specs.Steps.{step, run}

-- what a call says: its number, its value, the quotient bits and the steps
pub record Report (A : Type 0) : Type 0 where
  pub number : ℕ
  pub value : A
  pub quotient : ℕ
  pub steps : ℕ

-- a call of the library lends nothing; an exported one lends an answer block of some length
pub data Lent : Type 0 where
  nothing : Lent
  block : (length : ℕ) → Lent

abbrev pub block_length : ℕ
block_length = 20

abbrev pub fitting : Lent → Bool
fitting nothing = true
fitting (block l) = eqb l block_length

-- [4.1] a right size
abbrev pub sized : ℕ → Bool
sized n = leb 32 n && leb n 63

-- what a call of size n that lends l looks at before its operands
abbrev pub calling : Lent → ℕ → List Check
calling l n = check 9 (not (fitting l)) ∷ check 6 (not (sized n)) ∷ []

-- the checks of a step, and of a run, on operands x and y; the last says how it ended
abbrev pub stepping : Lent → ℕ → Class → Class → Bool → List Check
stepping l n x y partial = calling l n ++ (dividing x y ++ (check 1 partial ∷ []))

abbrev pub running : Lent → ℕ → Class → Class → Bool → List Check
running l n x y spent = calling l n ++ (dividing x y ++ (check 7 spent ∷ []))

-- [7.1, 7.5] a refusal returns w and has no quotient bits and no steps
abbrev pub report_of : ℕ → ℕ → Outcome → Report ℕ
report_of w n r =
    record {
      number = n;
      value = cond (accepted n) (pattern_of x87 (finite r.value)) w;
      quotient = cond (accepted n) (quotient_bits r.whole) 0;
      steps = cond (accepted n) r.steps 0;
    }

abbrev step_outcome : Kind → ℕ → Class → Class → Outcome
step_outcome κ n x y = step κ n (divisor_of y) (dividend_of x)

abbrev run_outcome : Kind → ℕ → ℕ → Class → Class → Outcome
run_outcome κ n b x y = run κ n b (divisor_of y) (dividend_of x)

-- [4.1] a step of size n on the patterns x and y
unfoldable pub step_report : Lent → Kind → ℕ → ℕ → ℕ → Report ℕ
unfolding first refused_value
step_report l κ n x y =
    let a = class_of x87 x in
    let b = class_of x87 y in
    let r = step_outcome κ n a b in
    let k = first (stepping l n a b (not r.done)) in
    report_of (refused_value x87 k a b) k r

-- [4.6, 4.8] a run of size n with a budget
unfoldable pub run_report : Lent → Kind → ℕ → ℕ → ℕ → ℕ → Report ℕ
unfolding first refused_value
run_report l κ n budget x y =
    let a = class_of x87 x in
    let b = class_of x87 y in
    let r = run_outcome κ n budget a b in
    let k = first (running l n a b (not r.done)) in
    report_of (refused_value x87 k a b) k r
