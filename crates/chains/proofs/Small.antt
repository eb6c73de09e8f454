-- What a step or a run reports fits where it is written: its value is an x87 pattern, an ordinary one, and its quotient is below the modulus.
-- Assumes nothing.
use mathlib.Core.Path.{◌≡◌, refl, subst}
use mathlib.Core.Bool.{Bool, true, false, not, cond}
use Prim.Native.Nat.{ℕ, ◌<◌}
use native.Mathlib.Nat.{mod-lt}
use lib.Dec.{lit<}
use Rattle.definitions.specs.Class.{Class, unsupported, nan, infinite, finite}
use Rattle.definitions.specs.Format.{Representable, class_of, pattern_of, patterns, ordinary, x87}
use Rattle.definitions.specs.Numbers.{first, accepted, is_zero}
use Rattle.definitions.specs.Remainder.{quotient_modulus, quotient_bits}
use Rattle.definitions.specs.Facts.{refused_value}
use Rattle.definitions.specs.declared.Kind.{Kind}
use Rattle.definitions.specs.Division.{Outcome, dividend_of, divisor_of}
use Rattle.definitions.specs.Steps.{run}
use Rattle.definitions.specs.Reports.{Report, Lent, sized, report_of, step_report, run_report}
use Rattle.laws.proofs.Regular.{regular80}
use Rattle.laws.proofs.Representable.{zero_held}
use Rattle.laws.proofs.RoundTrip.{read_held, read_holds}
use Rattle.laws.proofs.Results.{Result, result_small, result_ordinary, refused_result, value_result}
use Rattle.chains.proofs.Run.{run_one}
use Rattle.chains.proofs.Spent.{Judgement, refused, passed, numbered, result}
use Rattle.chains.proofs.Continued.{held}

pub record Small (r : Report ℕ) : Type 0 where
  pub value : r.value < patterns x87
  pub ordinary : ordinary x87 r.value ≡ true
  pub quotient : r.quotient < quotient_modulus

-- what is told of a quotient, and the 0 of a refusal
few : (t : Bool) (q : ℕ) → cond t (quotient_bits q) 0 < quotient_modulus
few true q = mod-lt q (lit< tt)
few false q = lit< tt

-- an answer of a representable value, and a refusal
of_result : (w n : ℕ) (r : Outcome) → Result x87 (report_of w n r).value → Small (report_of w n r)
of_result w n r k =
    record { value = result_small x87 regular80 k; ordinary = result_ordinary x87 regular80 k; quotient = few (accepted n) r.whole }

of_answer : (w n : ℕ) (r : Outcome) → Result x87 w → Representable x87 r.value.count → Small (report_of w n r)
of_answer w n r k h = of_result w n r (go (accepted n))
  where
    go : (t : Bool) → Result x87 (cond t (pattern_of x87 (finite r.value)) w)
    go true = value_result x87 r.value h
    go false = k

of_refusal : (w n : ℕ) (r : Outcome) → Result x87 w → accepted n ≡ false → Small (report_of w n r)
of_refusal w n r k e = of_result w n r (rw e k)

-- the dividend that an operand gives is representable
dividend_held : (x : ℕ) (X : Class) → class_of x87 x ≡ X → Representable x87 (dividend_of X).count
dividend_held x unsupported e = zero_held x87
dividend_held x (nan n s) e = zero_held x87
dividend_held x (infinite s) e = zero_held x87
dividend_held x (finite v) e = read_held x87 regular80 x v e

module _ (l : Lent) (κ : Kind) (n x y : ℕ) where
  -- whatever the number k of the outcome
  reply_small : (b k : ℕ) → let X = class_of x87 x in
      let Y = class_of x87 y in
      let m = numbered l n X Y k in
      Small (report_of (refused_value x87 m X Y) m (run κ n b (divisor_of Y) (dividend_of X)))
  reply_small b k = go (result l n X Y)
    where
      X : Class
      X = class_of x87 x

      Y : Class
      Y = class_of x87 y

      r : Outcome
      r = run κ n b (divisor_of Y) (dividend_of X)

      -- what a refusal by m returns
      value : (m : ℕ) → Result x87 (refused_value x87 m X Y)
      value m = refused_result x87 regular80 m X Y (read_holds x87 regular80 x) (read_holds x87 regular80 y)

      go : Judgement (not (sized n)) (is_zero Y) (numbered l n X Y) → Small (report_of (refused_value x87 (numbered l n X Y k) X Y) (numbered l n X Y k) r)
      go (refused q a o s e) = rw (e k) (of_refusal (refused_value x87 q X Y) q r (value q) a)
      go (passed i z e) = of_answer _ (numbered l n X Y k) r (value (numbered l n X Y k)) (held κ n b y Y (dividend_of X) refl z (dividend_held x X refl))

  pub run_small : (b : ℕ) → Small (run_report l κ n b x y)
  unfolding run_report first
  run_small b = reply_small b (cond (not (run κ n b (divisor_of (class_of x87 y)) (dividend_of (class_of x87 x))).done) 7 0)

  pub step_small : Small (step_report l κ n x y)
  unfolding step_report first
  step_small =
      subst (λ (r : Outcome). let m = numbered l n (class_of x87 x) (class_of x87 y) (cond (not r.done) 1 0) in Small (report_of (refused_value x87 m (class_of x87 x) (class_of x87 y)) m r))
      (run_one κ n (divisor_of (class_of x87 y)) (dividend_of (class_of x87 x)))
      (reply_small 1 (cond (not (run κ n 1 (divisor_of (class_of x87 y)) (dividend_of (class_of x87 x))).done) 1 0))
