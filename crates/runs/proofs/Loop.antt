-- One turn of a run. Assumes nothing.
use Rattle.std.specs.Prelude.{Option, None, Some}
use Rattle.std.proofs.Common.{◌≡◌, ℕ, zero, suc, ◌+◌, ◌-◌, ◌%◌, ◌^◌, ◌<◌, Bool, true, false, cond, sym, refl, ap, ◌∙◌, arith}
use Rattle.definitions.specs.declared.Progress.{Progress}
use Rattle.definitions.specs.declared.Progress.TheVariants.{Finished, Unfinished}
use Rattle.definitions.specs.Class.{Value, finite}
use Rattle.definitions.specs.Format.{Representable, x87}
use Rattle.definitions.specs.Division as division
use Rattle.definitions.specs.Division.{Outcome, finish}
use Rattle.definitions.specs.Steps.{step, run, followed}
use Rattle.definitions.specs.declared.Kind.{Kind}
use Rattle.chains.proofs.Answer.{run_held}
use Rattle.chains.proofs.Run.{run_next, run_stays, run_spent}
use Rattle.chains.proofs.Step.{step_one}
use Rattle.operands.specs.declared.Operand.{Operand}
use Rattle.operands.specs.declared.Unpacked.{Unpacked}
use Rattle.operands.specs.Operand.{operand_of, class_in, value_in, value_operand, divisor_in}
use Rattle.packing.specs.Stands.{StandsValue, StandsDivisor}
use Rattle.shapes.proofs.Sounds.{sound80}
use Rattle.packing.proofs.Standing.{unpacks, value_of, stands_value}
use Rattle.pairs.specs.Pair.{left_of}
use Rattle.pairs.specs.declared.Left.{Left}
use Rattle.partial.specs.Stepped.{stepped_of}
use Rattle.runs.specs.Ran.{ran_of, ran_in}
use Rattle.runs.specs.declared.Ran.{Ran}

-- what is told of a as finished, or as unfinished, is a, and tells which
module _ {A : Type 0} where
  finished_is : (d : Bool) (a b : A) → Finished b ≡ cond d (Finished a) (Unfinished a) → (d ≡ true) × (b ≡ a)
  finished_is true a b e = (refl, cc)
  finished_is false a b e = (cc, cc)

  unfinished_is : (d : Bool) (a b : A) → Unfinished b ≡ cond d (Finished a) (Unfinished a) → (d ≡ false) × (b ≡ a)
  unfinished_is true a b e = (cc, cc)
  unfinished_is false a b e = (refl, cc)

told_in : (d : Bool) (t : Ran) → ran_in (cond d (Finished t) (Unfinished t)) ≡ t
told_in true t = refl
told_in false t = refl

-- what the loop has reached from v by d after so many steps, none of which finished
pub record Reached (κ : Kind) (n : ℕ) (d : division.Divisor) (v : Value) (value : Operand) (quotient steps : ℕ) : Type 0 where
  pub going : (run κ n steps d v).done ≡ false
  pub is : value ≡ operand_of x87.smallest (finite (run κ n steps d v).value)
  pub taken : quotient ≡ (run κ n steps d v).whole % 2 ^ 32

-- two operands that stand for a value and a divisor, and steps of one kind and size
module _ (κ : Kind) (n : ℕ) (x : Operand) (sx : StandsValue x87 x) (y : Option Unpacked) (sy : StandsDivisor x87 y) where
  d : division.Divisor
  d = divisor_in x87.smallest y

  v : Value
  v = value_operand x87.smallest x

  -- the value of a run stays representable
  pub ran_held : (b : ℕ) → Representable x87 (run κ n b (divisor_in x87.smallest y) (value_operand x87.smallest x)).value.count
  unfolding run step finish class_in
  ran_held b = by y sy b
    where
      by : (z : Option Unpacked) → StandsDivisor x87 z → (b : ℕ) → Representable x87 (run κ n b (divisor_in x87.smallest z) (value_operand x87.smallest x)).value.count
      by None s zero = sx.held
      by None s (suc b) = sx.held
      by (Some u) s b = run_held x87 κ n b (value_in x87.smallest u).count (value_operand x87.smallest x) (unpacks x87 sound80 u s).some s.held sx.held

  -- what a run came to stands for its value
  pub ran_stands : (b : ℕ) (t : Progress Ran) → t ≡ ran_of (run κ n b (divisor_in x87.smallest y) (value_operand x87.smallest x)) → StandsValue x87 (ran_in t).value
  ran_stands b t e =
      stands_value x87 sound80 (run κ n b (divisor_in x87.smallest y) (value_operand x87.smallest x)).value (ran_in t).value (ran_held b)
      (ap (λ (r : Ran). r.value) (ap ran_in e ∙ told_in (run κ n b (divisor_in x87.smallest y) (value_operand x87.smallest x)).done _))

  pub reached_none : Reached κ n (divisor_in x87.smallest y) (value_operand x87.smallest x) x 0 0
  unfolding run
  reached_none = record { going = refl; is = sx.is; taken = refl }

  module _ (o : Operand) (q k : ℕ) (at : Reached κ n (divisor_in x87.smallest y) (value_operand x87.smallest x) o q k) where
    now : Outcome
    now = run κ n k d v

    pub reached_stands : StandsValue x87 o
    unfolding now d v
    reached_stands = stands_value x87 sound80 now.value o (ran_held k) at.is

    -- the step from there
    module _ (left : Left) where
      turn : Outcome
      turn = step κ n d now.value

      turn_is : (t : Progress Left) → t ≡ stepped_of (step κ n (divisor_in x87.smallest y) (value_operand x87.smallest o)) → t ≡ stepped_of turn
      unfolding turn now d v
      turn_is t e = e ∙ ap (λ (w : Value). stepped_of (step κ n d w)) (value_of x87 sound80 now.value o (ran_held k) at.is)

      next_is : run κ n (k + 1) d v ≡ followed now turn
      unfolding turn now d v
      next_is = run_next κ n k d v at.going

      value_next : left ≡ left_of x87.smallest turn → left.value ≡ operand_of x87.smallest (finite (run κ n (k + 1) d v).value)
      value_next e = ap (λ (l : Left). l.value) e ∙ sym (ap (λ (r : Outcome). operand_of x87.smallest (finite r.value)) next_is)

      quotient_next : left ≡ left_of x87.smallest turn → (q + left.quotient) % 2 ^ 32 ≡ (run κ n (k + 1) d v).whole % 2 ^ 32
      unfolding now d v
      quotient_next e =
          let a = at.taken in
          let b : left.quotient ≡ turn.whole % 2 ^ 32 = ap (λ (l : Left). l.quotient) e in
          (let c : (q + left.quotient) % 2 ^ 32 ≡ (now.whole + turn.whole) % 2 ^ 32 = omega arith in c) ∙ sym (ap (λ (r : Outcome). r.whole % 2 ^ 32) next_is)

      done_next : (t : Bool) → turn.done ≡ t → (run κ n (k + 1) d v).done ≡ t
      done_next t e = ap (λ (r : Outcome). r.done) next_is ∙ e

      steps_next : (run κ n (k + 1) d v).steps ≡ k + 1
      unfolding turn now d v
      steps_next = ap (λ (r : Outcome). r.steps) next_is ∙ (let a = run_spent κ n k d v at.going in let b = step_one κ n d now.value in omega arith)

      pub reached_next : Unfinished left ≡ stepped_of (step κ n (divisor_in x87.smallest y) (value_operand x87.smallest o))
          → Reached κ n (divisor_in x87.smallest y) (value_operand x87.smallest x) left.value ((q + left.quotient) % 2 ^ 32) (k + 1)
      unfolding d v
      reached_next e =
          let t = unfinished_is turn.done _ left (turn_is (Unfinished left) e) in
          record { going = done_next false t.0; is = value_next t.1; taken = quotient_next t.1 }

      pub reached_done : (budget : ℕ) → k < budget → Finished left ≡ stepped_of (step κ n (divisor_in x87.smallest y) (value_operand x87.smallest o))
          → Finished (record { value = left.value; quotient = (q + left.quotient) % 2 ^ 32; steps = k + 1 })
          ≡ ran_of (run κ n budget (divisor_in x87.smallest y) (value_operand x87.smallest x))
      unfolding d v
      reached_done budget l e =
          let t = finished_is turn.done _ left (turn_is (Finished left) e) in
          let f = done_next true t.0 in
          let c : k + 1 + (budget - (k + 1)) ≡ budget = omega arith in
          rw (← c, run_stays κ n (k + 1) (budget - (k + 1)) d v f, f)
          (λ i. Finished (record { value = value_next t.1 i; quotient = quotient_next t.1 i; steps = sym steps_next i }))

    pub reached_spent : Unfinished (record { value = o; quotient = q; steps = k }) ≡ ran_of (run κ n k (divisor_in x87.smallest y) (value_operand x87.smallest x))
    unfolding d v
    reached_spent = rw at.going (λ i. Unfinished (record { value = at.is i; quotient = at.taken i; steps = sym (run_spent κ n k d v at.going) i }))
