-- The remainder of two values, on counts of their common smallest place. Definitions only.
use Rattle.std.specs.Prelude.{ℕ, ◌+◌, ◌-◌, ◌*◌, ◌/◌, ◌%◌, Bool, true, false, not, cond, ◌&&◌, ◌||◌, ltb, eqb}
use Rattle.definitions.specs.Class.{Value, Class, unsupported, nan, infinite, finite}
use Rattle.definitions.specs.declared.Kind.{Kind}
use Rattle.definitions.specs.declared.Kind.TheVariants.{Truncated, Nearest}

-- what a remainder, a step or a run comes to: whether it finished, its value, the whole quotient taken, exact, and the number of steps
pub record Outcome : Type 0 where
  pub done : Bool
  pub value : Value
  pub whole : ℕ
  pub steps : ℕ

-- the count of a finite divisor; an infinite one has none
pub data Divisor : Type 0 where
  unbounded : Divisor
  by : ℕ → Divisor

-- [3.2] whether the quotient q with the left-over r goes up
abbrev pub rounds_up : Kind → ℕ → ℕ → ℕ → Bool
rounds_up Truncated q r m = false
rounds_up Nearest q r m = ltb m (2 * r) || (eqb m (2 * r) && eqb (q % 2) 1)

-- [3.1, 3.3, 3.5] the remainder by the count m: where the quotient goes up, what is missing to m, with the other sign
unfoldable pub finish_by : Kind → ℕ → Value → Outcome
finish_by κ m x =
    let q = x.count / m in
    let r = x.count % m in
    let up = rounds_up κ q r m in
    record {
      done = true;
      value = record { negative = cond up (not x.negative) x.negative; count = cond up (m - r) r };
      whole = cond up (q + 1) q;
      steps = 1;
    }

-- [3.7] an infinite divisor leaves x
unfoldable pub finish : Kind → Divisor → Value → Outcome
unfolding finish_by
finish κ unbounded x = record { done = true; value = x; whole = 0; steps = 1 }
finish κ (by m) x = finish_by κ m x

-- the operands of an accepted call; of a refused one they are not looked at
abbrev pub dividend_of : Class → Value
dividend_of unsupported = record { negative = false; count = 0 }
dividend_of (nan n s) = record { negative = false; count = 0 }
dividend_of (infinite n) = record { negative = false; count = 0 }
dividend_of (finite v) = v

abbrev pub divisor_of : Class → Divisor
divisor_of unsupported = unbounded
divisor_of (nan n s) = unbounded
divisor_of (infinite n) = unbounded
divisor_of (finite v) = by v.count
