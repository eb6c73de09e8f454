-- The step of a size, the run with a budget, and the chain of steps, on counts. Definitions only.
use Rattle.std.specs.Prelude.{ℕ, zero, suc, ◌+◌, ◌-◌, ◌*◌, ◌/◌, ◌%◌, ◌^◌, Bool, false, not, cond, List, [], ◌∷◌, eqb, ℤ, pos, nat_abs, ◌+ℤ◌}
use Rattle.std.specs.Int.Signed.{lt_z}
use Rattle.definitions.specs.Class.{Value, gap, signed, combined}
use Rattle.definitions.specs.declared.Kind.{Kind}
use Rattle.definitions.specs.Division.{Outcome, Divisor, unbounded, by, finish, finish_by}

-- [4.2] a step of this gap finishes
abbrev pub near : ℤ → Bool
near D = lt_z D (pos 64)

-- [4.3, 4.4, 4.5] a partial step, with j = D − n: QQ is x / (m · 2^j), cut, whatever the kind, and the value keeps the sign of x
unfoldable pub cut_at : ℕ → ℕ → Value → Outcome
cut_at j m x =
    record {
      done = false;
      value = record { negative = x.negative; count = x.count % (m * 2 ^ j) };
      whole = x.count / (m * 2 ^ j) * 2 ^ j;
      steps = 1;
    }

-- the size that a partial step of a call of size n uses: n itself, whatever D is. A definition of its own, so that a rule on D has one place
abbrev pub used_size : ℤ → ℕ → ℕ
used_size D n = n

unfoldable pub step_by : Kind → ℕ → ℕ → Value → Outcome
unfolding finish_by cut_at
step_by κ n m x =
    let D = gap x.count m in
    let f = finish_by κ m x in
    let c = cut_at (nat_abs D - used_size D n) m x in
    cond (near D) f c

-- [4.1, 3.7] an infinite divisor finishes in one step
unfoldable pub step : Kind → ℕ → Divisor → Value → Outcome
unfolding step_by finish
step κ n unbounded x = finish κ unbounded x
step κ n (by m) x = step_by κ n m x

-- [4.7] r, and then s from r's value: quotient parts and steps add up
abbrev pub followed : Outcome → Outcome → Outcome
followed r s = record { done = s.done; value = s.value; whole = r.whole + s.whole; steps = r.steps + s.steps }

-- [4.6] a run ends at the first step that finishes, or when the budget is spent
unfoldable pub run : Kind → ℕ → ℕ → Divisor → Value → Outcome
unfolding step
run κ n zero d x = record { done = false; value = x; whole = 0; steps = 0 }
run κ n (suc b) d x =
    let s = step κ n d x in
    let r = followed s (run κ n b d s.value) in
    cond s.done s r

-- one step of a chain: its dividend, and what it came to
pub record Link : Type 0 where
  pub dividend : Value
  pub outcome : Outcome

-- the steps that a run takes, in order
unfoldable pub chain : Kind → ℕ → ℕ → Divisor → Value → List Link
unfolding step
chain κ n zero d x = []
chain κ n (suc b) d x =
    let s = step κ n d x in
    let ls = chain κ n b d s.value in
    record { dividend = x; outcome = s } ∷ cond s.done [] ls

-- [4.10] the sum of the exact parts of a chain by the divisor y, each with the sign of its step
abbrev pub signed_part : Value → Link → ℤ
signed_part y l = signed (combined l.dividend.negative y.negative) l.outcome.whole

unfoldable pub parts_sum : Value → List Link → ℤ
parts_sum y [] = pos 0
parts_sum y (l ∷ ls) = signed_part y l +ℤ parts_sum y ls

-- [5.6] the most steps that any list takes
abbrev pub most_steps : ℤ → ℕ
most_steps D = cond (near D) 1 (nat_abs D / 32)

-- how many steps of the size n the chain needs to finish; by `most_steps` that budget is enough
unfoldable pub needed : Kind → ℕ → ℕ → Value → ℕ
unfolding run
needed κ n m x = (run κ n (most_steps (gap x.count m)) (by m) x).steps

-- [4.11] the flags of a step
pub record Flags : Type 0 where
  pub c0 : Bool
  pub c1 : Bool
  pub c2 : Bool
  pub c3 : Bool

abbrev pub flags_of : Outcome → Flags
flags_of r =
    record {
      c0 = eqb (r.whole / 4 % 2) 1;
      c1 = eqb (r.whole % 2) 1;
      c2 = not r.done;
      c3 = eqb (r.whole / 2 % 2) 1;
    }
