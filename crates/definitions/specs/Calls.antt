-- Lists of step and run calls from one dividend, and what is claimed of every such list. Definitions only.
use Rattle.std.specs.Prelude.{ℕ, ◌+◌, ◌%◌, ◌≤◌, ◌≡◌, Bool, true, false, cond, ◌&&◌, ◌||◌, ◌⊎◌, List, [], ◌∷◌, ◌++◌, eqb, length, nat_abs, ◌+ℤ◌, ◌*ℤ◌}
use Rattle.definitions.specs.Class.{Value, value_of, gap}
use Rattle.definitions.specs.Format.{class_of, ordinary, x87}
use Rattle.definitions.specs.Numbers.{accepted}
use Rattle.definitions.specs.Facts.{denormal, told_denormal}
use Rattle.definitions.specs.declared.Kind.{Kind}
use Rattle.definitions.specs.Division.{Divisor, by, dividend_of}
use Rattle.definitions.specs.Remainder.{remainder, quotient_modulus, quotient_bits}
use Rattle.definitions.specs.Steps.{Link, chain, parts_sum, most_steps}
use Rattle.definitions.specs.Reports.{Report, Lent, nothing, fitting, sized, step_report, run_report}

-- [5.1] a call of a list
pub data Call : Type 0 where
  step : (lent : Lent) (size : ℕ) → Call
  run : (lent : Lent) (size budget : ℕ) → Call

-- what a call answers on patterns: the reports that the contracts of step and run cite
unfoldable pub answer : Kind → ℕ → Call → ℕ → Report ℕ
unfolding step_report run_report
answer κ y (step l n) x = step_report l κ n x y
answer κ y (run l n b) x = run_report l κ n b x y

-- a call of a list, made: what it was handed, and what it answered. A is what a list hands on: in every claim a pattern
pub record Made (A : Type 0) : Type 0 where
  pub call : Call
  pub handed : A
  pub report : Report A

-- [5.3] what the next call is handed: a refused one leaves the value
abbrev pub next : {A : Type 0} → A → Report A → A
next x r = cond (accepted r.number) r.value x

-- [5.2, 5.4] the calls that a list makes, refused ones included, where `f` answers each: nothing is called after a 0
unfoldable pub made : {A : Type 0} → (Call → A → Report A) → List Call → A → List (Made A)
made f [] x = []
made f (c ∷ cs) x =
    let r = f c x in
    let ts = made f cs (next x r) in
    record { call = c; handed = x; report = r } ∷ cond (eqb r.number 0) [] ts

-- the accepted ones
unfoldable pub answers : {A : Type 0} → List (Made A) → List (Made A)
answers [] = []
answers (t ∷ ts) = cond (accepted t.report.number) (t ∷ answers ts) (answers ts)

-- whether there are any, said without that list
unfoldable pub any_accepted : {A : Type 0} → List (Made A) → Bool
any_accepted [] = false
any_accepted (t ∷ ts) = accepted t.report.number || any_accepted ts

-- what accepted calls come to: the last value and number; what is given first, where there are none
unfoldable pub last_value : {A : Type 0} → A → List (Made A) → A
last_value x [] = x
last_value x (t ∷ ts) = last_value t.report.value ts

unfoldable pub last_number : {A : Type 0} → ℕ → List (Made A) → ℕ
last_number n [] = n
last_number n (t ∷ ts) = last_number t.report.number ts

-- [5.4] a list has finished
unfoldable pub finished : {A : Type 0} → List (Made A) → Bool
finished [] = false
finished (t ∷ ts) = eqb t.report.number 0 || finished ts

-- [5.5] the steps and quotient bits of all calls
unfoldable pub total_steps : {A : Type 0} → List (Made A) → ℕ
total_steps [] = 0
total_steps (t ∷ ts) = t.report.steps + total_steps ts

unfoldable pub total_quotient : {A : Type 0} → List (Made A) → ℕ
total_quotient [] = 0
total_quotient (t ∷ ts) = (t.report.quotient + total_quotient ts) % quotient_modulus

-- [5.10] what accepted calls by y tell of denormal operands, joined: what the first of them tells, and no where there is none
unfoldable pub first_denormal : ℕ → List (Made ℕ) → Bool
unfolding denormal
first_denormal y [] = false
first_denormal y (t ∷ ts) = told_denormal x87 t.report.number t.handed y

-- the sum of the budgets of calls, a step being a budget of one
abbrev pub budget_of : Call → ℕ
budget_of (step l n) = 1
budget_of (run l n b) = b

unfoldable pub total_budget : {A : Type 0} → List (Made A) → ℕ
total_budget [] = 0
total_budget (t ∷ ts) = budget_of t.call + total_budget ts

-- [5.8] all calls are runs of the size n
abbrev pub IsRun : ℕ → Call → Type 0
IsRun n (step l k) = ⊥
IsRun n (run l k b) = k ≡ n

abbrev pub Runs : {A : Type 0} → ℕ → List (Made A) → Type 0
Runs n [] = Unit {0}
Runs n (t ∷ ts) = IsRun n t.call × Runs n ts

-- a list of calls that is not empty
abbrev pub Some : {A : Type 0} → List A → Type 0
Some [] = ⊥
Some (a ∷ l) = Unit {0}

-- What `made` is, as four rules and not as a function: the calls cs from x come to the calls ts. No call is left out, a refused one leaves the
-- value, an accepted one passes on its own, and nothing comes after a 0.
pub data Listed {A : Type 0} (f : Call → A → Report A) : A → List Call → List (Made A) → Type 0 where
  none : {x : A} → Listed f x [] []
  refused : {x : A} {c : Call} {cs : List Call} {ts : List (Made A)} → accepted (f c x).number ≡ false → Listed f x cs ts
      → Listed f x (c ∷ cs) (record { call = c; handed = x; report = f c x } ∷ ts)
  ends : {x : A} {c : Call} {cs : List Call} → (f c x).number ≡ 0 → Listed f x (c ∷ cs) (record { call = c; handed = x; report = f c x } ∷ [])
  goes_on : {x : A} {c : Call} {cs : List Call} {ts : List (Made A)} → accepted (f c x).number ≡ true → eqb (f c x).number 0 ≡ false → Listed f (f c x).value cs ts
      → Listed f x (c ∷ cs) (record { call = c; handed = x; report = f c x } ∷ ts)

-- [5.1] a call is one of step or run: its report is the one that their contracts cite
abbrev pub Reported : Kind → ℕ → Call → ℕ → Report ℕ → Type 0
Reported κ y (step l n) x r = r ≡ step_report l κ n x y
Reported κ y (run l n b) x r = r ≡ run_report l κ n b x y

-- [5.1] its block and its size alone get it refused
abbrev pub taken : Call → Bool
taken (step l n) = fitting l && sized n
taken (run l n b) = fitting l && sized n

-- [5.1, 5.3] an accepted step gives 0 or 1 and takes one step; an accepted run gives 0, or 7 and takes its whole budget
abbrev pub Gives : Call → Report ℕ → Type 0
Gives (step l n) r = ((r.number ≡ 0) ⊎ (r.number ≡ 1)) × (r.steps ≡ 1)
Gives (run l n b) r = (r.number ≡ 0) ⊎ ((r.number ≡ 7) × (r.steps ≡ b))

-- what is claimed of each call of a list
pub record EachCall (κ : Kind) (y : ℕ) (t : Made ℕ) : Type 0 where
  pub reported : Reported κ y t.call t.handed t.report
  pub taken : accepted t.report.number ≡ taken t.call
  pub gives : accepted t.report.number ≡ true → Gives t.call t.report
  -- [5.3] a refused one adds nothing
  pub adds : accepted t.report.number ≡ false → (t.report.steps ≡ 0) × (t.report.quotient ≡ 0)

abbrev pub All : {A : Type 0} → (A → Type 0) → List A → Type 0
All P [] = Unit {0}
All P (a ∷ l) = P a × All P l

-- the steps that an accepted call is made of, and those of a list, on the values that its patterns stand for
unfoldable pub call_chain : Kind → Divisor → Call → Value → List Link
unfolding chain
call_chain κ d (step l n) x = chain κ n 1 d x
call_chain κ d (run l n b) x = chain κ n b d x

unfoldable pub list_chain : {A : Type 0} → (A → Value) → Kind → Divisor → List (Made A) → List Link
unfolding call_chain
list_chain v κ d [] = []
list_chain v κ d (t ∷ ts) = call_chain κ d t.call (v t.handed) ++ list_chain v κ d ts

-- the value that an x87 pattern stands for
abbrev pub value_at : ℕ → Value
value_at x = dividend_of (class_of x87 x)

-- the steps of all accepted calls of a list by the divisor w
abbrev pub links : Kind → Value → List (Made ℕ) → List Link
links κ w ts = list_chain value_at κ (by w.count) (answers ts)

-- [5.9] what is claimed of every list cs of calls from the dividend x by the divisor y: v and w are their values, as the theorem asks, and
-- ts all calls made
pub record EveryList (κ : Kind) (x y : ℕ) (v w : Value) (cs : List Call) (ts : List (Made ℕ)) : Type 0 where
  -- [5.2, 5.3, 5.4] as four rules
  pub listed : Listed (answer κ y) x cs ts
  -- [5.1, 5.3]
  pub each : All (EachCall κ y) ts
  -- [4.6, 5.5] the steps are those of the chain
  pub counted : total_steps ts ≡ length (links κ w ts)
  -- [4.7, 5.5] the quotient bits are those of the sum of the exact parts, whether the list has finished or not
  pub bits : total_quotient ts ≡ quotient_bits (nat_abs (parts_sum w (links κ w ts)))
  -- [5.4] it has finished if its last accepted call gave 0
  pub closed : finished ts ≡ eqb (last_number 7 (answers ts)) 0
  -- [5.6]
  pub bound : total_steps ts ≤ most_steps (gap v.count w.count)
  pub ends : most_steps (gap v.count w.count) ≤ total_steps ts → finished ts ≡ true
  -- [5.7]
  pub whole : finished ts ≡ true → remainder x87 κ x y ≡ record { number = 0; value = last_value x (answers ts); quotient = total_quotient ts }
  -- [5.2, 2.10] the last value is the dividend as it was given where no call was accepted, and else an ordinary pattern
  pub given : any_accepted ts ≡ false → last_value x (answers ts) ≡ x
  pub returned : any_accepted ts ≡ true → ordinary x87 (last_value x (answers ts)) ≡ true
  -- [5.10] what is told of denormal operands is what the remainder in one call (whole) and one run (one) tell of the dividend as it was given
  pub denormal : any_accepted ts ≡ true → first_denormal y (answers ts) ≡ told_denormal x87 (last_number 7 (answers ts)) x y
  pub untold : any_accepted ts ≡ false → first_denormal y (answers ts) ≡ false
  -- [4.10]
  pub exact : value_of v ≡ value_of (value_at (last_value x (answers ts))) +ℤ value_of w *ℤ parts_sum w (links κ w ts)
  -- [5.8]
  pub one : (n : ℕ) → Runs n (answers ts) → Some (answers ts) → run_report nothing κ n (total_budget (answers ts)) x y
      ≡ record { number = last_number 7 (answers ts); value = last_value x (answers ts); quotient = total_quotient ts; steps = total_steps ts }
