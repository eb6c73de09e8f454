-- The answers of step and run on x87 patterns: their numbers, what is claimed of each, and what an accepted one tells. Assumes nothing.
use mathlib.Core.Path.{◌≡◌, refl, sym, ap, ◌∙◌, subst}
use mathlib.Core.Bool.{Bool, true, false, not, cond, ◌&&◌}
use mathlib.Core.Logic.{◌⊎◌, inl, inr, ⊎_elim}
use mathlib.Core.List.{[], ◌∷◌, ◌++◌}
use Prim.Native.Nat.{ℕ, zero, suc, ◌<◌}
use Rattle.digits.proofs.Tests.{clash, not_zero}
use Rattle.definitions.specs.Class.{Value, finite}
use Rattle.definitions.specs.Format.{Format, Representable, class_of, pattern_of, ordinary, x87}
use Rattle.definitions.specs.Numbers.{check, first, accepted, dividing}
use Rattle.definitions.specs.Facts.{refused_value}
use Rattle.definitions.specs.declared.Kind.{Kind}
use Rattle.definitions.specs.Division.{Outcome, by, finish, dividend_of, divisor_of}
use Rattle.definitions.specs.Steps as Steps
use Rattle.definitions.specs.Steps.{followed}
use Rattle.definitions.specs.Reports.{Report, Lent, fitting, sized, calling, report_of, step_report, run_report}
use Rattle.definitions.specs.Calls.{Call, step, run, answer, budget_of, taken, Gives, EachCall, value_at}
use Rattle.laws.proofs.Regular.{regular80}
use Rattle.laws.proofs.RoundTrip.{read_written, read_held, pattern_ordinary}
use Rattle.laws.proofs.Division.{cut_held, finish_held}
use Rattle.chains.proofs.Step.{step_cases, step_one}
use Rattle.chains.proofs.Run.{run_one}
use Rattle.chains.proofs.Spent.{Judgement, refused, passed, result, run_report_spent}
use Rattle.chains.proofs.Lists.{size_of, open_number, call_outcome, Tells, Telling}

abbrev pub lent_of : Call → Lent
lent_of (step l n) = l
lent_of (run l n b) = l

-- the number of a call c on two finite operands, the divisor not zero, where d says whether its outcome has finished
abbrev pub call_number : Call → Bool → ℕ
call_number c d = cond (fitting (lent_of c)) (cond (sized (size_of c)) (cond d 0 (open_number c)) 6) 9

number_finite : (l : Lent) (n : ℕ) (v w : Value) (u : ℕ) (t : Bool) → 0 < w.count
    → first (calling l n ++ (dividing (finite v) (finite w) ++ (check u t ∷ []))) ≡ cond (fitting l) (cond (sized n) (cond t u 0) 6) 9
unfolding first
number_finite l n v w u t h = rw (not_zero w.count h) (go (fitting l) (sized n))
  where
    go : (f g : Bool) → ◌≡◌ {A = ℕ} (cond (not f) 9 (cond (not g) 6 (cond t u 0))) (cond f (cond g (cond t u 0) 6) 9)
    go true true = refl
    go true false = refl
    go false g = refl

cond_not : (d : Bool) (k : ℕ) → cond (not d) k 0 ≡ cond d 0 k
cond_not true k = refl
cond_not false k = refl

pub answer_is : (κ : Kind) (c : Call) (x y : ℕ) (v w : Value) → class_of x87 x ≡ finite v → class_of x87 y ≡ finite w → 0 < w.count
    → let n = call_number c (call_outcome κ w.count c v).done in answer κ y c x ≡ report_of (refused_value x87 n (finite v) (finite w)) n (call_outcome κ w.count c v)
unfolding answer step_report run_report
answer_is κ (step l n) x y v w ex ey p =
    rw (ex, ey, run_one κ n (by w.count) v, number_finite l n v w 1 (not (Steps.step κ n (by w.count) v).done) p, cond_not)
answer_is κ (run l n b) x y v w ex ey p =
    rw (ex, ey, number_finite l n v w 7 (not (Steps.run κ n b (by w.count) v).done) p, cond_not)

-- so that its block and its size alone get it refused: 0 is accepted, and so is the number u of what has not finished
both_accepted : (f s d : Bool) (u : ℕ) → accepted u ≡ true → accepted (cond f (cond s (cond d 0 u) 6) 9) ≡ f && s
both_accepted true true true u e = refl
both_accepted true true false u e = e
both_accepted true false d u e = refl
both_accepted false s d u e = refl

number_taken : (c : Call) (d : Bool) → accepted (call_number c d) ≡ taken c
number_taken (step l n) d = both_accepted (fitting l) (sized n) d 1 refl
number_taken (run l n b) d = both_accepted (fitting l) (sized n) d 7 refl

-- an accepted number is 0, or the u of an outcome that has not finished
number_given : {i z : Bool} {number : ℕ → ℕ} (u : ℕ) (d : Bool) → Judgement i z number → accepted (number (cond (not d) u 0)) ≡ true
    → (number (cond (not d) u 0) ≡ 0) ⊎ (number (cond (not d) u 0) ≡ u)
number_given u d (refused r a o s e) h = let f = sym (ap accepted (e (cond (not d) u 0))) ∙ h in clash (cc)
number_given u true (passed i z e) h = inl (e 0)
number_given u false (passed i z e) h = inr (e u)

-- [5.1, 5.3] what an accepted call gives, on all patterns
pub answer_gives : (κ : Kind) (y : ℕ) (c : Call) (x : ℕ) → accepted (answer κ y c x).number ≡ true → Gives c (answer κ y c x)
unfolding answer step_report run_report first
answer_gives κ y (step l n) x e =
    let X = class_of x87 x in
    let Y = class_of x87 y in
    (number_given 1 (Steps.step κ n (divisor_of Y) (dividend_of X)).done (result l n X Y) e, rw e (step_one κ n (divisor_of Y) (dividend_of X)))
answer_gives κ y (run l n b) x e =
    let X = class_of x87 x in
    let Y = class_of x87 y in
    ⊎_elim inl (λ s. inr (s, run_report_spent l κ n b x y s)) (number_given 7 (Steps.run κ n b (divisor_of Y) (dividend_of X)).done (result l n X Y) e)

-- ---- values stay representable, so that a pattern is read as the value that was written

pub step_held : (f : Format) (κ : Kind) (n m : ℕ) (x : Value) → 0 < m → Representable f m → Representable f x.count → Representable f (Steps.step κ n (by m) x).value.count
unfolding finish
step_held f κ n m x p hm hx =
    step_cases (λ r. Representable f r.value.count) κ n m x (λ e. finish_held f κ m x p hm hx) (λ e q l j i. cut_held f j m x p hm hx)

pub run_held : (f : Format) (κ : Kind) (n b m : ℕ) (x : Value) → 0 < m → Representable f m → Representable f x.count → Representable f (Steps.run κ n b (by m) x).value.count
unfolding Steps.run
run_held f κ n zero m x p hm hx = hx
run_held f κ n (suc b) m x p hm hx = go s.done (step_held f κ n m x p hm hx) (run_held f κ n b m s.value p hm)
  where
    s : Outcome
    s = Steps.step κ n (by m) x

    r : Outcome
    r = Steps.run κ n b (by m) s.value

    go : (t : Bool) → Representable f s.value.count → (Representable f s.value.count → Representable f r.value.count) → Representable f (cond t s (followed s r)).value.count
    go true h k = h
    go false h k = k h

-- a state of a list: a pattern that stands for a value
abbrev pub State : ℕ → Type 0
State x = class_of x87 x ≡ finite (value_at x)

pub read_state : (x : ℕ) (v : Value) → class_of x87 x ≡ finite v → State x
read_state x v e = e ∙ ap finite (sym (ap dividend_of e))

-- what a call returns is the ordinary pattern of a value
pub record Returned (x : ℕ) : Type 0 where
  pub state : State x
  pub pattern : pattern_of x87 (finite (value_at x)) ≡ x
  pub ordinary : ordinary x87 x ≡ true

value_back : (v : Value) → Representable x87 v.count → value_at (pattern_of x87 (finite v)) ≡ v
value_back v h = ap dividend_of (read_written x87 regular80 v h)

value_returned : (v : Value) → Representable x87 v.count → Returned (pattern_of x87 (finite v))
value_returned v h =
    record {
      state = read_state (pattern_of x87 (finite v)) v (read_written x87 regular80 v h);
      pattern = ap (λ (u : Value). pattern_of x87 (finite u)) (value_back v h);
      ordinary = pattern_ordinary x87 regular80 v h;
    }

-- ---- what an accepted call tells

module _ (κ : Kind) (m : ℕ) (p : 0 < m) (hm : Representable x87 m) (c : Call) (x : ℕ) (h : State x) where
  outcome : Outcome
  outcome = call_outcome κ m c (value_at x)

  reached : Representable x87 outcome.value.count
  unfolding outcome
  reached = run_held x87 κ (size_of c) (budget_of c) m (value_at x) p hm (read_held x87 regular80 x (value_at x) h)

  report_tells : (u n : ℕ) → sized (size_of c) ≡ true → n ≡ cond outcome.done 0 (open_number c) → accepted n ≡ true
      → Tells value_at κ m c x (report_of u n outcome) × Returned (report_of u n outcome).value
  unfolding outcome
  report_tells u n z e a =
      rw a (record { size = z; number = e; reached = value_back outcome.value reached; quotient = refl; steps = refl }, value_returned outcome.value reached)

  number_tells : (u : ℕ) (f s : Bool) → sized (size_of c) ≡ s → let n = cond f (cond s (cond outcome.done 0 (open_number c)) 6) 9 in
      accepted n ≡ true → Tells value_at κ m c x (report_of u n outcome) × Returned (report_of u n outcome).value
  number_tells u true true z a = report_tells u (cond outcome.done 0 (open_number c)) z refl a
  number_tells u true false z a = clash (cc)
  number_tells u false s z a = clash (cc)

module _ (κ : Kind) (y : ℕ) (w : Value) (ey : class_of x87 y ≡ finite w) (p : 0 < w.count) where
  told : (c : Call) (x : ℕ) → State x → accepted (answer κ y c x).number ≡ true → Tells value_at κ w.count c x (answer κ y c x) × Returned (answer κ y c x).value
  unfolding outcome
  told c x h =
      subst (λ (r : Report ℕ). accepted r.number ≡ true → Tells value_at κ w.count c x r × Returned r.value)
      (sym (answer_is κ c x y (value_at x) w h ey p))
      (number_tells κ w.count p (read_held x87 regular80 y w ey) c x h _ (fitting (lent_of c)) (sized (size_of c)) refl)

  pub answer_tells : Telling value_at State κ w.count (answer κ y)
  answer_tells c x h a = let b = told c x h a in (b.0, b.1.state)

  pub answer_returned : (c : Call) (x : ℕ) → State x → accepted (answer κ y c x).number ≡ true → Returned (answer κ y c x).value
  answer_returned c x h a = (told c x h a).1

-- ---- what is claimed of each call

module _ (κ : Kind) (y : ℕ) (w : Value) (ey : class_of x87 y ≡ finite w) (p : 0 < w.count) where
  answer_taken : (c : Call) (x : ℕ) → State x → accepted (answer κ y c x).number ≡ taken c
  answer_taken c x h =
      ap (λ (r : Report ℕ). accepted r.number) (answer_is κ c x y (value_at x) w h ey p)
      ∙ number_taken c (call_outcome κ w.count c (value_at x)).done

  pub answer_each : (c : Call) (x : ℕ) → State x → EachCall κ y (record { call = c; handed = x; report = answer κ y c x })
  unfolding answer step_report run_report
  answer_each (step l n) x h =
      record { reported = refl; taken = answer_taken (step l n) x h; gives = answer_gives κ y (step l n) x; adds = λ e. (rw e, rw e) }
  answer_each (run l n b) x h =
      record { reported = refl; taken = answer_taken (run l n b) x h; gives = answer_gives κ y (run l n b) x; adds = λ e. (rw e, rw e) }
