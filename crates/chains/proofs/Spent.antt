-- [4.8] 7 comes exactly if nothing is refused and the chain needs more steps than the budget, which is then spent: on patterns. Assumes nothing.
use mathlib.Core.Path.{◌≡◌, refl, sym, ◌∙◌}
use mathlib.Core.Bool.{Bool, true, false, not, cond, ◌&&◌, ◌||◌}
use mathlib.Core.List.{◌++◌}
use Prim.Native.Nat.{ℕ, ◌<◌, min}
use native.Mathlib.Omega.{arith}
use borrow.Author.Tests.{lt-ltb, le-ltb, ltb-true, leb-true, leb-false, not-false, eq-eqb, eqb-false}
use lib.Dec.{leb, ltb, eqb}
use Rattle.digits.proofs.Tests.{and_both}
use Rattle.definitions.specs.Class.{Value, Class, unsupported, nan, infinite, finite}
use Rattle.definitions.specs.Format.{class_of, x87}
use Rattle.definitions.specs.Numbers.{first, accepted, dividing, is_unsupported, is_nan, is_infinite, is_zero}
use Rattle.definitions.specs.declared.Kind.{Kind}
use Rattle.definitions.specs.Division.{Outcome, Divisor, unbounded, by, dividend_of, divisor_of}
use Rattle.definitions.specs.Steps.{run, needed}
use Rattle.definitions.specs.Reports.{Lent, fitting, sized, calling, run_report}
use Rattle.chains.proofs.Run.{run_steps, run_done, unbounded_steps, unbounded_done}

-- the number of a call whose outcome is not looked at: 0 where nothing is refused
abbrev pub refusal : Lent → ℕ → Class → Class → ℕ
refusal l n a b = first (calling l n ++ dividing a b)

-- A number that depends on the outcome's k: it is a refusal whatever the outcome, or nothing is refused, so that the size is right (i) and the
-- divisor not zero (z), and it is k.
pub data Judgement (i z : Bool) (number : ℕ → ℕ) : Type 0 where
  refused : (r : ℕ) → accepted r ≡ false → eqb r 0 ≡ false → eqb r 7 ≡ false → ((k : ℕ) → number k ≡ r) → Judgement i z number
  passed : i ≡ false → z ≡ false → ((k : ℕ) → number k ≡ k) → Judgement i z number

judgement : (m i u q d z : Bool) → Judgement i z (λ k. cond m 9 (cond i 6 (cond u 2 (cond q 3 (cond d 4 (cond z 5 k))))))
judgement true i u q d z = refused 9 refl refl refl (λ k. refl)
judgement false true u q d z = refused 6 refl refl refl (λ k. refl)
judgement false false true q d z = refused 2 refl refl refl (λ k. refl)
judgement false false false true d z = refused 3 refl refl refl (λ k. refl)
judgement false false false false true z = refused 4 refl refl refl (λ k. refl)
judgement false false false false false true = refused 5 refl refl refl (λ k. refl)
judgement false false false false false false = passed refl refl (λ k. refl)

-- of a call: k is the number of its outcome
abbrev pub numbered : Lent → ℕ → Class → Class → ℕ → ℕ
numbered l n a b k =
    cond (not (fitting l)) 9 (cond (not (sized n)) 6 (cond (is_unsupported a || is_unsupported b) 2 (cond (is_nan a || is_nan b) 3 (cond (is_infinite a) 4 (cond (is_zero b) 5 k)))))

pub result : (l : Lent) (n : ℕ) (a b : Class) → Judgement (not (sized n)) (is_zero b) (numbered l n a b)
result l n a b = judgement (not (fitting l)) (not (sized n)) (is_unsupported a || is_unsupported b) (is_nan a || is_nan b) (is_infinite a) (is_zero b)

nonzero_pos : (n : ℕ) → eqb n 0 ≡ false → 0 < n
nonzero_pos n e = let h = eqb-false n 0 e in omega arith

ltb_not : (b k : ℕ) → ltb b k ≡ not (leb k b)
ltb_not b k = go (leb k b) refl
  where
    go : (t : Bool) → leb k b ≡ t → ltb b k ≡ not t
    go true e = le-ltb b k (leb-true k b e)
    go false e = lt-ltb b k (leb-false k b e)

-- how many steps of the size n a chain by any divisor needs
abbrev pub needed_by : Kind → ℕ → Divisor → Value → ℕ
needed_by κ n unbounded x = 1
needed_by κ n (by m) x = needed κ n m x

-- an outcome within the budget b, where the chain needs k steps
record Within (b k : ℕ) (r : Outcome) : Type 0 where
  pub steps : r.steps ≡ min b k
  pub done : r.done ≡ leb k b

within : (κ : Kind) (n b : ℕ) (y : Class) (x : Value) → not (sized n) ≡ false → is_zero y ≡ false
    → Within b (needed_by κ n (divisor_of y) x) (run κ n b (divisor_of y) x)
within κ n b (finite w) x i z =
    let p = nonzero_pos w.count z in
    let s = not-false (sized n) i in
    record { steps = run_steps κ n b w.count x p s; done = run_done κ n b w.count x p s }
within κ n b (infinite s) x i z = record { steps = unbounded_steps κ n b x; done = unbounded_done κ n b x }
within κ n b (nan t s) x i z = record { steps = unbounded_steps κ n b x; done = unbounded_done κ n b x }
within κ n b unsupported x i z = record { steps = unbounded_steps κ n b x; done = unbounded_done κ n b x }

module _ {i z : Bool} {number : ℕ → ℕ} (r : Outcome) (b k : ℕ) (w : i ≡ false → z ≡ false → Within b k r) where
  spent_number : Judgement i z number → eqb (number (cond (not r.done) 7 0)) 7 ≡ eqb (number 0) 0 && ltb b k
  spent_number (refused q a o s e) = rw (e (cond (not r.done) 7 0), e 0, o, s)
  spent_number (passed f g e) = rw (e (cond (not r.done) 7 0), e 0, (w f g).done, ltb_not) (go (leb k b))
    where
      go : (t : Bool) → eqb (cond (not t) 7 0) 7 ≡ not t
      go true = refl
      go false = refl

  spent_steps : Judgement i z number → cond (accepted (number (cond (not r.done) 7 0))) r.steps 0 ≡ cond (eqb (number 0) 0) (min b k) 0
  spent_steps (refused q a o s e) = rw (e (cond (not r.done) 7 0), e 0, a, o)
  spent_steps (passed f g e) = rw (e (cond (not r.done) 7 0), e 0, (w f g).steps) (go r.done)
    where
      go : (t : Bool) → cond (accepted (cond (not t) 7 0)) (min b k) 0 ≡ min b k
      go true = refl
      go false = refl

module _ (l : Lent) (κ : Kind) (n b x y : ℕ) where
  -- a run's number is 7 exactly if nothing is refused and the chain needs more steps than the budget
  pub run_number : let X = class_of x87 x in
      let Y = class_of x87 y in
      eqb (run_report l κ n b x y).number 7 ≡ eqb (refusal l n X Y) 0 && ltb b (needed_by κ n (divisor_of Y) (dividend_of X))
  unfolding run_report first
  run_number =
      let X = class_of x87 x in
      let Y = class_of x87 y in
      spent_number (run κ n b (divisor_of Y) (dividend_of X)) b (needed_by κ n (divisor_of Y) (dividend_of X)) (within κ n b Y (dividend_of X)) (result l n X Y)

  -- and its number of steps is what the chain needs, capped by the budget; a refused one takes none
  pub run_report_steps : let X = class_of x87 x in
      let Y = class_of x87 y in
      (run_report l κ n b x y).steps ≡ cond (eqb (refusal l n X Y) 0) (min b (needed_by κ n (divisor_of Y) (dividend_of X))) 0
  unfolding run_report first
  run_report_steps =
      let X = class_of x87 x in
      let Y = class_of x87 y in
      spent_steps (run κ n b (divisor_of Y) (dividend_of X)) b (needed_by κ n (divisor_of Y) (dividend_of X)) (within κ n b Y (dividend_of X)) (result l n X Y)

  -- so that a run that gives 7 has spent its budget
  pub run_report_spent : (run_report l κ n b x y).number ≡ 7 → (run_report l κ n b x y).steps ≡ b
  run_report_spent e =
      let X = class_of x87 x in
      let Y = class_of x87 y in
      let k = needed_by κ n (divisor_of Y) (dividend_of X) in
      let h = and_both (eqb (refusal l n X Y) 0) (ltb b k) (sym run_number ∙ eq-eqb (run_report l κ n b x y).number 7 e) in
      run_report_steps ∙ rw h.0 (omega (arith, ltb-true b k h.1))
