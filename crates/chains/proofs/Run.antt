-- A run: by parts, by its budget and what the chain needs, and by its chain. Assumes nothing.
use mathlib.Core.Path.{◌≡◌, refl, sym, ap, ◌∙◌, subst}
use mathlib.Core.Bool.{Bool, true, false, cond}
use mathlib.Core.List.{[]}
use Prim.Native.Nat.{ℕ, zero, suc, ◌+◌, ◌<◌, min}
use native.Mathlib.Nat.{add-zero, zero-add, suc-add}
use native.Mathlib.Omega.{arith}
use borrow.Author.Tests.{le-leb, lt-leb}
use lib.Dec.{leb, leb-suc-suc}
use lib.ListN.{length}
use Rattle.digits.proofs.Tests.{clash}
use Rattle.definitions.specs.Class.{Value, gap}
use Rattle.definitions.specs.declared.Kind.{Kind}
use Rattle.definitions.specs.Division.{Outcome, Divisor, unbounded, by, finish}
use Rattle.definitions.specs.Steps.{step, followed, run, chain, most_steps, needed}
use Rattle.definitions.specs.Reports.{sized}
use Rattle.chains.proofs.Step.{step_one}
use Rattle.chains.proofs.Outcome.{continued, followed_continued, Sound, sound_none, sound_step, sound_continued, sound_ends}

-- A run with the budget a + b is one with a and, where that has not finished, one with b from its value.
pub run_add : (κ : Kind) (n a b : ℕ) (d : Divisor) (x : Value)
    → run κ n (a + b) d x ≡ continued (run κ n a d x) (run κ n b d (run κ n a d x).value)
unfolding run
run_add κ n zero b d x = simp zero-add
run_add κ n (suc a) b d x = rw (suc-add a b) (go (step κ n d x).done refl (run_add κ n a b d (step κ n d x).value))
  where
    s : Outcome
    s = step κ n d x

    r : Outcome
    r = run κ n a d s.value

    go : (t : Bool) → s.done ≡ t → run κ n (a + b) d s.value ≡ continued r (run κ n b d r.value)
        → cond t s (followed s (run κ n (a + b) d s.value)) ≡ continued (cond t s (followed s r)) (run κ n b d (cond t s (followed s r)).value)
    go true e ih = subst (λ (t : Bool). s ≡ cond t s (followed s (run κ n b d s.value))) (sym e) refl
    go false e ih = ap (followed s) ih ∙ followed_continued s r (run κ n b d r.value)

-- a run that has finished stays as it is under a larger budget, and one that has not goes on from its value
pub run_stays : (κ : Kind) (n a b : ℕ) (d : Divisor) (x : Value) → (run κ n a d x).done ≡ true → run κ n (a + b) d x ≡ run κ n a d x
run_stays κ n a b d x e = run_add κ n a b d x ∙ ap (λ (t : Bool). cond t (run κ n a d x) (followed (run κ n a d x) (run κ n b d (run κ n a d x).value))) e

pub run_resumed : (κ : Kind) (n a b : ℕ) (d : Divisor) (x : Value) → (run κ n a d x).done ≡ false
    → run κ n (a + b) d x ≡ followed (run κ n a d x) (run κ n b d (run κ n a d x).value)
run_resumed κ n a b d x e = run_add κ n a b d x ∙ ap (λ (t : Bool). cond t (run κ n a d x) (followed (run κ n a d x) (run κ n b d (run κ n a d x).value))) e

-- a step is a run with a budget of one, and a budget larger by one is one more step
pub run_one : (κ : Kind) (n : ℕ) (d : Divisor) (x : Value) → run κ n 1 d x ≡ step κ n d x
unfolding run
run_one κ n d x = go (step κ n d x) (step κ n d x).done refl
  where
    go : (s : Outcome) (t : Bool) → s.done ≡ t → cond t s (followed s (record { done = false; value = s.value; whole = 0; steps = 0 })) ≡ s
    go s true e = refl
    go s false e = simp add-zero (λ i. record { done = sym e i; value = s.value; whole = s.whole; steps = s.steps })

pub run_next : (κ : Kind) (n b : ℕ) (d : Divisor) (x : Value) → (run κ n b d x).done ≡ false
    → run κ n (b + 1) d x ≡ followed (run κ n b d x) (step κ n d (run κ n b d x).value)
run_next κ n b d x e = run_resumed κ n b 1 d x e ∙ ap (followed (run κ n b d x)) (run_one κ n d (run κ n b d x).value)

pub sound_run : (κ : Kind) (n b m : ℕ) (x : Value) → 0 < m → sized n ≡ true → Sound κ m x (run κ n b (by m) x)
unfolding run
sound_run κ n zero m x p z = sound_none κ m x
sound_run κ n (suc b) m x p z =
    let s = step κ n (by m) x in
    sound_continued κ m x s (run κ n b (by m) s.value) p (sound_step κ n m x p z) (sound_run κ n b m s.value p z)

-- a run that has not finished took its whole budget
pub run_spent : (κ : Kind) (n b : ℕ) (d : Divisor) (x : Value) → (run κ n b d x).done ≡ false → (run κ n b d x).steps ≡ b
unfolding run
run_spent κ n zero d x e = refl
run_spent κ n (suc b) d x e = go (step κ n d x).done refl (run_spent κ n b d (step κ n d x).value) e
  where
    s : Outcome
    s = step κ n d x

    r : Outcome
    r = run κ n b d s.value

    go : (t : Bool) → s.done ≡ t → (r.done ≡ false → r.steps ≡ b) → (cond t s (followed s r)).done ≡ false → (cond t s (followed s r)).steps ≡ suc b
    go true f h g = clash (cc)
    go false f h g = omega (arith, h g, step_one κ n d x)

-- what a run with the budget b comes to, where a run with the budget c finishes
record Budgeted (b : ℕ) (r c : Outcome) : Type 0 where
  pub steps : r.steps ≡ min b c.steps
  pub done : r.done ≡ leb c.steps b

budgeted : (κ : Kind) (n b c : ℕ) (d : Divisor) (x : Value) → (run κ n c d x).done ≡ true → Budgeted b (run κ n b d x) (run κ n c d x)
unfolding run
budgeted κ n b zero d x e = clash (cc)
budgeted κ n zero (suc c) d x e = go (step κ n d x).done
  where
    go : (t : Bool) → Budgeted 0 (record { done = false; value = x; whole = 0; steps = 0 }) (cond t (step κ n d x) (followed (step κ n d x) (run κ n c d (step κ n d x).value)))
    go true = record { steps = omega arith; done = sym (lt-leb (step κ n d x).steps 0 (omega (arith, step_one κ n d x))) }
    go false = record { steps = omega arith; done = sym (lt-leb ((step κ n d x).steps + (run κ n c d (step κ n d x).value).steps) 0 (omega (arith, step_one κ n d x))) }
budgeted κ n (suc b) (suc c) d x e = go (step κ n d x).done refl e (budgeted κ n b c d (step κ n d x).value)
  where
    s : Outcome
    s = step κ n d x

    go : (t : Bool) → s.done ≡ t → (cond t s (followed s (run κ n c d s.value))).done ≡ true
        → ((run κ n c d s.value).done ≡ true → Budgeted b (run κ n b d s.value) (run κ n c d s.value))
        → Budgeted (suc b) (cond t s (followed s (run κ n b d s.value))) (cond t s (followed s (run κ n c d s.value)))
    go true f g h = record { steps = omega (arith, step_one κ n d x); done = f ∙ sym (le-leb s.steps (suc b) (omega (arith, step_one κ n d x))) }
    go false f g h =
        let i = h g in
        record {
          steps = omega (arith, i.steps, step_one κ n d x);
          done = i.done ∙ sym (leb-suc-suc (run κ n c d s.value).steps b) ∙ ap (λ (k : ℕ). leb k (suc b)) (omega (arith, step_one κ n d x));
        }

-- the most steps that a gap allows are enough
pub run_enough : (κ : Kind) (n m : ℕ) (x : Value) → 0 < m → sized n ≡ true → (run κ n (most_steps (gap x.count m)) (by m) x).done ≡ true
run_enough κ n m x p z = go r.done refl
  where
    r : Outcome
    r = run κ n (most_steps (gap x.count m)) (by m) x

    go : (t : Bool) → r.done ≡ t → r.done ≡ true
    go true e = e
    go false e = sound_ends κ m x r (sound_run κ n (most_steps (gap x.count m)) m x p z) (omega (arith, run_spent κ n (most_steps (gap x.count m)) (by m) x e))

-- A run's number of steps is what the chain needs, capped by the budget; it has finished if the budget is not below that.
pub run_steps : (κ : Kind) (n b m : ℕ) (x : Value) → 0 < m → sized n ≡ true → (run κ n b (by m) x).steps ≡ min b (needed κ n m x)
unfolding needed
run_steps κ n b m x p z = (budgeted κ n b (most_steps (gap x.count m)) (by m) x (run_enough κ n m x p z)).steps

pub run_done : (κ : Kind) (n b m : ℕ) (x : Value) → 0 < m → sized n ≡ true → (run κ n b (by m) x).done ≡ leb (needed κ n m x) b
unfolding needed
run_done κ n b m x p z = (budgeted κ n b (most_steps (gap x.count m)) (by m) x (run_enough κ n m x p z)).done

-- an infinite divisor needs one step
pub unbounded_steps : (κ : Kind) (n b : ℕ) (x : Value) → (run κ n b unbounded x).steps ≡ min b 1
unfolding run step finish
unbounded_steps κ n b x = (budgeted κ n b 1 unbounded x refl).steps

pub unbounded_done : (κ : Kind) (n b : ℕ) (x : Value) → (run κ n b unbounded x).done ≡ leb 1 b
unfolding run step finish
unbounded_done κ n b x = (budgeted κ n b 1 unbounded x refl).done

-- A run's number of steps is the length of its chain.
pub chain_length : (κ : Kind) (n b : ℕ) (d : Divisor) (x : Value) → length (chain κ n b d x) ≡ (run κ n b d x).steps
unfolding run chain
chain_length κ n zero d x = refl
chain_length κ n (suc b) d x = go (step κ n d x).done (chain_length κ n b d (step κ n d x).value)
  where
    s : Outcome
    s = step κ n d x

    go : (t : Bool) → length (chain κ n b d s.value) ≡ (run κ n b d s.value).steps
        → suc (length (cond t [] (chain κ n b d s.value))) ≡ (cond t s (followed s (run κ n b d s.value))).steps
    go true h = sym (step_one κ n d x)
    go false h = omega (arith, step_one κ n d x)
