-- [5.9] the one claim over all lists of step and run calls on x87 patterns. Assumes nothing.
use mathlib.Core.Path.{◌≡◌, refl, sym, ap, ◌∙◌, subst}
use mathlib.Core.Bool.{Bool, true, false, cond}
use mathlib.Core.List.{List}
use Prim.Native.Nat.{ℕ, ◌<◌}
use Rattle.definitions.specs.Class.{Value, finite}
use Rattle.definitions.specs.Format.{class_of, pattern_of, x87}
use Rattle.definitions.specs.Facts.{refused_value}
use Rattle.definitions.specs.declared.Kind.{Kind}
use Rattle.definitions.specs.Division.{Outcome, by, finish, dividend_of}
use Rattle.definitions.specs.Remainder.{quotient_bits}
use Rattle.definitions.specs.Steps as Steps
use Rattle.definitions.specs.Reports.{Report, nothing, sized, report_of, run_report}
use Rattle.definitions.specs.Calls.{Call, run, answer, Made, made, answers, any_accepted, last_value, finished, total_steps, total_quotient, total_budget, first_denormal, Some, Listed, EachCall, All, value_at, EveryList}
use Rattle.laws.proofs.Remainder.{remainder_is}
use Rattle.chains.proofs.Outcome.{sound_finished, sound_bound, sound_ends}
use Rattle.chains.proofs.Exact.{accounts_exact, accounts_whole}
use Rattle.chains.proofs.Made.{listed_made, finished_last, any_accepted_lem, none_accepted, finished_some, totals}
use Rattle.chains.proofs.Denormal.{first_denormal_lem, last_denormal}
use Rattle.chains.proofs.Lists.{ListTells, list_last, list_each, list_tells}
use Rattle.chains.proofs.Answer.{answer_is, State, Returned, read_state, answer_tells, answer_returned, answer_each}

-- what an accepted run reports
abbrev run_tells : Outcome → Report ℕ
run_tells r = record { number = cond r.done 0 7; value = pattern_of x87 (finite r.value); quotient = quotient_bits r.whole; steps = r.steps }

run_is : (κ : Kind) (n b x y : ℕ) (v w : Value) → class_of x87 x ≡ finite v → class_of x87 y ≡ finite w → 0 < w.count → sized n ≡ true
    → run_report nothing κ n b x y ≡ run_tells (Steps.run κ n b (by w.count) v)
unfolding answer
run_is κ n b x y v w ex ey p z = answer_is κ (run nothing n b) x y v w ex ey p ∙ rw z (go (Steps.run κ n b (by w.count) v).done)
  where
    r : Outcome
    r = Steps.run κ n b (by w.count) v

    go : (d : Bool) → report_of (refused_value x87 (cond d 0 7) (finite v) (finite w)) (cond d 0 7) r ≡ record { number = cond d 0 7; value = pattern_of x87 (finite r.value); quotient = quotient_bits r.whole; steps = r.steps }
    go true = refl
    go false = refl

-- of whatever calls ts follow the four rules
module _ (κ : Kind) (x y : ℕ) (w : Value) (cs : List Call) (ts : List (Made ℕ)) (listed : Listed (answer κ y) x cs ts) (sx : State x)
    (ey : class_of x87 y ≡ finite w) (p : 0 < w.count) where
  each : All (EachCall κ y) ts
  each = list_each value_at State κ w (answer κ y) p (answer_tells κ y w ey p) (EachCall κ y) (answer_each κ y w ey p) listed sx

  told : ListTells value_at κ w x (answers ts)
  told = list_tells value_at State κ w (answer κ y) p (answer_tells κ y w ey p) listed sx

  -- the totals of all calls are what the accepted ones tell
  all_steps : total_steps ts ≡ told.outcome.steps
  all_steps = (totals κ y ts each).steps ∙ told.steps

  all_quotient : total_quotient ts ≡ quotient_bits told.outcome.whole
  all_quotient = (totals κ y ts each).quotient ∙ told.quotient

  all_done : finished ts ≡ told.outcome.done
  all_done = (totals κ y ts each).finished ∙ told.done

  -- the last value that a call returned
  returned : Some (answers ts) → Returned (last_value x (answers ts))
  returned = list_last value_at State κ w (answer κ y) p (answer_tells κ y w ey p) Returned (answer_returned κ y w ey p) listed sx

  last : Some (answers ts) → (u : Value) → told.outcome.value ≡ u → pattern_of x87 (finite u) ≡ last_value x (answers ts)
  last s u e = ap (λ (z : Value). pattern_of x87 (finite z)) (sym (told.reached ∙ e)) ∙ (returned s).pattern

  some_accepted : finished ts ≡ true → Some (answers ts)
  some_accepted f = finished_some (answers ts) (sym (totals κ y ts each).finished ∙ f)

  given : any_accepted ts ≡ false → last_value x (answers ts) ≡ x
  unfolding last_value
  given e = rw (none_accepted ts e)

  untold : any_accepted ts ≡ false → first_denormal y (answers ts) ≡ false
  unfolding first_denormal
  untold e = rw (none_accepted ts e)

  claim : EveryList κ x y (value_at x) w cs ts
  claim =
      let r = told.outcome in
      let m = w.count in
      record {
        listed = listed;
        each = each;
        counted = all_steps ∙ sym told.links;
        bits = all_quotient ∙ ap quotient_bits (sym (accounts_whole told.account));
        closed = finished_last (answer κ y) 7 refl listed;
        bound = rw all_steps (sound_bound κ m (value_at x) r told.sound);
        ends = λ l. all_done ∙ sound_ends κ m (value_at x) r told.sound (rw all_steps at l);
        whole = λ f.
            let e = sound_finished κ m (value_at x) r told.sound (sym all_done ∙ f) in
            remainder_is x87 κ x y (value_at x) w sx ey p
            ∙ (λ i. record { number = 0; value = last (some_accepted f) (finish κ (by m) (value_at x)).value e.value i; quotient = (ap quotient_bits (sym e.whole) ∙ sym all_quotient) i });
        given = given;
        returned = λ e. (returned (any_accepted_lem ts e)).ordinary;
        denormal = λ e. first_denormal_lem (answer κ y) y listed e ∙ sym (last_denormal x y ts);
        untold = untold;
        exact = rw told.reached (accounts_exact told.account);
        one = λ n rs s.
            run_is κ n (total_budget (answers ts)) x y (value_at x) w sx ey p (told.size n rs s) ∙ ap run_tells (sym (told.one n rs))
            ∙ (λ i. record { number = sym (told.number n rs) i; value = last s r.value refl i; quotient = sym all_quotient i; steps = sym all_steps i });
      }

pub every_list : (κ : Kind) (x y : ℕ) (v w : Value) (cs : List Call) → class_of x87 x ≡ finite v → class_of x87 y ≡ finite w
    → 0 < w.count → EveryList κ x y v w cs (made (answer κ y) cs x)
every_list κ x y v w cs ex ey p =
    let ts = made (answer κ y) cs x in
    subst (λ (u : Value). EveryList κ x y u w cs ts) (ap dividend_of ex) (claim κ x y w cs ts (listed_made (answer κ y) cs x) (read_state x v ex) ey p)
