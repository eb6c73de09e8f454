-- Lists of calls, on whatever a state is: what the accepted calls of each list come to is one outcome to its first dividend. Assumes nothing.
use mathlib.Core.Path.{◌≡◌, refl, sym, ap, ◌∙◌, subst}
use mathlib.Core.Bool.{Bool, true, false, cond}
use mathlib.Core.List.{List, [], ◌∷◌, append-nil}
use Prim.Native.Nat.{ℕ, ◌+◌, ◌<◌}
use native.Mathlib.Nat.{add-zero, mod-add-mod, add-mod-mod, mod-mod}
use native.Mathlib.Omega.{arith}
use lib.Dec.{eqb}
use lib.ListN.{length, length-append}
use Rattle.definitions.specs.Class.{Value}
use Rattle.definitions.specs.Numbers.{accepted}
use Rattle.definitions.specs.declared.Kind.{Kind}
use Rattle.definitions.specs.Division.{Outcome, by}
use Rattle.definitions.specs.Remainder.{quotient_modulus, quotient_bits}
use Rattle.definitions.specs.Steps as Steps
use Rattle.definitions.specs.Steps.{followed, chain, parts_sum}
use Rattle.definitions.specs.Reports.{Report, sized}
use Rattle.definitions.specs.Calls.{Call, step, run, Made, answers, last_value, last_number, finished, total_steps, total_quotient, budget_of, total_budget, IsRun, Runs, Some, Listed, none, refused, ends, goes_on, All, call_chain, list_chain}
use Rattle.chains.proofs.Outcome.{Sound, sound_none, sound_unfinished, sound_followed}
use Rattle.chains.proofs.Run.{run_resumed, sound_run, chain_length}
use Rattle.chains.proofs.Exact.{Accounts, accounts_none, accounts_followed, chain_accounts, parts_append}

-- a call's size, and the number that it gives where it does not finish; a step is a run with a budget of one
abbrev pub size_of : Call → ℕ
size_of (step l n) = n
size_of (run l n b) = n

abbrev pub open_number : Call → ℕ
open_number (step l n) = 1
open_number (run l n b) = 7

abbrev pub call_outcome : Kind → ℕ → Call → Value → Outcome
call_outcome κ m c x = Steps.run κ (size_of c) (budget_of c) (by m) x

call_chain_lem : (κ : Kind) (m : ℕ) (c : Call) (x : Value) → call_chain κ (by m) c x ≡ chain κ (size_of c) (budget_of c) (by m) x
unfolding call_chain
call_chain_lem κ m (step l n) x = refl
call_chain_lem κ m (run l n b) x = refl

-- What an accepted call c tells of the outcome to the value of x, where `value` gives the value that a state stands for
pub record Tells {A : Type 0} (value : A → Value) (κ : Kind) (m : ℕ) (c : Call) (x : A) (r : Report A) : Type 0 where
  pub size : sized (size_of c) ≡ true
  pub number : r.number ≡ cond (call_outcome κ m c (value x)).done 0 (open_number c)
  pub reached : value r.value ≡ (call_outcome κ m c (value x)).value
  pub quotient : r.quotient ≡ quotient_bits (call_outcome κ m c (value x)).whole
  pub steps : r.steps ≡ (call_outcome κ m c (value x)).steps

-- What the accepted calls of a list tell: `outcome` is what they come to
pub record ListTells {A : Type 0} (value : A → Value) (κ : Kind) (w : Value) (x : A) (ts : List (Made A)) : Type 0 where
  pub outcome : Outcome
  pub sound : Sound κ w.count (value x) outcome
  pub account : Accounts w (value x) outcome (parts_sum w (list_chain value κ (by w.count) ts))
  pub links : length (list_chain value κ (by w.count) ts) ≡ outcome.steps
  pub reached : value (last_value x ts) ≡ outcome.value
  pub done : finished ts ≡ outcome.done
  pub quotient : total_quotient ts ≡ quotient_bits outcome.whole
  pub steps : total_steps ts ≡ outcome.steps
  pub number : (n : ℕ) → Runs n ts → last_number 7 ts ≡ cond outcome.done 0 7
  pub size : (n : ℕ) → Runs n ts → Some ts → sized n ≡ true
  pub one : (n : ℕ) → Runs n ts → outcome ≡ Steps.run κ n (total_budget ts) (by w.count) (value x)

run_size : (n : ℕ) (c : Call) → IsRun n c → size_of c ≡ n
run_size n (step l k) h = absurd h
run_size n (run l k b) h = h

run_open : (n : ℕ) (c : Call) → IsRun n c → open_number c ≡ 7
run_open n (step l k) h = absurd h
run_open n (run l k b) h = refl

number_done : (c : Call) (d : Bool) (n : ℕ) → n ≡ cond d 0 (open_number c) → eqb n 0 ≡ d
number_done c true n e = rw e
number_done (step l k) false n e = rw e
number_done (run l k b) false n e = rw e

module _ {A : Type 0} (value : A → Value) (κ : Kind) (w : Value) (p : 0 < w.count) where
  tells_none : (x : A) → ListTells value κ w x []
  unfolding list_chain parts_sum last_value finished total_quotient total_steps last_number total_budget Steps.run
  tells_none x =
      record {
        outcome = record { done = false; value = value x; whole = 0; steps = 0 };
        sound = sound_none κ w.count (value x);
        account = accounts_none w (value x);
        links = refl;
        reached = refl;
        done = refl;
        quotient = refl;
        steps = refl;
        number = λ n h. refl;
        size = λ n h s. absurd s;
        one = λ n h. refl;
      }

  module _ (c : Call) (x : A) (r : Report A) (h : Tells value κ w.count c x r) where
    own : Outcome
    own = call_outcome κ w.count c (value x)

    own_chain : call_chain κ (by w.count) c (value x) ≡ chain κ (size_of c) (budget_of c) (by w.count) (value x)
    own_chain = call_chain_lem κ w.count c (value x)

    own_account : Accounts w (value x) own (parts_sum w (call_chain κ (by w.count) c (value x)))
    unfolding own
    own_account = rw own_chain (chain_accounts κ (size_of c) (budget_of c) w (value x) p)

    own_sound : Sound κ w.count (value x) own
    unfolding own
    own_sound = sound_run κ (size_of c) (budget_of c) w.count (value x) p h.size

    own_links : length (call_chain κ (by w.count) c (value x)) ≡ own.steps
    unfolding own
    own_links = ap length own_chain ∙ chain_length κ (size_of c) (budget_of c) (by w.count) (value x)

    own_done : eqb r.number 0 ≡ own.done
    unfolding own
    own_done = number_done c own.done r.number h.number

    own_size : (n : ℕ) → IsRun n c → sized n ≡ true
    own_size n g = subst (λ (k : ℕ). sized k ≡ true) (run_size n c g) h.size

    -- a call that has finished ends the list
    tells_last : eqb r.number 0 ≡ true → ListTells value κ w x (record { call = c; handed = x; report = r } ∷ [])
    unfolding own list_chain parts_sum last_value finished total_quotient total_steps last_number total_budget
    tells_last z =
        record {
          outcome = own;
          sound = own_sound;
          account = rw append-nil own_account;
          links = rw append-nil own_links;
          reached = h.reached;
          done = rw z (sym z ∙ own_done);
          quotient = rw (add-zero, h.quotient) (mod-mod own.whole quotient_modulus);
          steps = omega (arith, h.steps);
          number = λ n g. h.number ∙ ap (λ (k : ℕ). cond own.done 0 k) (run_open n c g.0);
          size = λ n g s. own_size n g.0;
          one = λ n g. rw (add-zero, run_size n c g.0);
        }

    -- after one that has not, the list goes on from its value
    tells_more : eqb r.number 0 ≡ false → (ts : List (Made A)) → ListTells value κ w r.value ts → ListTells value κ w x (record { call = c; handed = x; report = r } ∷ ts)
    unfolding own list_chain parts_sum last_value finished total_quotient total_steps last_number total_budget
    tells_more z ts g =
        let e = sym own_done ∙ z in
        record {
          outcome = followed own g.outcome;
          sound = sound_followed κ w.count (value x) own g.outcome p e own_sound (rw h.reached at g.sound);
          account =
              let sign = (sound_unfinished κ w.count (value x) own own_sound e).sign in
              rw parts_append (accounts_followed w (value x) own g.outcome _ _ sign own_account (rw h.reached at g.account));
          links = rw length-append (omega (arith, own_links, g.links));
          reached = g.reached;
          done = rw z g.done;
          quotient = rw (h.quotient, g.quotient, mod-add-mod, add-mod-mod);
          steps = omega (arith, h.steps, g.steps);
          number = λ n i. ap (λ (k : ℕ). last_number k ts) (h.number ∙ ap (λ (d : Bool). cond d 0 (open_number c)) e ∙ run_open n c i.0) ∙ g.number n i.1;
          size = λ n i s. own_size n i.0;
          one = λ n i.
              ap (followed own) (g.one n i.1 ∙ ap (Steps.run κ n (total_budget ts) (by w.count)) h.reached)
              ∙ subst (λ (k : ℕ). followed own (Steps.run κ k (total_budget ts) (by w.count) own.value) ≡ Steps.run κ k (budget_of c + total_budget ts) (by w.count) (value x))
              (run_size n c i.0) (sym (run_resumed κ (size_of c) (budget_of c) (total_budget ts) (by w.count) (value x) e));
        }

-- the answers f to calls on states that are Good: an accepted call tells of its outcome, and leads to such a state again
abbrev pub Telling : {A : Type 0} → (A → Value) → (A → Type 0) → Kind → ℕ → (Call → A → Report A) → Type 0
Telling {A} value Good κ m f = (c : Call) (x : A) → Good x → accepted (f c x).number ≡ true → Tells value κ m c x (f c x) × Good (f c x).value

answers_accepted : {A : Type 0} (t : Made A) (ts : List (Made A)) → accepted t.report.number ≡ true → t ∷ answers ts ≡ answers (t ∷ ts)
unfolding answers
answers_accepted t ts e = rw e

-- whatever calls follow the four rules
module _ {A : Type 0} (value : A → Value) (Good : A → Type 0) (κ : Kind) (w : Value) (f : Call → A → Report A) (p : 0 < w.count) (t : Telling value Good κ w.count f) where
  -- what every accepted call leads to is the last value too, if a call was accepted
  module _ (P : A → Type 0) (h : (c : Call) (x : A) → Good x → accepted (f c x).number ≡ true → P (f c x).value) where
    list_kept : {x : A} {cs : List Call} {ts : List (Made A)} → Listed f x cs ts → Good x → P x → P (last_value x (answers ts))
    unfolding answers last_value
    list_kept none g k = k
    list_kept (refused e l) g k = rw e (list_kept l g k)
    list_kept (ends {x} {c} e) g k = rw e (h c x g (rw e))
    list_kept (goes_on {x} {c} e d l) g k = rw e (list_kept l (t c x g e).1 (h c x g e))

    pub list_last : {x : A} {cs : List Call} {ts : List (Made A)} → Listed f x cs ts → Good x → Some (answers ts) → P (last_value x (answers ts))
    unfolding answers last_value
    list_last none g s = absurd s
    list_last (refused e l) g s = rw e (list_last l g (rw e at s))
    list_last (ends {x} {c} e) g s = rw e (h c x g (rw e))
    list_last (goes_on {x} {c} e d l) g s = rw e (list_kept l (t c x g e).1 (h c x g e))

  -- what holds of every call on a state that is Good holds of each call
  pub list_each : (P : Made A → Type 0) → ((c : Call) (x : A) → Good x → P (record { call = c; handed = x; report = f c x }))
      → {x : A} {cs : List Call} {ts : List (Made A)} → Listed f x cs ts → Good x → All P ts
  list_each P h none g = tt
  list_each P h (refused {x} {c} e l) g = (h c x g, list_each P h l g)
  list_each P h (ends {x} {c} e) g = (h c x g, tt)
  list_each P h (goes_on {x} {c} e d l) g = (h c x g, list_each P h l (t c x g e).1)

  pub list_tells : {x : A} {cs : List Call} {ts : List (Made A)} → Listed f x cs ts → Good x → ListTells value κ w x (answers ts)
  unfolding answers
  list_tells (none {x}) g = tells_none value κ w p x
  list_tells (refused e l) g = rw e (list_tells l g)
  list_tells (ends {x} {c} e) g =
      let a = ap accepted e in
      subst (ListTells value κ w x) (answers_accepted _ [] a) (tells_last value κ w p c x (f c x) (t c x g a).0 (rw e))
  list_tells (goes_on {x} {c} {cs} {ts} e z l) g =
      subst (ListTells value κ w x) (answers_accepted _ ts e) (tells_more value κ w p c x (f c x) (t c x g e).0 z (answers ts) (list_tells l (t c x g e).1))
