-- What an outcome leaves of its dividend, and one outcome after another: what steps, runs and lists of calls have in common. Assumes nothing.
use mathlib.Core.Path.{◌≡◌, refl, sym, ap, ◌∙◌, subst}
use mathlib.Core.Bool.{Bool, true, false, cond}
use Prim.Native.Nat.{ℕ, suc, ◌+◌, ◌*◌, ◌/◌, ◌%◌, ◌^◌, ◌≤◌, ◌<◌}
use native.Mathlib.Nat.{add_assoc, mul-mod_left, add-mul-mod_self_left, add-mul-div_left, pow-suc, mul_assoc}
use native.Mathlib.Omega.{arith}
use Rattle.digits.proofs.Tests.{clash}
use Rattle.definitions.specs.Class.{Value, gap}
use Rattle.definitions.specs.declared.Kind.{Kind}
use Rattle.definitions.specs.declared.Kind.TheVariants.{Truncated, Nearest}
use Rattle.definitions.specs.Division.{Outcome, by, rounds_up, finish, finish_by}
use Rattle.definitions.specs.Steps.{cut_at, step, followed, most_steps}
use Rattle.definitions.specs.Reports.{sized}
use Rattle.chains.proofs.Step.{excess, used_places, most_pos, most_falls, step_cases, cut_sum, cut_size}

-- r, and where it has not finished s from its value
abbrev pub continued : Outcome → Outcome → Outcome
continued r s = cond r.done r (followed r s)

pub followed_continued : (r s t : Outcome) → followed r (continued s t) ≡ continued (followed r s) t
followed_continued r s t = go s.done
  where
    go : (d : Bool) → followed r (cond d s (followed s t)) ≡ cond d (followed r s) (followed (followed r s) t)
    go true = refl
    go false = simp add_assoc

-- Finishing a dividend that is larger by an even number w of divisors takes w more of them and is otherwise the same:
-- a half looks at the quotient's last digit alone.
up_shift : (κ : Kind) (q w r m : ℕ) → w % 2 ≡ 0 → rounds_up κ (q + w) r m ≡ rounds_up κ q r m
up_shift Truncated q w r m e = refl
up_shift Nearest q w r m e = let f : (q + w) % 2 ≡ q % 2 = omega arith in rw f

whole_shift : (up : Bool) (q w : ℕ) → cond up (q + w + 1) (q + w) ≡ w + cond up (q + 1) q
whole_shift true q w = omega arith
whole_shift false q w = omega arith

abbrev pub shifted : ℕ → Outcome → Outcome
shifted w r = record { done = r.done; value = r.value; whole = w + r.whole; steps = r.steps }

pub finish_shift : (κ : Kind) (m : ℕ) (s : Bool) (n w : ℕ) → 0 < m → w % 2 ≡ 0
    → finish κ (by m) (record { negative = s; count = n + m * w }) ≡ shifted w (finish κ (by m) (record { negative = s; count = n }))
unfolding finish finish_by
finish_shift κ m s n w h e = rw (add-mul-div_left n w, add-mul-mod_self_left n m w, up_shift κ (n / m) w (n % m) m e, whole_shift)

-- What holds of an outcome to x that has not finished: the parts taken so far are even, so that a finishing step may round by its own part alone.
pub record Unfinished (m : ℕ) (x : Value) (r : Outcome) : Type 0 where
  pub sign : r.value.negative ≡ x.negative
  pub sum : x.count ≡ r.value.count + m * r.whole
  pub even : r.whole % 2 ≡ 0
  pub room : r.steps + most_steps (gap r.value.count m) ≤ most_steps (gap x.count m)

-- and of one that has
pub record Finished (κ : Kind) (m : ℕ) (x : Value) (r : Outcome) : Type 0 where
  pub value : r.value ≡ (finish κ (by m) x).value
  pub whole : r.whole ≡ (finish κ (by m) x).whole
  pub room : r.steps ≤ most_steps (gap x.count m)

abbrev Ended : Bool → Kind → ℕ → Value → Outcome → Type 0
Ended true κ m x r = Finished κ m x r
Ended false κ m x r = Unfinished m x r

abbrev pub Sound : Kind → ℕ → Value → Outcome → Type 0
Sound κ m x r = Ended r.done κ m x r

pub sound_finished : (κ : Kind) (m : ℕ) (x : Value) (r : Outcome) → Sound κ m x r → r.done ≡ true → Finished κ m x r
sound_finished κ m x r h e = subst (λ (d : Bool). Ended d κ m x r) e h

pub sound_unfinished : (κ : Kind) (m : ℕ) (x : Value) (r : Outcome) → Sound κ m x r → r.done ≡ false → Unfinished m x r
sound_unfinished κ m x r h e = subst (λ (d : Bool). Ended d κ m x r) e h

pub sound_bound : (κ : Kind) (m : ℕ) (x : Value) (r : Outcome) → Sound κ m x r → r.steps ≤ most_steps (gap x.count m)
sound_bound κ m x r = go r.done
  where
    go : (d : Bool) → Ended d κ m x r → r.steps ≤ most_steps (gap x.count m)
    go true h = h.room
    go false h = omega arith

pub sound_ends : (κ : Kind) (m : ℕ) (x : Value) (r : Outcome) → Sound κ m x r → most_steps (gap x.count m) ≤ r.steps → r.done ≡ true
sound_ends κ m x r h l = go r.done h
  where
    go : (d : Bool) → Ended d κ m x r → d ≡ true
    go true h = refl
    go false h = clash (omega (arith, most_pos r.value.count m, h.room))

-- nothing is done yet
pub sound_none : (κ : Kind) (m : ℕ) (x : Value) → Sound κ m x (record { done = false; value = x; whole = 0; steps = 0 })
sound_none κ m x = record { sign = refl; sum = omega arith; even = refl; room = omega arith }

pub sound_finish : (κ : Kind) (m : ℕ) (x : Value) → Sound κ m x (finish κ (by m) x)
unfolding finish finish_by
sound_finish κ m x = record { value = refl; whole = refl; room = most_pos x.count m }

-- a cut at any place from 1 up to 32 below the gap
cut_even : (q j : ℕ) → 0 < j → q * 2 ^ j % 2 ≡ 0
cut_even q Prim.Native.Nat.zero h = elim h [ ]
cut_even q (suc j) h = rw (pow-suc 2 j, ← mul_assoc q (2 ^ j) 2) (mul-mod_left _ _)

pub sound_cut : (κ : Kind) (m j : ℕ) (x : Value) → 0 < m → 64 ≤ excess x.count m → 0 < j → j + 32 ≤ excess x.count m → Sound κ m x (cut_at j m x)
unfolding cut_at
sound_cut κ m j x p l o g =
    let n = x.count in
    let f = cut_size j m x p in
    record {
      sign = refl;
      sum = cut_sum j m x;
      even = cut_even (n / (m * 2 ^ j)) j o;
      room = most_falls n (n % (m * 2 ^ j)) m l (omega arith);
    }

pub sound_step : (κ : Kind) (n m : ℕ) (x : Value) → 0 < m → sized n ≡ true → Sound κ m x (step κ n (by m) x)
sound_step κ n m x p z =
    step_cases (Sound κ m x) κ n m x (λ e. sound_finish κ m x)
    (λ e q l j i. let u = used_places n (gap x.count m) z l in sound_cut κ m j x p (omega arith) (rw i u.0) (omega arith))

-- finishing what is left finishes the first dividend, and the quotient is what is missing of it
unfinished_finish : (κ : Kind) (m : ℕ) (x : Value) (r : Outcome) → 0 < m → Unfinished m x r → finish κ (by m) x ≡ shifted r.whole (finish κ (by m) r.value)
unfinished_finish κ m x r p g =
    let e : x ≡ record { negative = r.value.negative; count = r.value.count + m * r.whole } = λ i. record { negative = sym g.sign i; count = g.sum i } in
    ap (finish κ (by m)) e ∙ finish_shift κ m r.value.negative r.value.count r.whole p g.even

-- one outcome after another
pub sound_followed : (κ : Kind) (m : ℕ) (x : Value) (r s : Outcome) → 0 < m → r.done ≡ false → Sound κ m x r → Sound κ m r.value s
    → Sound κ m x (followed r s)
sound_followed κ m x r s p e f = go s.done (sound_unfinished κ m x r f e)
  where
    go : (d : Bool) → Unfinished m x r → Ended d κ m r.value s → Ended d κ m x (followed r s)
    go true g h =
        let f = unfinished_finish κ m x r p g in
        record {
          value = h.value ∙ sym (ap (λ (z : Outcome). z.value) f);
          whole = ap (λ (z : ℕ). r.whole + z) h.whole ∙ sym (ap (λ (z : Outcome). z.whole) f);
          room = omega arith;
        }
    go false g h = record { sign = h.sign ∙ g.sign; sum = omega arith; even = omega arith; room = omega arith }

pub sound_continued : (κ : Kind) (m : ℕ) (x : Value) (r s : Outcome) → 0 < m → Sound κ m x r → Sound κ m r.value s → Sound κ m x (continued r s)
sound_continued κ m x r s p g h = go r.done refl
  where
    go : (d : Bool) → r.done ≡ d → Sound κ m x (cond d r (followed r s))
    go true e = g
    go false e = sound_followed κ m x r s p e g h
