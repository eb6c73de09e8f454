-- [2.11, 2.12] The NaN that a refusal returns: one that the format holds, quiet, with all other digits of the operand that is chosen. Assumes nothing.
use mathlib.Core.Path.{◌≡◌, refl, sym, ap, ◌∙◌, subst}
use mathlib.Core.Bool.{Bool, true, false, cond, ◌||◌}
use mathlib.Core.Logic.{◌⊎◌, inl, inr}
use Prim.Native.Nat.{ℕ, ◌+◌, ◌-◌, ◌*◌, ◌/◌, ◌%◌, ◌^◌, ◌<◌}
use native.Mathlib.Nat.{add-div_right, add-mod_right, mul_assoc, mul-add-div_right, div-div-eq-div-mul, div-lt_iff_lt-mul}
use native.Mathlib.Omega.{arith}
use borrow.Author.Tests.{eqb-true, eqb-false}
use lib.Dec.{ltb, eqb}
use lib.Pow.{pow-add, pow_pos}
use Rattle.digits.proofs.Tests.{clash}
use Rattle.definitions.specs.Class.{Class, unsupported, nan, infinite, finite}
use Rattle.definitions.specs.Format.{Format, Regular, NanStored, Holds, top_field, leading, field_weight, stored_weight, with_sign, class_of, pattern_of, house_nan, patterns}
use Rattle.definitions.specs.Numbers.{is_nan}
use Rattle.definitions.specs.Facts.{chosen, quiet_weight, quieted, quiet_pattern, nan_of}
use Rattle.definitions.specs.declared.Layout.{Layout}
use Rattle.definitions.specs.declared.Layout.TheVariants.{Hidden, Explicit}
use Rattle.definitions.proofs.Facts.{chosen_nan, chosen_one, chosen_same}
use Rattle.laws.proofs.Layouts.{hidden_infinity}
use Rattle.laws.proofs.Representable.{leading_twice}
use Rattle.laws.proofs.RoundTrip.{read_nan, written_nan, read_stored, read_house_nan}
use Rattle.laws.proofs.Pattern.{as_digits}

pub even_digit : (q : ℕ) → eqb (q % 2) 1 ≡ false → q % 2 ≡ 0
even_digit q e = let h = eqb-false (q % 2) 1 e in omega arith

-- what lies above one digit more
above_same : (t s w v : ℕ) → v ≡ w * 2 → t / w / 2 ≡ s / w / 2 → t / v ≡ s / v
above_same t s w v e h =
    ap (λ (i : ℕ). t / i) e ∙ sym (div-div-eq-div-mul t w 2) ∙ h ∙ div-div-eq-div-mul s w 2 ∙ sym (ap (λ (i : ℕ). s / i) e)

module _ (f : Format) (r : Regular f) where
  -- the leading digit is two of the weight, and all that is stored is twice or four times it
  pub leading_halves : leading f ≡ quiet_weight f + quiet_weight f
  leading_halves =
      let p : f.precision - 1 ≡ 1 + (f.precision - 2) = omega (arith, r.digits) in
      let e : leading f ≡ 2 * 2 ^ (f.precision - 2) = ap (λ (i : ℕ). 2 ^ i) p ∙ pow-add 2 1 (f.precision - 2) in
      omega arith

  pub quiet_pos : 0 < quiet_weight f
  quiet_pos = omega (arith, leading_halves, pow_pos (f.precision - 1))

  stored_halves : (l : Layout) → (stored_weight l f.precision ≡ 2 * quiet_weight f) ⊎ (stored_weight l f.precision ≡ 4 * quiet_weight f)
  stored_halves Hidden = inl (omega (arith, leading_halves))
  stored_halves Explicit = inr (omega (arith, leading_halves, leading_twice f r))

  module _ (s : ℕ) where
    -- one of the weight more is one digit more
    one_more : (s + quiet_weight f) / quiet_weight f ≡ s / quiet_weight f + 1
    one_more = add-div_right s quiet_pos

    -- and there is room for it where it is missing: c is how many of the weight are stored
    room_in : (c : ℕ) → (s / quiet_weight f < c → s / quiet_weight f + 1 < c) → s < c * quiet_weight f → s + quiet_weight f < c * quiet_weight f
    room_in c up below = (div-lt_iff_lt-mul quiet_pos).0 (rw one_more (up ((div-lt_iff_lt-mul quiet_pos).1 below)))

    pub room : s < field_weight f → s / quiet_weight f % 2 ≡ 0 → s + quiet_weight f < field_weight f
    room below even = go (stored_halves f.layout)
      where
        go : (field_weight f ≡ 2 * quiet_weight f) ⊎ (field_weight f ≡ 4 * quiet_weight f) → s + quiet_weight f < field_weight f
        go (inl e) = rw e (room_in 2 (λ h. omega arith) (rw e at below))
        go (inr e) = rw e (room_in 4 (λ h. omega arith) (rw e at below))

    -- so a NaN made quiet is one that the format holds
    pub quieted_stored : NanStored f s → NanStored f (quieted f s)
    quieted_stored h = go (eqb (s / quiet_weight f % 2) 1) refl
      where
        go : (b : Bool) → eqb (s / quiet_weight f % 2) 1 ≡ b → NanStored f (cond b s (s + quiet_weight f))
        go true e = h
        go false e =
            let i = hidden_infinity f.layout (leading f) in
            let p = quiet_pos in
            let l = h.leads in
            record { below = room h.below (even_digit (s / quiet_weight f) e); leads = omega arith; more = λ z. omega arith }

    -- the digit is there, and all others are as they were
    pub quieted_digit : quieted f s / quiet_weight f % 2 ≡ 1
    quieted_digit = go (eqb (s / quiet_weight f % 2) 1) refl
      where
        go : (b : Bool) → eqb (s / quiet_weight f % 2) 1 ≡ b → cond b s (s + quiet_weight f) / quiet_weight f % 2 ≡ 1
        go true e = eqb-true (s / quiet_weight f % 2) 1 e
        go false e = rw one_more (omega (arith, even_digit (s / quiet_weight f) e))

    pub quieted_low : quieted f s % quiet_weight f ≡ s % quiet_weight f
    quieted_low = go (eqb (s / quiet_weight f % 2) 1)
      where
        go : (b : Bool) → cond b s (s + quiet_weight f) % quiet_weight f ≡ s % quiet_weight f
        go true = refl
        go false = add-mod_right s (quiet_weight f)

    pub quieted_high : quieted f s / leading f ≡ s / leading f
    quieted_high =
        above_same (quieted f s) s (quiet_weight f) (leading f) (omega (arith, leading_halves)) (go (eqb (s / quiet_weight f % 2) 1) refl)
      where
        go : (b : Bool) → eqb (s / quiet_weight f % 2) 1 ≡ b → cond b s (s + quiet_weight f) / quiet_weight f / 2 ≡ s / quiet_weight f / 2
        go true e = refl
        go false e = rw one_more (omega (arith, even_digit (s / quiet_weight f) e))

  -- ---- on patterns: a NaN made quiet is its own pattern with that digit

  -- whole significands above a number change no digit of it
  digit_of_lem : (k m c s : ℕ) → c ≡ m * quiet_weight f → k * m % 2 ≡ 0 → (k * c + s) / quiet_weight f % 2 ≡ s / quiet_weight f % 2
  digit_of_lem k m c s e even =
      let p : k * c + s ≡ k * m * quiet_weight f + s = rw (e, mul_assoc k m (quiet_weight f)) in
      rw (p, mul-add-div_right quiet_pos (k * m) s) (omega (arith, even))

  digit_in_lem : (k s : ℕ) → (k * field_weight f + s) / quiet_weight f % 2 ≡ s / quiet_weight f % 2
  digit_in_lem k s = go (stored_halves f.layout)
    where
      go : (field_weight f ≡ 2 * quiet_weight f) ⊎ (field_weight f ≡ 4 * quiet_weight f) → (k * field_weight f + s) / quiet_weight f % 2 ≡ s / quiet_weight f % 2
      go (inl e) = digit_of_lem k 2 (field_weight f) s e (omega arith)
      go (inr e) = digit_of_lem k 4 (field_weight f) s e (omega arith)

  pub quiet_bits : (b : ℕ) (n : Bool) (s : ℕ) → b < patterns f → class_of f b ≡ nan n s
      → pattern_of f (nan n (quieted f s)) ≡ cond (eqb (b / quiet_weight f % 2) 1) b (b + quiet_weight f)
  unfolding pattern_of
  quiet_bits b n s h e =
      rw (sym is, whole, digit_in_lem (cond n 1 0 * (top_field f + 1) + top_field f) s)
      (go (eqb (s / quiet_weight f % 2) 1))
    where
      is : with_sign f n (top_field f * field_weight f + s) ≡ b
      is = written_nan f r b n s h e

      whole : with_sign f n (top_field f * field_weight f + s) ≡ (cond n 1 0 * (top_field f + 1) + top_field f) * field_weight f + s
      whole = as_digits f (top_field f) s (omega arith) (read_stored f r b n s e).below n

      go : (t : Bool) → with_sign f n (top_field f * field_weight f + cond t s (s + quiet_weight f))
          ≡ cond t ((cond n 1 0 * (top_field f + 1) + top_field f) * field_weight f + s) ((cond n 1 0 * (top_field f + 1) + top_field f) * field_weight f + s + quiet_weight f)
      go true = whole
      go false = omega (arith, whole)

  -- ---- the NaN of two operands

  chosen_holds : (x y : Class) → Holds f x → Holds f y → Holds f (chosen x y)
  chosen_holds unsupported y hx hy = hy
  chosen_holds (nan m s) unsupported hx hy = hx
  chosen_holds (nan m s) (nan n t) hx hy = go (ltb s t)
    where
      go : (b : Bool) → Holds f (cond b (nan n t) (nan m s))
      go true = hy
      go false = hx
  chosen_holds (nan m s) (infinite n) hx hy = hx
  chosen_holds (nan m s) (finite w) hx hy = hx
  chosen_holds (infinite n) y hx hy = hy
  chosen_holds (finite v) y hx hy = hy

  -- what the chosen operand is, made quiet: a NaN of its sign, or the house NaN
  pub quiet_class : Class → Class
  quiet_class unsupported = unsupported
  quiet_class (nan n s) = nan n (quieted f s)
  quiet_class (infinite n) = unsupported
  quiet_class (finite v) = unsupported

  quiet_holds : (c : Class) → Holds f c → Holds f (quiet_class c)
  unfolding quiet_class
  quiet_holds unsupported h = tt
  quiet_holds (nan n s) h = quieted_stored s h
  quiet_holds (infinite n) h = tt
  quiet_holds (finite v) h = tt

  quiet_is : (c : Class) → pattern_of f (quiet_class c) ≡ quiet_pattern f c
  unfolding quiet_class pattern_of
  quiet_is unsupported = refl
  quiet_is (nan n s) = refl
  quiet_is (infinite n) = refl
  quiet_is (finite v) = refl

  -- so it is the pattern of a class that the format holds
  pub nan_held : (x y : Class) → Holds f x → Holds f y → Holds f (quiet_class (chosen x y)) × (pattern_of f (quiet_class (chosen x y)) ≡ nan_of f x y)
  unfolding nan_of
  nan_held x y hx hy = (quiet_holds (chosen x y) (chosen_holds x y hx hy), quiet_is (chosen x y))

  -- and it is read as a NaN with the sign of the chosen one and its significand made quiet; where there is none, as the house NaN
  pub nan_chosen : (x y : Class) (n : Bool) (s : ℕ) → Holds f x → Holds f y → chosen x y ≡ nan n s → class_of f (nan_of f x y) ≡ nan n (quieted f s)
  unfolding nan_of
  nan_chosen x y n s hx hy e = rw e (read_nan f r n (quieted f s) (quieted_stored s (subst (Holds f) e (chosen_holds x y hx hy))))

  pub nan_alone : (y : Class) (n : Bool) (s : ℕ) → is_nan y ≡ false → nan_of f (nan n s) y ≡ pattern_of f (nan n (quieted f s))
  unfolding nan_of
  nan_alone y n s e = rw (chosen_one y n s e).1

  -- an operand with itself
  pub nan_itself : (n : Bool) (s : ℕ) → nan_of f (nan n s) (nan n s) ≡ pattern_of f (nan n (quieted f s))
  unfolding nan_of
  nan_itself n s = rw (chosen_same (nan n s))

  pub nan_none : (x y : Class) → is_nan x || is_nan y ≡ false → nan_of f x y ≡ house_nan f
  unfolding nan_of
  nan_none x y e = go (chosen x y) (chosen_nan x y ∙ e)
    where
      go : (c : Class) → is_nan c ≡ false → quiet_pattern f c ≡ house_nan f
      go unsupported u = refl
      go (nan n s) u = clash (cc)
      go (infinite n) u = refl
      go (finite v) u = refl

  pub nan_always : (x y : Class) → Holds f x → Holds f y → is_nan (class_of f (nan_of f x y)) ≡ true
  unfolding nan_of
  nan_always x y hx hy = go (chosen x y) (chosen_holds x y hx hy)
    where
      go : (c : Class) → Holds f c → is_nan (class_of f (quiet_pattern f c)) ≡ true
      go unsupported h = ap is_nan (read_house_nan f r)
      go (nan n s) h = ap is_nan (read_nan f r n (quieted f s) (quieted_stored s h))
      go (infinite n) h = ap is_nan (read_house_nan f r)
      go (finite v) h = ap is_nan (read_house_nan f r)
