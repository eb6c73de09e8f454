-- The fields in the words of a pattern, for each layout, and the words of fields. Assumes nothing.
use mathlib.Core.Path.{◌≡◌, ap, ◌∙◌}
use mathlib.Core.Bool.{Bool, true, false, not}
use Prim.Native.Nat.{ℕ, ◌+◌, ◌*◌, ◌/◌, ◌%◌, ◌^◌, ◌≤◌, ◌<◌}
use native.Mathlib.Nat.{mul-le-mul_right, mod-lt, div-add-mod', div-lt_iff_lt-mul}
use native.Mathlib.Omega.{arith}
use borrow.Author.Tests.{le-leb, lt-leb}
use lib.Arith.{digits_div, digits_mod, digits_lt}
use lib.Dec.{T, leb, ltb, ltb→lt, nltb→le}
use Rattle.definitions.specs.Format.{Format, top_field, leading, field_weight, sign_weight, patterns, with_sign}
use Rattle.definitions.specs.Answers.{joined}
use Rattle.definitions.specs.declared.Layout.TheVariants.{Hidden, Explicit}
use Rattle.definitions.specs.declared.Pattern.{Pattern}
use Rattle.laws.proofs.Layouts.{hidden_weight}
use Rattle.shapes.specs.Shape.{Sound, above, fields_above, fields_in}
use Rattle.shapes.proofs.Weights.{leading_pos, hidden_patterns, explicit_weight}

-- what stands above the stored significand t, as a, has the sign if it exceeds the largest field
module _ (f : Format) (a t : ℕ) (rest : t < field_weight f) where
  sign_above : leb (sign_weight f) (a * field_weight f + t) ≡ ltb (top_field f) a
  sign_above = go (ltb (top_field f) a) (ltb→lt (top_field f) a) (nltb→le (top_field f) a)
    where
      go : (n : Bool) → (T n → top_field f < a) → (T (not n) → a ≤ top_field f) → leb (sign_weight f) (a * field_weight f + t) ≡ n
      go true h g =
          let l : (top_field f + 1) * field_weight f ≤ a * field_weight f = mul-le-mul_right (field_weight f) (omega (arith, h tt)) in
          le-leb (sign_weight f) (a * field_weight f + t) (omega arith)
      go false h g =
          let l = digits_lt {q = a} {m = top_field f + 1} (omega (arith, g tt)) rest in
          lt-leb (sign_weight f) (a * field_weight f + t) (omega arith)

  fields_above_lem : fields_above (top_field f) a t ≡ fields_in f (a * field_weight f + t)
  fields_above_lem = rw (sign_above, digits_div a rest, digits_mod a rest)

module _ (f : Format) (ok : Sound f) (p : Pattern) (small : joined p < patterns f) where
  -- with a hidden leading digit the high word is 0
  module _ (hidden : f.layout ≡ Hidden) where
    low_alone : p.low ≡ joined p
    low_alone = omega (arith, hidden_patterns f ok hidden)

    pub hidden_above : p.low / leading f < 2 * (top_field f + 1)
    hidden_above =
        (div-lt_iff_lt-mul (leading_pos f ok)).1
        (let l : p.low < patterns f = rw low_alone small in omega (arith, rw (hidden_weight f hidden) at l))

    pub hidden_fields : fields_above (top_field f) (p.low / leading f) (p.low % leading f) ≡ fields_in f (joined p)
    hidden_fields =
        let w = hidden_weight f hidden in
        let l : p.low % leading f < field_weight f = rw w (mod-lt p.low (leading_pos f ok)) in
        fields_above_lem f (p.low / leading f) (p.low % leading f) l
        ∙ ap (fields_in f) (ap (λ (h : ℕ). p.low / leading f * h + p.low % leading f) w ∙ div-add-mod' p.low (leading f) ∙ low_alone)

  -- an explicit significand fills the low word
  module _ (explicit : f.layout ≡ Explicit) where
    pub explicit_above : p.high < 2 * (top_field f + 1)
    explicit_above = let h = rw (explicit_weight f ok explicit) at small in omega arith

    pub explicit_fields : p.low < 2 ^ 64 → fields_above (top_field f) p.high p.low ≡ fields_in f (joined p)
    explicit_fields h =
        let w = explicit_weight f ok explicit in
        fields_above_lem f p.high p.low (rw w h) ∙ ap (λ (h : ℕ). fields_in f (p.high * h + p.low)) w

-- an exponent field with the sign over it
module _ (f : Format) (e t : ℕ) where
  pub above_pattern : (n : Bool) → above f n e * field_weight f + t ≡ with_sign f n (e * field_weight f + t)
  above_pattern true = omega arith
  above_pattern false = omega arith

  above_small : e ≤ top_field f → (n : Bool) → above f n e < 2 * (top_field f + 1)
  above_small h true = omega arith
  above_small h false = omega arith

  -- a hidden leading digit: both go into one word
  pub hidden_word : Sound f → f.layout ≡ Hidden → e ≤ top_field f → t < field_weight f → (n : Bool) → above f n e * leading f + t < 2 ^ 64
  hidden_word ok hidden h g n =
      let w = hidden_weight f hidden in
      let l = digits_lt {q = above f n e} {m = 2 * (top_field f + 1)} {r = t} {c = leading f} (above_small h n) (rw w at g) in
      let k = rw w at (hidden_patterns f ok hidden) in
      omega arith
