-- What the remainder, scaling, splitting and the difference return is the pattern of a class that the format holds. Assumes nothing.
use mathlib.Core.Path.{◌≡◌, refl, subst}
use mathlib.Core.Bool.{Bool, true, false, cond}
use Prim.Native.Nat.{ℕ, ◌<◌}
use native.Mathlib.Omega.{arith}
use borrow.Author.Tests.{eqb-false}
use lib.Dec.{eqb}
use lib.IntN.{ℤ}
use Rattle.digits.proofs.Tests.{clash}
use Rattle.definitions.specs.Class.{Value, Class, unsupported, nan, infinite, finite}
use Rattle.definitions.specs.Format.{Format, Regular, Representable, Holds, class_of, pattern_of, patterns, ordinary, house_nan}
use Rattle.definitions.specs.Numbers.{first, accepted, dividing}
use Rattle.definitions.specs.Facts.{chosen, nan_of, refused_value}
use Rattle.definitions.specs.Division.{by, finish, finish_by, dividend_of, divisor_of}
use Rattle.definitions.specs.Remainder.{remainder_of, remainder}
use Rattle.definitions.specs.Scale.{scaling, scale_class, scale_of, scale_report, significand_of, splitting, split_of, split_report}
use Rattle.definitions.specs.Difference.{difference_class, difference}
use Rattle.definitions.specs.declared.Kind.{Kind}
use Rattle.laws.proofs.Division.{finish_held}
use Rattle.laws.proofs.RoundTrip.{pattern_small, read_holds, infinite_small, nan_small, house_nan_small}
use Rattle.laws.proofs.Nan.{quiet_class, nan_held}
use Rattle.laws.proofs.Ordinary.{written_ordinary}
use Rattle.laws.proofs.Scaling.{scale_class_held}
use Rattle.laws.proofs.Difference.{difference_holds}
use Rattle.laws.proofs.Splitting.{significand_held}

pub record Result (f : Format) (b : ℕ) : Type 0 where
  pub class : Class
  pub holds : Holds f class
  pub is : pattern_of f class ≡ b

-- so that it is a pattern of the format, and an ordinary one
module _ (f : Format) (r : Regular f) where
  holds_small : (c : Class) → Holds f c → pattern_of f c < patterns f
  unfolding pattern_of
  holds_small unsupported h = house_nan_small f r
  holds_small (nan n s) h = nan_small f r n s h
  holds_small (infinite n) h = infinite_small f r n
  holds_small (finite v) h = pattern_small f r v h

  pub result_small : {b : ℕ} → Result f b → b < patterns f
  result_small k = subst (λ (b : ℕ). b < patterns f) k.is (holds_small k.class k.holds)

  pub result_ordinary : {b : ℕ} → Result f b → ordinary f b ≡ true
  result_ordinary k = subst (λ (b : ℕ). ordinary f b ≡ true) k.is (written_ordinary f r k.class k.holds)

-- a refusal's value, and an answer's
pub house_result : (f : Format) → Result f (house_nan f)
unfolding pattern_of
house_result f = record { class = unsupported; holds = tt; is = refl }

pub nan_result : (f : Format) → Regular f → (x y : Class) → Holds f x → Holds f y → Result f (nan_of f x y)
nan_result f r x y hx hy = let h = nan_held f r x y hx hy in record { class = quiet_class f r (chosen x y); holds = h.0; is = h.1 }

pub refused_result : (f : Format) → Regular f → (n : ℕ) (x y : Class) → Holds f x → Holds f y → Result f (refused_value f n x y)
unfolding refused_value
refused_result f r n x y hx hy = go (eqb n 3)
  where
    go : (b : Bool) → Result f (cond b (nan_of f x y) (house_nan f))
    go true = nan_result f r x y hx hy
    go false = house_result f

pub value_result : (f : Format) (v : Value) → Representable f v.count → Result f (pattern_of f (finite v))
value_result f v h = record { class = finite v; holds = h; is = refl }

module _ (f : Format) (r : Regular f) where
  -- the value of a refusal by n, or of an answer
  either_result : (n : ℕ) (x y : Class) (b : ℕ) → Holds f x → Holds f y → (accepted n ≡ true → Result f b) → Result f (cond (accepted n) b (refused_value f n x y))
  either_result n x y b hx hy k = go (accepted n) k
    where
      go : (t : Bool) → (t ≡ true → Result f b) → Result f (cond t b (refused_value f n x y))
      go true h = h refl
      go false h = refused_result f r n x y hx hy

  module _ (κ : Kind) where
    -- two values: by a divisor that is not zero the result is representable
    divided_result : (v w : Value) → Representable f v.count → Representable f w.count
        → accepted (first (dividing (finite v) (finite w))) ≡ true → Result f (pattern_of f (finite (finish κ (by w.count) v).value))
    unfolding first finish
    divided_result v w hv hw = go (eqb w.count 0) refl
      where
        go : (z : Bool) → eqb w.count 0 ≡ z → accepted (cond {A = ℕ} z 5 0) ≡ true → Result f (pattern_of f (finite (finish_by κ w.count v).value))
        go true e a = clash (cc)
        go false e a = value_result f (finish_by κ w.count v).value (finish_held f κ w.count v (omega (arith, eqb-false w.count 0 e)) hw hv)

    -- what is accepted: a finite dividend, and a divisor that is a number
    answer_result : (a b : Class) → Holds f a → Holds f b → accepted (first (dividing a b)) ≡ true
        → Result f (pattern_of f (finite (finish κ (divisor_of b) (dividend_of a)).value))
    unfolding first finish
    answer_result unsupported b ha hb e = clash (cc)
    answer_result (nan m s) unsupported ha hb e = clash (cc)
    answer_result (nan m s) (nan n t) ha hb e = clash (cc)
    answer_result (nan m s) (infinite n) ha hb e = clash (cc)
    answer_result (nan m s) (finite w) ha hb e = clash (cc)
    answer_result (infinite m) unsupported ha hb e = clash (cc)
    answer_result (infinite m) (nan n t) ha hb e = clash (cc)
    answer_result (infinite m) (infinite n) ha hb e = clash (cc)
    answer_result (infinite m) (finite w) ha hb e = clash (cc)
    answer_result (finite v) unsupported ha hb e = clash (cc)
    answer_result (finite v) (nan n t) ha hb e = clash (cc)
    answer_result (finite v) (infinite n) ha hb e = value_result f v ha
    answer_result (finite v) (finite w) ha hb e = divided_result v w ha hb e

    pub remainder_result : (x y : ℕ) → Result f (remainder f κ x y).value
    unfolding remainder remainder_of
    remainder_result x y =
        let X = class_of f x in
        let Y = class_of f y in
        let hx = read_holds f r x in
        let hy = read_holds f r y in
        either_result (first (dividing X Y)) X Y _ hx hy (answer_result X Y hx hy)

  pub difference_result : (x y : ℕ) → Result f (difference f x y)
  unfolding difference
  difference_result x y =
      record { class = difference_class f (class_of f x) (class_of f y); holds = difference_holds f r (class_of f x) (class_of f y); is = refl }

  scaled_result : (c : Class) (k : ℤ) → Holds f c → accepted (first (scaling c)) ≡ true → Result f (pattern_of f (scale_class f c k).class)
  unfolding scale_class first
  scaled_result unsupported k h e = clash (cc)
  scaled_result (nan n s) k h e = clash (cc)
  scaled_result (infinite n) k h e = record { class = infinite n; holds = tt; is = refl }
  scaled_result (finite v) k h e = record { class = (scale_class f (finite v) k).class; holds = scale_class_held f r v h k; is = refl }

  pub scale_result : (x : ℕ) (k : ℤ) → Result f (scale_report f x k).value
  unfolding scale_report scale_of
  scale_result x k = let X = class_of f x in let h = read_holds f r x in either_result (first (scaling X)) X X _ h h (scaled_result X k h)

  parts_result : (c : Class) → Holds f c → accepted (first (splitting c)) ≡ true → Result f (pattern_of f (finite (significand_of f (dividend_of c))))
  unfolding first
  parts_result unsupported h e = clash (cc)
  parts_result (nan n s) h e = clash (cc)
  parts_result (infinite n) h e = clash (cc)
  parts_result (finite v) h a = go (eqb v.count 0) refl a
    where
      go : (z : Bool) → eqb v.count 0 ≡ z → accepted (cond {A = ℕ} z 8 0) ≡ true → Result f (pattern_of f (finite (significand_of f v)))
      go true q e = clash (cc)
      go false q e = value_result f (significand_of f v) (significand_held f r v (omega (arith, eqb-false v.count 0 q)) h)

  pub split_result : (x : ℕ) → Result f (split_report f x).significand
  unfolding split_report split_of
  split_result x = let X = class_of f x in let h = read_holds f r x in either_result (first (splitting X)) X X _ h h (parts_result X h)
