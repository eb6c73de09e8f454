-- The NaN of two operands stands for the NaN of their classes. Assumes nothing.
use mathlib.Core.Path.{◌≡◌, refl, sym, ap, ◌∙◌, subst}
use mathlib.Core.Bool.{Bool, true, false, cond}
use Prim.Native.Nat.{ℕ}
use lib.Dec.{ltb}
use lib.IntN.{ℤ}
use Rattle.definitions.specs.Class.{Class, nan}
use Rattle.definitions.specs.Format.{Format, NanStored, class_of, pattern_of, house_nan}
use Rattle.definitions.specs.Facts.{chosen, quieted, quiet_pattern, nan_of, refused_value}
use Rattle.definitions.specs.Answers.{refusal_number}
use Rattle.definitions.specs.declared.Refusal.{Refusal}
use Rattle.definitions.specs.declared.Refusal.TheVariants as why
use Rattle.operands.specs.declared.Operand.{Operand}
use Rattle.operands.specs.declared.Operand.TheVariants.{Unsupported, Nan, Infinite, Zero, Finite}
use Rattle.operands.specs.Operand.{operand_of, class_in}
use Rattle.shapes.specs.Shape.{Sound}
use Rattle.packing.specs.Stands.{Stands}
use Rattle.packing.proofs.Standing.{class_pattern}
use Rattle.facts.specs.Chosen.{chosen_operand}

-- ---- what the code has found not to be a NaN

pub other_dividend : (x y : Operand) → ((n : Bool) (s : ℕ) → x ≡ Nan n s → ⊥) → y ≡ chosen_operand x y
other_dividend Unsupported y k = refl
other_dividend (Nan m s) y k = absurd (k m s refl)
other_dividend (Infinite n) y k = refl
other_dividend (Zero n) y k = refl
other_dividend (Finite u) y k = refl

pub other_divisor : (m : Bool) (s : ℕ) (y : Operand) → ((n : Bool) (s : ℕ) → y ≡ Nan n s → ⊥) → Nan m s ≡ chosen_operand (Nan m s) y
other_divisor m s Unsupported k = refl
other_divisor m s (Nan n t) k = absurd (k n t refl)
other_divisor m s (Infinite n) k = refl
other_divisor m s (Zero n) k = refl
other_divisor m s (Finite u) k = refl

-- ---- the class of what is chosen

pub class_chosen : (s : ℤ) (x y : Operand) → class_in s (chosen_operand x y) ≡ chosen (class_in s x) (class_in s y)
unfolding class_in
class_chosen s Unsupported y = refl
class_chosen s (Nan m a) Unsupported = refl
class_chosen s (Nan m a) (Nan n b) = go (ltb a b)
  where
    go : (t : Bool) → class_in s (cond t (Nan n b) (Nan m a)) ≡ cond t (nan n b) (nan m a)
    go true = refl
    go false = refl
class_chosen s (Nan m a) (Infinite n) = refl
class_chosen s (Nan m a) (Zero n) = refl
class_chosen s (Nan m a) (Finite u) = refl
class_chosen s (Infinite n) y = refl
class_chosen s (Zero n) y = refl
class_chosen s (Finite u) y = refl

pub chosen_stands : (f : Format) (x y : Operand) → Stands f x → Stands f y → Stands f (chosen_operand x y)
chosen_stands f Unsupported y hx hy = hy
chosen_stands f (Nan m a) Unsupported hx hy = hx
chosen_stands f (Nan m a) (Nan n b) hx hy = go (ltb a b)
  where
    go : (t : Bool) → Stands f (cond t (Nan n b) (Nan m a))
    go true = hy
    go false = hx
chosen_stands f (Nan m a) (Infinite n) hx hy = hx
chosen_stands f (Nan m a) (Zero n) hx hy = hx
chosen_stands f (Nan m a) (Finite u) hx hy = hx
chosen_stands f (Infinite n) y hx hy = hy
chosen_stands f (Zero n) y hx hy = hy
chosen_stands f (Finite u) y hx hy = hy

-- ---- a NaN stands for itself

pub stands_nan : (f : Format) (n : Bool) (s : ℕ) → Stands f (Nan n s) → NanStored f s
unfolding class_in
stands_nan f n s h = h.holds

pub nan_stands : (f : Format) (n : Bool) (s : ℕ) → NanStored f s → Stands f (Nan n s)
unfolding class_in operand_of
nan_stands f n s h = record { is = refl; holds = h }

-- ---- what is returned of it

module _ (f : Format) (x y o : Operand) (is : o ≡ chosen_operand x y) where
  class_is : class_in f.smallest o ≡ chosen (class_in f.smallest x) (class_in f.smallest y)
  class_is = ap (class_in f.smallest) is ∙ class_chosen f.smallest x y

  pub chosen_held : (n : Bool) (s : ℕ) → Stands f x → Stands f y → o ≡ Nan n s → NanStored f s
  chosen_held n s hx hy e = stands_nan f n s (subst (Stands f) (sym is ∙ e) (chosen_stands f x y hx hy))

  -- a NaN made quiet, and the house NaN where there is none
  pub chosen_nan : (n : Bool) (s : ℕ) → o ≡ Nan n s → pattern_of f (nan n (quieted f s)) ≡ nan_of f (class_in f.smallest x) (class_in f.smallest y)
  unfolding nan_of class_in
  chosen_nan n s e = rw (← class_is, e)

  pub chosen_none : ((n : Bool) (s : ℕ) → o ≡ Nan n s → ⊥) → house_nan f ≡ nan_of f (class_in f.smallest x) (class_in f.smallest y)
  unfolding nan_of class_in
  chosen_none k = rw (← class_is) (go o k)
    where
      go : (p : Operand) → ((n : Bool) (s : ℕ) → p ≡ Nan n s → ⊥) → house_nan f ≡ quiet_pattern f (class_in f.smallest p)
      go Unsupported l = refl
      go (Nan n s) l = absurd (l n s refl)
      go (Infinite n) l = refl
      go (Zero n) l = refl
      go (Finite u) l = refl

-- the NaN of the operands of two patterns is that of the patterns
module _ (f : Format) (ok : Sound f) (x y : ℕ) (o p : Operand) (ox : o ≡ operand_of f.smallest (class_of f x)) (py : p ≡ operand_of f.smallest (class_of f y)) where
  pub patterns_nan : nan_of f (class_in f.smallest o) (class_in f.smallest p) ≡ nan_of f (class_of f x) (class_of f y)
  patterns_nan i = nan_of f (class_pattern f ok x o ox i) (class_pattern f ok y p py i)

-- what a refusal that is not 3 returns
pub other_value : (f : Format) (x y : Class) (w : Refusal) → (w ≡ why.Nan → ⊥) → house_nan f ≡ refused_value f (refusal_number w) x y
unfolding refused_value
other_value f x y why.BadLength k = refl
other_value f x y why.BadSize k = refl
other_value f x y why.Unsupported k = refl
other_value f x y why.Nan k = absurd (k refl)
other_value f x y why.Infinite k = refl
other_value f x y why.ZeroDivisor k = refl
other_value f x y why.ZeroSplit k = refl
