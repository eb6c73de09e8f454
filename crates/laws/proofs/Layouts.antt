-- The two layouts. Only this file tells them apart: what it says of both is all that the other laws use. Assumes nothing.
use mathlib.Core.Path.{◌≡◌, refl, sym, ap, ◌∙◌}
use mathlib.Core.Bool.{Bool, true, false, cond}
use Prim.Native.Nat.{ℕ, suc, ◌+◌, ◌-◌, ◌*◌, ◌/◌, ◌^◌, ◌≤◌, ◌<◌}
use native.Mathlib.Nat.{mul-one, zero-add, le_refl, le-add_right}
use native.Mathlib.Omega.{arith}
use borrow.Author.Tests.{le-leb, lt-leb, leb-true, ne_eqb, eq-eqb, eqb-true, eqb-false}
use lib.Dec.{leb, eqb, eqb-suc-zero}
use lib.Pow.{pow_pos}
use Rattle.digits.proofs.Tests.{clash}
use Rattle.definitions.specs.Class.{Value, Class, finite, infinite, nan}
use Rattle.definitions.specs.Format.{Format, Regular, top_field, leading, stored_weight, field_weight, hidden_part, fields_class, body, quiet, infinity}
use Rattle.definitions.specs.declared.Layout.{Layout}
use Rattle.definitions.specs.declared.Layout.TheVariants.{Hidden, Explicit}
use Rattle.laws.proofs.Representable.{leading_twice}

-- a sign and the significand s that has dropped j digits, as a class
abbrev pub number : Bool → ℕ → ℕ → Class
number n j s = finite (record { negative = n; count = s * 2 ^ j })

-- ---- weights
pub weight_pos : (l : Layout) (p : ℕ) → 0 < stored_weight l p
weight_pos Hidden p = pow_pos (p - 1)
weight_pos Explicit p = pow_pos p

-- what the pattern leaves out and what it stores make one significand
pub weight : (l : Layout) (f : Format) → Regular f → hidden_part l (leading f) + stored_weight l f.precision ≡ leading f + leading f
weight Hidden f r = refl
weight Explicit f r = zero-add (2 ^ f.precision) ∙ leading_twice f r

pub hidden_weight : (f : Format) → f.layout ≡ Hidden → field_weight f ≡ leading f
hidden_weight f h = rw h

pub hidden_le : (l : Layout) (h : ℕ) → hidden_part l h ≤ h
hidden_le Hidden h = le_refl h
hidden_le Explicit h = omega arith

pub hidden_infinity : (l : Layout) (h : ℕ) → hidden_part l h + infinity l h ≡ h
hidden_infinity Hidden h = omega arith
hidden_infinity Explicit h = omega arith

pub quiet_is : (l : Layout) (h : ℕ) → quiet l h ≡ infinity l h + h / 2
quiet_is Hidden h = omega arith
quiet_is Explicit h = refl

suc_sub_one : (j : ℕ) → suc j - 1 ≡ j
suc_sub_one j = omega arith

-- ---- field 0, each field between, and the largest
pub low_read : (l : Layout) (f : Format) (n : Bool) (t : ℕ) → fields_class l f n 0 t ≡ number n 0 t
low_read Hidden f n t = rw (ne_eqb 0 (top_field f) (omega arith), mul-one t)
low_read Explicit f n t = rw (mul-one t)

pub high_read : (l : Layout) (f : Format) (n : Bool) (j t : ℕ) → suc j < top_field f → leading f ≤ hidden_part l (leading f) + t
    → fields_class l f n (suc j) t ≡ number n j (hidden_part l (leading f) + t)
high_read Hidden f n j t h g = rw (ne_eqb (suc j) (top_field f) (omega arith), eqb-suc-zero j, suc_sub_one j)
high_read Explicit f n j t h g =
    rw (zero-add t, eqb-suc-zero j, le-leb (leading f) t (omega arith), ne_eqb (suc j) (top_field f) (omega arith), suc_sub_one j)

pub top_read : (l : Layout) (f : Format) (n : Bool) (t : ℕ) → leading f ≤ hidden_part l (leading f) + t
    → fields_class l f n (top_field f) t ≡ cond (eqb t (infinity l (leading f))) (infinite n) (nan n t)
top_read Hidden f n t g = rw (eq-eqb (top_field f) (top_field f) refl)
top_read Explicit f n t g = rw (ne_eqb (top_field f) 0 (omega arith), le-leb (leading f) t (omega arith), eq-eqb (top_field f) (top_field f) refl)

-- a leading digit beside the field 0 is the number that it is beside the field 1; a hidden one cannot stand there
pub pseudo_read : (l : Layout) (f : Format) (n : Bool) (t : ℕ) → 1 < top_field f → leading f ≤ t → t < stored_weight l f.precision
    → fields_class l f n 0 t ≡ fields_class l f n 1 t
pseudo_read Hidden f n t h g w = absurd (omega arith)
pseudo_read Explicit f n t h g w = low_read Explicit f n t ∙ sym (high_read Explicit f n 0 t h (omega arith) ∙ ap (number n 0) (zero-add t))

-- ---- how a significand that has dropped j digits is written
pub low_body : (l : Layout) (f : Format) (t : ℕ) → t < leading f → body f l 0 t ≡ t
low_body Hidden f t h = omega arith
low_body Explicit f t h = rw (lt-leb (leading f) t h) (omega arith)

pub high_body : (l : Layout) (f : Format) (j t : ℕ) → f.layout ≡ l → leading f ≤ hidden_part l (leading f) + t
    → body f l j (hidden_part l (leading f) + t) ≡ suc j * field_weight f + t
high_body Hidden f j t e g = rw e (omega arith)
high_body Explicit f j t e g = rw (zero-add t, le-leb (leading f) t (omega arith)) (omega arith)

-- ---- what a finite pattern's significand is bounded by
pub finite_high : (l : Layout) (f : Format) (n : Bool) (j t : ℕ) (v : Value) → fields_class l f n (suc j) t ≡ finite v → leading f ≤ hidden_part l (leading f) + t
finite_high Hidden f n j t v e = le-add_right (leading f) t
finite_high Explicit f n j t v e = go (leb (leading f) t) refl
  where
    go : (b : Bool) → leb (leading f) t ≡ b → leading f ≤ 0 + t
    go true q = omega (arith, leb-true (leading f) t q)
    go false q = let d = rw (eqb-suc-zero j, q) at e in clash (cc)

-- ---- which patterns are infinities, and which NaNs
pub infinite_top : (l : Layout) (f : Format) (m n : Bool) (e t : ℕ) → fields_class l f m e t ≡ infinite n
    → (e ≡ top_field f) × (t ≡ infinity l (leading f)) × (m ≡ n)
infinite_top Hidden f m n e t c = go (eqb e (top_field f)) (eqb t 0) refl refl
  where
    go : (a b : Bool) → eqb e (top_field f) ≡ a → eqb t 0 ≡ b → (e ≡ top_field f) × (t ≡ 0) × (m ≡ n)
    go true true p q = let d = rw (p, q) at c in (eqb-true e (top_field f) p, eqb-true t 0 q, (cc))
    go true false p q = let d = rw (p, q) at c in clash (cc)
    go false b p q = let d = rw p at c in clash (cc)
infinite_top Explicit f m n e t c = go (eqb e 0) (leb (leading f) t) (eqb e (top_field f)) (eqb t (leading f)) refl refl refl refl
  where
    go : (z j a b : Bool) → eqb e 0 ≡ z → leb (leading f) t ≡ j → eqb e (top_field f) ≡ a → eqb t (leading f) ≡ b
        → (e ≡ top_field f) × (t ≡ leading f) × (m ≡ n)
    go true j a b u v p q = let d = rw u at c in clash (cc)
    go false false a b u v p q = let d = rw (u, v) at c in clash (cc)
    go false true false b u v p q = let d = rw (u, v, p) at c in clash (cc)
    go false true true false u v p q = let d = rw (u, v, p, q) at c in clash (cc)
    go false true true true u v p q = let d = rw (u, v, p, q) at c in (eqb-true e (top_field f) p, eqb-true t (leading f) q, (cc))

pub nan_top : (l : Layout) (f : Format) (m n : Bool) (e t s : ℕ) → fields_class l f m e t ≡ nan n s
    → (e ≡ top_field f) × (t ≡ s) × (m ≡ n) × (leading f ≤ hidden_part l (leading f) + t) × (t ≡ infinity l (leading f) → ⊥)
nan_top Hidden f m n e t s c = go (eqb e (top_field f)) (eqb t 0) refl refl
  where
    go : (a b : Bool) → eqb e (top_field f) ≡ a → eqb t 0 ≡ b
        → (e ≡ top_field f) × (t ≡ s) × (m ≡ n) × (leading f ≤ leading f + t) × (t ≡ 0 → ⊥)
    go true true p q = let d = rw (p, q) at c in clash (cc)
    go true false p q = let d = rw (p, q) at c in (eqb-true e (top_field f) p, (cc), (cc), le-add_right (leading f) t, eqb-false t 0 q)
    go false b p q = let d = rw p at c in clash (cc)
nan_top Explicit f m n e t s c = go (eqb e 0) (leb (leading f) t) (eqb e (top_field f)) (eqb t (leading f)) refl refl refl refl
  where
    go : (z j a b : Bool) → eqb e 0 ≡ z → leb (leading f) t ≡ j → eqb e (top_field f) ≡ a → eqb t (leading f) ≡ b
        → (e ≡ top_field f) × (t ≡ s) × (m ≡ n) × (leading f ≤ 0 + t) × (t ≡ leading f → ⊥)
    go true j a b u v p q = let d = rw u at c in clash (cc)
    go false false a b u v p q = let d = rw (u, v) at c in clash (cc)
    go false true false b u v p q = let d = rw (u, v, p) at c in clash (cc)
    go false true true true u v p q = let d = rw (u, v, p, q) at c in clash (cc)
    go false true true false u v p q =
        let d = rw (u, v, p, q) at c in
        (eqb-true e (top_field f) p, (cc), (cc), omega (arith, leb-true (leading f) t v), eqb-false t (leading f) q)
