-- What the remainder on counts comes to, said without its definition: a count that the format holds, by the magnitude rule, below the
-- divisor or at most its half; the same in a finer unit, and the same when it is taken again. Assumes nothing.
use mathlib.Core.Path.{◌≡◌, refl, sym, ap, ◌∙◌, subst}
use mathlib.Core.Bool.{Bool, true, false, not, cond, ◌&&◌, ◌||◌}
use Prim.Native.Nat.{ℕ, zero, suc, ◌+◌, ◌-◌, ◌*◌, ◌/◌, ◌%◌, ◌^◌, ◌≤◌, ◌<◌}
use native.Mathlib.Nat.{le_trans, mod-lt, mod-le, mod-eq_of_lt, div-eq_of_lt, mul-one, mul_assoc, mul-div-mul_right, mod-add-div}
use native.Mathlib.Omega.{arith}
use borrow.Author.Tests.{ltb-true, ltb-false, eqb-true, eqb-false, lt-ltb, le-ltb}
use lib.Dec.{ltb, eqb}
use lib.IntN.{ℤ, pos, negsuc, neg_ℤ, ◌+ℤ◌, ◌*ℤ◌, neg_ℤ-neg_ℤ, neg_ℤ-+ℤ, zero-*ℤ, *ℤ_comm, +ℤ_comm, +ℤ-neg_ℤ_cancel}
use Rattle.digits.specs.Digits.{Digits}
use Rattle.digits.proofs.Tests.{clash}
use Rattle.digits.proofs.Size.{size_mono}
use Rattle.digits.proofs.Digits.{digits_mod, digits_up}
use Rattle.digits.proofs.Common.{mod_scale, sub_scale, ltb_scale, eqb_scale}
use Rattle.definitions.specs.Class.{Value, signed, value_of, combined}
use Rattle.definitions.specs.Format.{Format, Representable}
use Rattle.definitions.specs.declared.Kind.{Kind}
use Rattle.definitions.specs.declared.Kind.TheVariants.{Truncated, Nearest}
use Rattle.definitions.specs.Division.{Outcome, unbounded, rounds_up, finish_by, finish}
use Rattle.definitions.specs.Steps.{cut_at}

-- a quotient goes up only from a half of the divisor on
pub up_half : (κ : Kind) (q r m : ℕ) → rounds_up κ q r m ≡ true → m ≤ 2 * r
up_half Truncated q r m e = clash (cc)
up_half Nearest q r m e = go (ltb m (2 * r)) (eqb m (2 * r)) refl refl e
  where
    go : (a b : Bool) → ltb m (2 * r) ≡ a → eqb m (2 * r) ≡ b → a || (b && eqb (q % 2) 1) ≡ true → m ≤ 2 * r
    go true b ea eb u = omega (arith, ltb-true m (2 * r) ea)
    go false true ea eb u = omega (arith, eqb-true m (2 * r) eb)
    go false false ea eb u = clash (cc)

-- what has few enough digits and is no more than a count that the format holds
pub held_below : (f : Format) (n v : ℕ) → Representable f n → v ≤ n → Digits f.precision v → Representable f v
held_below f n v h l d = record { digits = d; range = le_trans (size_mono v n l) h.range }

left_held : (f : Format) (n m j : ℕ) → 0 < m → Representable f m → Representable f n → Representable f (n % (m * 2 ^ j))
left_held f n m j h hm hn = held_below f n (n % (m * 2 ^ j)) hn (mod-le n (m * 2 ^ j)) (digits_mod f.precision n m j h hn.digits hm.digits)

-- a partial value is representable
pub cut_held : (f : Format) (j m : ℕ) (x : Value) → 0 < m → Representable f m → Representable f x.count → Representable f (cut_at j m x).value.count
unfolding cut_at
cut_held f j m x h hm hx = left_held f x.count m j h hm hx

-- [3.4] the result is representable
pub finish_held : (f : Format) (κ : Kind) (m : ℕ) (x : Value) → 0 < m → Representable f m → Representable f x.count → Representable f (finish_by κ m x).value.count
unfolding finish_by
finish_held f κ m x h hm hx = go (rounds_up κ (n / m) (n % m) m) (up_half κ (n / m) (n % m) m)
  where
    n : ℕ
    n = x.count

    go : (u : Bool) → (u ≡ true → m ≤ 2 * (n % m)) → Representable f (cond u (m - n % m) (n % m))
    go true l = held_below f n (m - n % m) hx (omega (arith, l refl, mod-le n m)) (digits_up f.precision n m h hx.digits hm.digits (l refl))
    go false l = subst (λ (z : ℕ). Representable f (n % z)) (mul-one m) (left_held f n m 0 h hm hx)

-- ---- the magnitude rule

neg_mul : (a b : ℤ) → neg_ℤ a *ℤ b ≡ neg_ℤ (a *ℤ b)
neg_mul (pos zero) b = zero-*ℤ b ∙ sym (ap neg_ℤ (zero-*ℤ b))
neg_mul (pos (suc a)) (pos b) = refl
neg_mul (pos (suc a)) (negsuc b) = sym (neg_ℤ-neg_ℤ (pos (suc a * suc b)))
neg_mul (negsuc a) (pos b) = sym (neg_ℤ-neg_ℤ (pos (suc a * b)))
neg_mul (negsuc a) (negsuc b) = refl

mul_neg : (a b : ℤ) → a *ℤ neg_ℤ b ≡ neg_ℤ (a *ℤ b)
mul_neg a b = *ℤ_comm a (neg_ℤ b) ∙ neg_mul b a ∙ ap neg_ℤ (*ℤ_comm b a)

-- the divisor's sign, combined with s and taken again, leaves s
pub signed_mul : (s t : Bool) (m w : ℕ) → signed t m *ℤ signed (combined s t) w ≡ signed s (m * w)
signed_mul false false m w = refl
signed_mul false true m w = neg_mul (pos m) (neg_ℤ (pos w)) ∙ ap neg_ℤ (mul_neg (pos m) (pos w)) ∙ neg_ℤ-neg_ℤ (pos (m * w))
signed_mul true false m w = mul_neg (pos m) (pos w)
signed_mul true true m w = neg_mul (pos m) (pos w)

pub signed_add : (s : Bool) (a b : ℕ) → signed s (a + b) ≡ signed s a +ℤ signed s b
signed_add false a b = refl
signed_add true a b = neg_ℤ-+ℤ (pos a) (pos b)

pub signed_not : (s : Bool) (n : ℕ) → signed (not s) n ≡ neg_ℤ (signed s n)
signed_not false n = refl
signed_not true n = sym (neg_ℤ-neg_ℤ (pos n))

-- what is added to get past n is taken off again
signed_past : (s : Bool) (n r t : ℕ) → n + r ≡ t → signed s n ≡ signed (not s) r +ℤ signed s t
signed_past s n r t e =
    sym (rw (signed_not s r, ← e, signed_add s n r) (+ℤ_comm (neg_ℤ (signed s r)) (signed s n +ℤ signed s r) ∙ +ℤ-neg_ℤ_cancel (signed s n) (signed s r)))

-- [3.3] x − Q·y, for a divisor of the count m and the sign t
pub rule : (κ : Kind) (m : ℕ) (t : Bool) (x : Value) → 0 < m
    → value_of x ≡ value_of (finish_by κ m x).value +ℤ signed t m *ℤ signed (combined x.negative t) (finish_by κ m x).whole
unfolding finish_by
rule κ m t x h = go (rounds_up κ (n / m) (n % m) m)
  where
    n : ℕ
    n = x.count

    s : Bool
    s = x.negative

    go : (u : Bool) → signed s n ≡ signed (cond u (not s) s) (cond u (m - n % m) (n % m)) +ℤ signed t m *ℤ signed (combined s t) (cond u (n / m + 1) (n / m))
    go true = rw (signed_mul s t m (n / m + 1)) (signed_past s n (m - n % m) (m * (n / m + 1)) (omega (arith, mod-lt n h, mod-add-div n m)))
    go false = rw (signed_mul s t m (n / m), ← signed_add s (n % m) (m * (n / m))) (ap (signed s) (sym (mod-add-div n m)))

-- ---- the range

pub truncated_below : (m : ℕ) (x : Value) → 0 < m → (finish_by Truncated m x).value.count < m
unfolding finish_by
truncated_below m x h = mod-lt x.count h

pub truncated_sign : (m : ℕ) (x : Value) → (finish_by Truncated m x).value.negative ≡ x.negative
unfolding finish_by
truncated_sign m x = refl

-- at most a half of the divisor, and at a half the quotient is even
pub record Half (m r q : ℕ) : Type 0 where
  pub most : 2 * r ≤ m
  pub even : 2 * r ≡ m → q % 2 ≡ 0

pub nearest_half : (m : ℕ) (x : Value) → 0 < m → Half m (finish_by Nearest m x).value.count (finish_by Nearest m x).whole
unfolding finish_by
nearest_half m x h = go (ltb m (2 * r)) (eqb m (2 * r)) (eqb (q % 2) 1) refl refl refl
  where
    q : ℕ
    q = x.count / m

    r : ℕ
    r = x.count % m

    go : (a b c : Bool) → ltb m (2 * r) ≡ a → eqb m (2 * r) ≡ b → eqb (q % 2) 1 ≡ c
        → Half m (cond (a || (b && c)) (m - r) r) (cond (a || (b && c)) (q + 1) q)
    go true b c ea eb ec = let l = ltb-true m (2 * r) ea in record { most = omega arith; even = λ e. omega arith }
    go false true true ea eb ec = let l = eqb-true m (2 * r) eb in let o = eqb-true (q % 2) 1 ec in record { most = omega arith; even = λ e. omega arith }
    go false true false ea eb ec = let l = eqb-true m (2 * r) eb in let o = eqb-false (q % 2) 1 ec in record { most = omega arith; even = λ e. omega arith }
    go false false c ea eb ec = let l = ltb-false m (2 * r) ea in let o = eqb-false m (2 * r) eb in record { most = omega arith; even = λ e. omega arith }

-- [3.5] a zero result has the sign of x
pub zero_sign : (κ : Kind) (m : ℕ) (x : Value) → 0 < m → (finish_by κ m x).value.count ≡ 0 → (finish_by κ m x).value.negative ≡ x.negative
unfolding finish_by
zero_sign κ m x h = go (rounds_up κ (n / m) (n % m) m)
  where
    n : ℕ
    n = x.count

    go : (u : Bool) → cond u (m - n % m) (n % m) ≡ 0 → cond u (not x.negative) x.negative ≡ x.negative
    go true e = clash (omega (arith, mod-lt n h))
    go false e = refl

-- ---- a finer unit, of which c make the other

abbrev pub finer : ℕ → Value → Value
finer c v = record { negative = v.negative; count = v.count * c }

abbrev pub finer_outcome : ℕ → Outcome → Outcome
finer_outcome c r = record { done = r.done; value = finer c r.value; whole = r.whole; steps = r.steps }

pub up_scale : (κ : Kind) (q r m c : ℕ) → 0 < c → rounds_up κ q (r * c) (m * c) ≡ rounds_up κ q r m
up_scale Truncated q r m c h = refl
up_scale Nearest q r m c h = rw (← mul_assoc 2 r c, ltb_scale m (2 * r) c h, eqb_scale m (2 * r) c h)

cond_scale : (u : Bool) (a b c : ℕ) → cond u (a * c) (b * c) ≡ cond u a b * c
cond_scale true a b c = refl
cond_scale false a b c = refl

pub finish_scale : (κ : Kind) (m c : ℕ) (x : Value) → 0 < m → 0 < c → finish_by κ (m * c) (finer c x) ≡ finer_outcome c (finish_by κ m x)
unfolding finish_by
finish_scale κ m c x h g =
    let q = x.count / m in
    let r = x.count % m in
    rw (mul-div-mul_right x.count m g, mod_scale x.count m c h g, up_scale κ q r m c g, sub_scale m r c, cond_scale (rounds_up κ q r m) (m - r) r c)

-- ---- a dividend that is left as it is

-- below the divisor, and not rounded up
kept : (κ : Kind) (m : ℕ) (x : Value) → x.count < m → rounds_up κ 0 x.count m ≡ false → finish_by κ m x ≡ finish κ unbounded x
unfolding finish_by finish
kept κ m x h e = rw (div-eq_of_lt h, mod-eq_of_lt h, e)

-- cut, a divisor above the dividend is as an infinite one
pub finish_under : (m : ℕ) (x : Value) → x.count < m → finish_by Truncated m x ≡ finish Truncated unbounded x
finish_under m x h = kept Truncated m x h refl

-- a divisor of at least twice the dividend, as an infinite one
pub finish_far : (κ : Kind) (m : ℕ) (x : Value) → 0 < m → 2 * x.count ≤ m → finish_by κ m x ≡ finish κ unbounded x
finish_far Truncated m x h l = kept Truncated m x (omega arith) refl
finish_far Nearest m x h l = kept Nearest m x (omega arith) (rw (le-ltb m (2 * x.count) l) (go (eqb m (2 * x.count))))
  where
    go : (b : Bool) → b && false ≡ false
    go true = refl
    go false = refl

-- what is left of a division is left as it is by the same one
pub finish_again : (κ : Kind) (m : ℕ) (x : Value) → 0 < m → finish_by κ m (finish_by κ m x).value ≡ finish κ unbounded (finish_by κ m x).value
finish_again Truncated m x h = kept Truncated m (finish_by Truncated m x).value (truncated_below m x h) refl
finish_again Nearest m x h = finish_far Nearest m (finish_by Nearest m x).value h (nearest_half m x h).most

-- Whether a quotient goes up is one comparison: twice the left-over, and one more where the quotient is odd, against the divisor.
pub rounds_up_once : (q r m : ℕ) → rounds_up Nearest q r m ≡ ltb m (r * 2 + q % 2)
rounds_up_once q r m = go (ltb m (2 * r)) (eqb m (2 * r)) (eqb (q % 2) 1) refl refl refl
  where
    go : (past half odd : Bool) → ltb m (2 * r) ≡ past → eqb m (2 * r) ≡ half → eqb (q % 2) 1 ≡ odd → past || (half && odd) ≡ ltb m (r * 2 + q % 2)
    go true half odd e f g = sym (lt-ltb m (r * 2 + q % 2) (omega (arith, ltb-true m (2 * r) e)))
    go false true true e f g = sym (lt-ltb m (r * 2 + q % 2) (omega (arith, eqb-true m (2 * r) f, eqb-true (q % 2) 1 g)))
    go false true false e f g = sym (le-ltb m (r * 2 + q % 2) (omega (arith, eqb-true m (2 * r) f, eqb-false (q % 2) 1 g)))
    go false false odd e f g = sym (le-ltb m (r * 2 + q % 2) (omega (arith, ltb-false m (2 * r) e, eqb-false m (2 * r) f)))
