-- Sums and differences of small signed numbers fit an i32, and what the machine writes of them is read back. Assumes nothing.
use mathlib.Core.Path.{◌≡◌, refl, sym, ap, ◌∙◌}
use mathlib.Core.Bool.{Bool, true, false, cond}
use Prim.Native.Nat.{ℕ, zero, suc, ◌+◌, ◌-◌, ◌^◌, ◌≤◌, ◌<◌}
use native.Mathlib.Omega.{arith}
use borrow.Author.Tests.{le-ltb, ltb-true}
use lib.Dec.{T, ltb, leb→le, le→leb}
use lib.IntN.{ℤ, pos, negsuc, neg_ℤ, nat_abs, sub_ℕ, ◌+ℤ◌, ◌-ℤ◌, +ℤ_comm, +ℤ-neg_ℤ_cancel, -ℤ-+ℤ_cancel}
use lib.Signed.{mag, le_z}
use mir.Syntax.{w32}
use mir.Val.{SFits, to_z, of_z}
use mir.ValLaws.{to_z-of_z}

mag-subℕ : (a b : ℕ) → mag (sub_ℕ a b) ≤ a + b
mag-subℕ a b = go (ltb a b)
  where
    go : (t : Bool) → mag (cond t (negsuc (b - suc a)) (pos (a - b))) ≤ a + b
    go true = omega arith
    go false = omega arith

pub mag_add : (a b : ℤ) → mag (a +ℤ b) ≤ mag a + mag b + 1
mag_add (pos a) (pos b) = omega arith
mag_add (pos a) (negsuc b) = omega (arith, mag-subℕ a (suc b))
mag_add (negsuc a) (pos b) = omega (arith, mag-subℕ b (suc a))
mag_add (negsuc a) (negsuc b) = omega arith

pub mag_neg : (b : ℤ) → mag (neg_ℤ b) ≤ mag b + 1
mag_neg (pos zero) = omega arith
mag_neg (pos (suc b)) = omega arith
mag_neg (negsuc b) = omega arith

pub mag_sub : (a b : ℤ) → mag (a -ℤ b) ≤ mag a + mag b + 2
mag_sub a b = omega (arith, mag_add a (neg_ℤ b), mag_neg b)

-- what the machine reads as x and y are a and b, both small: their sum and their difference
module _ (a b x y : ℤ) (ea : x ≡ a) (eb : y ≡ b) (p : mag a < 2 ^ 29) (q : mag b < 2 ^ 29) where
  pub add_fits : SFits w32 (x +ℤ y)
  add_fits = rw (ea, eb) (record { sfits = omega (arith, mag_add a b) })

  pub add_is : to_z w32 (of_z w32 (x +ℤ y)) ≡ a +ℤ b
  add_is = to_z-of_z w32 (x +ℤ y) add_fits ∙ rw (ea, eb)

  pub sub_fits : SFits w32 (x -ℤ y)
  sub_fits = rw (ea, eb) (record { sfits = omega (arith, mag_sub a b) })

  pub sub_is : to_z w32 (of_z w32 (x -ℤ y)) ≡ a -ℤ b
  sub_is = to_z-of_z w32 (x -ℤ y) sub_fits ∙ rw (ea, eb)

sub_pos : (a b : ℕ) → b ≤ a → sub_ℕ a b ≡ pos (a - b)
sub_pos a b h = rw (le-ltb a b h)

-- a number that is not below another is that one and a natural number more
pub above_pos : (s e : ℤ) → T (le_z s e) → e -ℤ s ≡ pos (nat_abs (e -ℤ s))
above_pos (pos zero) (pos b) h = refl
above_pos (pos (suc a)) (pos b) h = let q = sub_pos b (suc a) (leb→le (suc a) b h) in rw q
above_pos (pos a) (negsuc b) h = absurd h
above_pos (negsuc a) (pos b) h = refl
above_pos (negsuc a) (negsuc b) h = let l = leb→le b a h in let q = sub_pos (suc a) (suc b) (omega arith) in rw q

pub add_sub : (s n : ℤ) → s +ℤ n -ℤ s ≡ n
add_sub s n = ap (λ (z : ℤ). z -ℤ s) (+ℤ_comm s n) ∙ +ℤ-neg_ℤ_cancel n s

pub below_add : (s : ℤ) (n : ℕ) → T (le_z s (s +ℤ pos n))
below_add (pos a) n = le→leb a (a + n) (omega arith)
below_add (negsuc a) n = go (ltb n (suc a)) (ltb-true n (suc a))
  where
    go : (t : Bool) → (t ≡ true → n < suc a) → T (le_z (negsuc a) (cond t (negsuc (suc a - suc n)) (pos (n - suc a))))
    go true h = let l = h refl in le→leb (suc a - suc n) a (omega arith)
    go false h = tt

-- what lies a small number of places above a small number is small
pub above_small : (s e : ℤ) → T (le_z s e) → nat_abs (e -ℤ s) < 2 ^ 20 → mag s < 2 ^ 18 → mag e < 2 ^ 21
above_small s e h p q =
    let f : pos (nat_abs (e -ℤ s)) +ℤ s ≡ e = ap (λ (z : ℤ). z +ℤ s) (sym (above_pos s e h)) ∙ -ℤ-+ℤ_cancel e s in
    let m = mag_add (pos (nat_abs (e -ℤ s))) s in
    rw f at (let r : mag (pos (nat_abs (e -ℤ s)) +ℤ s) < 2 ^ 21 = omega arith in r)

-- a small number is read back as it was written
pub small_back : (z : ℤ) → mag z < 2 ^ 21 → to_z w32 (of_z w32 z) ≡ z
small_back z h = to_z-of_z w32 z (record { sfits = omega arith })
