-- One step: when it finishes, what a partial one leaves, and how many steps a gap allows. Assumes nothing.
use mathlib.Core.Path.{◌≡◌, refl, sym, ap, ◌∙◌}
use mathlib.Core.Bool.{Bool, true, false, cond}
use Prim.Native.Nat.{ℕ, ◌+◌, ◌-◌, ◌*◌, ◌/◌, ◌%◌, ◌^◌, ◌≤◌, ◌<◌, max}
use native.Mathlib.Nat.{lt_of_lt_of_le, le_of_lt, mod-lt, mul-pos, mod-add-div, mul-mod_left}
use native.Mathlib.Omega.{arith}
use borrow.Author.Tests.{lt-ltb, ltb-true, ltb-false, leb-true}
use lib.Dec.{ltb, leb}
use lib.IntN.{ℤ, nat_abs}
use lib.Pow.{pow_pos, shl_lt}
use lib.Ieee.{size}
use lib.Ieee.Digits.{size-lt, size-le}
use Rattle.digits.proofs.Tests.{clash, and_both}
use Rattle.digits.proofs.Size.{size_zero}
use Rattle.definitions.specs.Class.{Value, gap}
use Rattle.definitions.specs.declared.Kind.{Kind}
use Rattle.definitions.specs.Division.{Outcome, Divisor, unbounded, by, finish, finish_by}
use Rattle.definitions.specs.Steps.{near, cut_at, used_size, step_by, step, most_steps}
use Rattle.definitions.specs.Reports.{sized}
use Rattle.laws.proofs.Gap.{gap_near, gap_far}

pub sized_bounds : (n : ℕ) → sized n ≡ true → (32 ≤ n) × (n ≤ 63)
sized_bounds n e = let b = and_both (leb 32 n) (leb n 63) e in (leb-true 32 n b.0, leb-true n 63 b.1)

-- the gap, where it is not negative
abbrev pub excess : ℕ → ℕ → ℕ
excess n m = size n - size m

pub most_is : (n m : ℕ) → most_steps (gap n m) ≡ max 1 (excess n m / 32)
most_is n m = rw (gap_near n m) (go (ltb (excess n m) 64) refl)
  where
    go : (t : Bool) → ltb (excess n m) 64 ≡ t → cond t 1 (nat_abs (gap n m) / 32) ≡ max 1 (excess n m / 32)
    go true e = let l = ltb-true (excess n m) 64 e in omega arith
    go false e = let l = ltb-false (excess n m) 64 e in rw (gap_far n m l) (omega arith)

pub most_pos : (n m : ℕ) → 1 ≤ most_steps (gap n m)
most_pos n m = omega (arith, most_is n m)

-- a fall by 32 digits pays for a step
pub most_falls : (n k m : ℕ) → 64 ≤ excess n m → excess k m + 32 ≤ excess n m → 1 + most_steps (gap k m) ≤ most_steps (gap n m)
most_falls n k m h l = omega (arith, most_is n m, most_is k m)

-- the places that a partial step of a size from 32 to 63 leaves: at least one, and at least 32 fewer than the gap
pub used_places : (n : ℕ) (D : ℤ) → sized n ≡ true → 64 ≤ nat_abs D → (0 < nat_abs D - used_size D n) × (nat_abs D - used_size D n + 32 ≤ nat_abs D)
used_places n D z l = let b = sized_bounds n z in (omega arith, omega arith)

-- A step is a finishing one, or a cut at the place j that the gap and the size leave: what holds of both holds of it.
pub step_cases : (P : Outcome → Type 0) (κ : Kind) (n m : ℕ) (x : Value) → let D = gap x.count m in (near D ≡ true → P (finish κ (by m) x))
    → (near D ≡ false → nat_abs D ≡ excess x.count m → 64 ≤ nat_abs D → (j : ℕ) → j ≡ nat_abs D - used_size D n → P (cut_at j m x))
    → P (step κ n (by m) x)
unfolding step step_by finish
step_cases P κ n m x f g = go (near D) refl
  where
    D : ℤ
    D = gap x.count m

    go : (t : Bool) → near D ≡ t → P (cond t (finish_by κ m x) (cut_at (nat_abs D - used_size D n) m x))
    go true e = f e
    go false e =
        let l = ltb-false (excess x.count m) 64 (sym (gap_near x.count m) ∙ e) in
        let q = gap_far x.count m l in
        g e q (rw q l) (nat_abs D - used_size D n) refl

-- [4.3] from a gap of 64 on it is a cut, at the place that the gap less the size gives
pub step_cut : (κ : Kind) (n m : ℕ) (x : Value) → near (gap x.count m) ≡ false → step κ n (by m) x ≡ cut_at (nat_abs (gap x.count m) - n) m x
unfolding step step_by
step_cut κ n m x e = rw e

pub step_done : (κ : Kind) (n m : ℕ) (x : Value) → (step κ n (by m) x).done ≡ near (gap x.count m)
unfolding finish finish_by cut_at
step_done κ n m x = step_cases (λ r. r.done ≡ near (gap x.count m)) κ n m x (λ e. sym e) (λ e q l j i. sym e)

pub step_one : (κ : Kind) (n : ℕ) (d : Divisor) (x : Value) → (step κ n d x).steps ≡ 1
unfolding step finish finish_by cut_at
step_one κ n unbounded x = refl
step_one κ n (by m) x = step_cases (λ r. r.steps ≡ 1) κ n m x (λ e. refl) (λ e q l j i. refl)

-- [4.3, 4.4] What a cut at the place j is, whatever the kind: it leaves less than m at that place, takes a whole number of m's there, and
-- the two make up x.
pub cut_below : (j m : ℕ) (x : Value) → 0 < m → (cut_at j m x).value.count < m * 2 ^ j
unfolding cut_at
cut_below j m x h = mod-lt x.count (mul-pos h (pow_pos j))

pub cut_multiple : (j m : ℕ) (x : Value) → (cut_at j m x).whole % 2 ^ j ≡ 0
unfolding cut_at
cut_multiple j m x = mul-mod_left (x.count / (m * 2 ^ j)) (2 ^ j)

pub cut_sum : (j m : ℕ) (x : Value) → x.count ≡ (cut_at j m x).value.count + m * (cut_at j m x).whole
unfolding cut_at
cut_sum j m x = omega (arith, mod-add-div x.count (m * 2 ^ j))

-- so that what is left has no more digits than m at that place
pub cut_size : (j m : ℕ) (x : Value) → 0 < m → size (cut_at j m x).value.count ≤ size m + j
cut_size j m x h = size-le (cut_at j m x).value.count (size m + j) (lt_of_lt_of_le (cut_below j m x h) (le_of_lt (shl_lt (size m) j (size-lt m))))

-- [4.5] the exponent of a partial value that is not zero is lower by at least n
pub step_lower : (κ : Kind) (n m : ℕ) (x : Value) → 0 < m → sized n ≡ true → (step κ n (by m) x).done ≡ false
    → size (step κ n (by m) x).value.count + n ≤ size x.count
step_lower κ n m x p z d =
    step_cases (λ r. size r.value.count + n ≤ size x.count) κ n m x
    (λ e. let f = sym d ∙ step_done κ n m x ∙ e in clash (cc))
    (λ e q l j i. let b = sized_bounds n z in omega (arith, cut_size j m x p))

-- [4.5] a partial value has the sign of x, and a zero dividend finishes
pub step_sign : (κ : Kind) (n m : ℕ) (x : Value) → (step κ n (by m) x).done ≡ false → (step κ n (by m) x).value.negative ≡ x.negative
unfolding cut_at
step_sign κ n m x d = step_cases (λ r. r.value.negative ≡ x.negative) κ n m x (λ e. let f = sym d ∙ step_done κ n m x ∙ e in clash (cc)) (λ e q l j i. refl)

pub step_zero : (κ : Kind) (n m : ℕ) (x : Value) → x.count ≡ 0 → (step κ n (by m) x).done ≡ true
step_zero κ n m x e =
    let z : size x.count ≡ 0 = ap size e ∙ size_zero in
    step_done κ n m x ∙ gap_near x.count m ∙ lt-ltb (excess x.count m) 64 (omega arith)
