-- The three flags of a finished step are its quotient bits, and the fourth says that a step was partial. Assumes nothing.
use mathlib.Core.Path.{◌≡◌, refl, sym, ap, ◌∙◌}
use mathlib.Core.Bool.{Bool, true, false, not, cond}
use Prim.Native.Nat.{ℕ, ◌+◌, ◌*◌, ◌/◌, ◌%◌, ◌<◌}
use native.Mathlib.Nat.{div-div-eq-div-mul}
use native.Mathlib.Omega.{arith}
use borrow.Author.Tests.{eqb-true, eqb-false}
use lib.Dec.{eqb}
use Rattle.definitions.specs.Format.{class_of, x87}
use Rattle.definitions.specs.declared.Kind.{Kind}
use Rattle.definitions.specs.Division.{Outcome, dividend_of, divisor_of}
use Rattle.definitions.specs.Steps.{step, flags_of}
use Rattle.definitions.specs.Numbers.{first, accepted}
use Rattle.definitions.specs.Reports.{Lent, step_report}
use Rattle.digits.proofs.Tests.{clash}
use Rattle.laws.proofs.Remainder.{three_bits}
use Rattle.chains.proofs.Spent.{Judgement, refused, passed, result}

bit : (b : ℕ) → b < 2 → cond (eqb b 1) 1 0 ≡ b
bit b h = go (eqb b 1) refl
  where
    go : (t : Bool) → eqb b 1 ≡ t → cond t 1 0 ≡ b
    go true e = sym (eqb-true b 1 e)
    go false e = let n = eqb-false b 1 e in omega arith

-- three digits of a number, from the highest
three : (w : ℕ) → w / 4 % 2 * 4 + w / 2 % 2 * 2 + w % 2 ≡ w % 8
three w =
    let a : w / 2 / 2 ≡ w / 4 = div-div-eq-div-mul w 2 2 in
    let b : w / 4 / 2 ≡ w / 8 = div-div-eq-div-mul w 4 2 in
    omega arith

-- the number whose bits 2, 1 and 0 are C0, C3 and C1
abbrev pub octant : Outcome → ℕ
octant r = cond (flags_of r).c0 1 0 * 4 + cond (flags_of r).c3 1 0 * 2 + cond (flags_of r).c1 1 0

flags_are_bits : (r : Outcome) → octant r ≡ r.whole % 8
flags_are_bits r = rw (bit (r.whole / 4 % 2) (omega arith), bit (r.whole / 2 % 2) (omega arith), bit (r.whole % 2) (omega arith)) (three r.whole)

-- on a finished step it is the three low bits of the quotient that the step reports
pub finished_flags : (l : Lent) (κ : Kind) (n x y : ℕ) → (step_report l κ n x y).number ≡ 0
    → octant (step κ n (divisor_of (class_of x87 y)) (dividend_of (class_of x87 x))) ≡ (step_report l κ n x y).quotient % 8
unfolding step_report
finished_flags l κ n x y e =
    let r = step κ n (divisor_of (class_of x87 y)) (dividend_of (class_of x87 x)) in
    rw e (flags_are_bits r ∙ sym (three_bits r.whole))

partial_number : {i z : Bool} {number : ℕ → ℕ} (d : Bool) → Judgement i z number → accepted (number (cond (not d) 1 0)) ≡ true
    → not d ≡ eqb (number (cond (not d) 1 0)) 1
partial_number d (refused r a o s e) h = let f = sym (ap accepted (e (cond (not d) 1 0))) ∙ h in clash (cc)
partial_number d (passed i z e) h = rw (e (cond (not d) 1 0)) (go d)
  where
    go : (t : Bool) → not t ≡ eqb (cond (not t) 1 0) 1
    go true = refl
    go false = refl

-- [4.11] C2 says that an accepted step gave 1
pub partial_flag : (l : Lent) (κ : Kind) (n x y : ℕ) → accepted (step_report l κ n x y).number ≡ true
    → (flags_of (step κ n (divisor_of (class_of x87 y)) (dividend_of (class_of x87 x)))).c2 ≡ eqb (step_report l κ n x y).number 1
unfolding step_report first
partial_flag l κ n x y =
    partial_number (step κ n (divisor_of (class_of x87 y)) (dividend_of (class_of x87 x))).done (result l n (class_of x87 x) (class_of x87 y))
