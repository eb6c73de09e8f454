-- [4.9] a run that gave 7, and one from its value, are one run with both budgets: on patterns, whatever the divisor. Assumes nothing.
use mathlib.Core.Path.{◌≡◌, refl, sym, ap, ◌∙◌}
use mathlib.Core.Bool.{Bool, true, false, not, cond}
use Prim.Native.Nat.{ℕ, zero, suc, ◌+◌, ◌%◌}
use native.Mathlib.Nat.{mod-add-mod, add-mod-mod}
use native.Mathlib.Omega.{arith}
use borrow.Author.Tests.{eqb-false}
use lib.Dec.{eqb}
use Rattle.digits.proofs.Tests.{clash}
use Rattle.definitions.specs.Class.{Value, Class, unsupported, nan, infinite, finite}
use Rattle.definitions.specs.Format.{Representable, class_of, pattern_of, x87}
use Rattle.definitions.specs.Numbers.{first, is_zero}
use Rattle.definitions.specs.Remainder.{quotient_modulus, quotient_bits}
use Rattle.definitions.specs.Facts.{refused_value, denormal, told_denormal}
use Rattle.definitions.specs.declared.Kind.{Kind}
use Rattle.definitions.specs.Division.{Outcome, unbounded, finish, dividend_of, divisor_of}
use Rattle.definitions.specs.Steps.{step, run, followed}
use Rattle.definitions.specs.Reports.{Report, Lent, sized, report_of, run_report}
use Rattle.laws.proofs.Regular.{regular80}
use Rattle.laws.proofs.RoundTrip.{read_written, read_held}
use Rattle.chains.proofs.Run.{run_resumed}
use Rattle.chains.proofs.Answer.{run_held}
use Rattle.chains.proofs.Spent.{Judgement, refused, passed, numbered, result}

-- what a run reports where nothing is refused
abbrev told : Outcome → Report ℕ
told r = record { number = cond (not r.done) 7 0; value = pattern_of x87 (finite r.value); quotient = quotient_bits r.whole; steps = r.steps }

-- two reports, the second from the first one's value, as one
abbrev pub together : Report ℕ → Report ℕ → Report ℕ
together r s = record { number = s.number; value = s.value; quotient = (r.quotient + s.quotient) % quotient_modulus; steps = r.steps + s.steps }

told_followed : (r s : Outcome) → r.done ≡ false → told (followed r s) ≡ together (told r) (told s)
told_followed r s e = rw (mod-add-mod, add-mod-mod)

told_report_lem : (w : ℕ) (r : Outcome) → report_of w (cond (not r.done) 7 0) r ≡ told r
told_report_lem w r = go r.done
  where
    go : (t : Bool) → let n = cond {A = ℕ} (not t) 7 0 in
        report_of w n r ≡ record { number = n; value = pattern_of x87 (finite r.value); quotient = quotient_bits r.whole; steps = r.steps }
    go true = refl
    go false = refl

-- a run by a divisor without a count leaves the value as it is
still : (κ : Kind) (n b : ℕ) (v : Value) → Representable x87 v.count → Representable x87 (run κ n b unbounded v).value.count
unfolding run step finish
still κ n zero v h = h
still κ n (suc b) v h = h

-- the value of a run by any divisor stays representable
pub held : (κ : Kind) (n b y : ℕ) (Y : Class) (v : Value) → class_of x87 y ≡ Y → is_zero Y ≡ false → Representable x87 v.count
    → Representable x87 (run κ n b (divisor_of Y) v).value.count
held κ n b y (finite w) v e z h =
    let some = eqb-false w.count 0 z in
    run_held x87 κ n b w.count v (omega arith) (read_held x87 regular80 y w e) h
held κ n b y (infinite s) v e z h = still κ n b v h
held κ n b y (nan t s) v e z h = still κ n b v h
held κ n b y unsupported v e z h = still κ n b v h

still_open : (t : Bool) → ◌≡◌ {A = ℕ} (cond (not t) 7 0) 7 → t ≡ false
still_open true e = clash (omega (arith, e))
still_open false e = refl

module _ (l : Lent) (κ : Kind) (n y : ℕ) where
  -- a run of a finite dividend where nothing is refused
  plain : (x b : ℕ) (v : Value) → class_of x87 x ≡ finite v → ((k : ℕ) → numbered l n (finite v) (class_of x87 y) k ≡ k)
      → run_report l κ n b x y ≡ told (run κ n b (divisor_of (class_of x87 y)) v)
  unfolding run_report first
  plain x b v e k =
      let r = run κ n b (divisor_of (class_of x87 y)) v in
      rw e (ap (λ (q : ℕ). report_of (refused_value x87 q (finite v) (class_of x87 y)) q r) (k (cond (not r.done) 7 0)) ∙ told_report_lem _ r)

  number_is : (x b : ℕ) (X : Class) → class_of x87 x ≡ X
      → (run_report l κ n b x y).number ≡ numbered l n X (class_of x87 y) (cond (not (run κ n b (divisor_of (class_of x87 y)) (dividend_of X)).done) 7 0)
  unfolding run_report first
  number_is x b X e = rw e

  module _ (b c x : ℕ) (seven : (run_report l κ n b x y).number ≡ 7) where
    Claim : Type 0
    Claim = run_report l κ n (b + c) x y ≡ together (run_report l κ n b x y) (run_report l κ n c (run_report l κ n b x y).value y)

    of_finite : (v : Value) → class_of x87 x ≡ finite v → is_zero (class_of x87 y) ≡ false → ((k : ℕ) → numbered l n (finite v) (class_of x87 y) k ≡ k) → Claim
    unfolding Claim
    of_finite v e z k =
        let d = divisor_of (class_of x87 y) in
        let r = run κ n b d v in
        let s = run κ n c d r.value in
        let p = plain x b v e k in
        let spent : r.done ≡ false = still_open r.done (sym (ap (λ (t : Report ℕ). t.number) p) ∙ seven) in
        let reached : (run_report l κ n b x y).value ≡ pattern_of x87 (finite r.value) = ap (λ (t : Report ℕ). t.value) p in
        let read : class_of x87 (run_report l κ n b x y).value ≡ finite r.value =
        ap (class_of x87) reached ∙ read_written x87 regular80 r.value (held κ n b y (class_of x87 y) v refl z (read_held x87 regular80 x v e)) in
        let q = plain (run_report l κ n b x y).value c r.value read k in
        plain x (b + c) v e k ∙ ap told (run_resumed κ n b c d v spent) ∙ told_followed r s spent ∙ (λ i. together (sym p i) (sym q i))

    -- a dividend that is not finite is refused, whatever the outcome
    of_class : (X : Class) → class_of x87 x ≡ X → Judgement (not (sized n)) (is_zero (class_of x87 y)) (numbered l n X (class_of x87 y)) → Claim
    of_class X e (refused q a o s k) =
        let other = eqb-false q 7 s in
        clash (omega (arith, sym (k (cond (not (run κ n b (divisor_of (class_of x87 y)) (dividend_of X)).done) 7 0)) ∙ sym (number_is x b X e) ∙ seven))
    of_class unsupported e (passed i z k) = clash (omega (arith, k 0, k 7))
    of_class (nan t s) e (passed i z k) = clash (omega (arith, k 0, k 7))
    of_class (infinite t) e (passed i z k) = clash (omega (arith, k 0, k 7))
    of_class (finite v) e (passed i z k) = of_finite v e z k

    pub run_continued : run_report l κ n (b + c) x y ≡ together (run_report l κ n b x y) (run_report l κ n c (run_report l κ n b x y).value y)
    unfolding Claim
    run_continued = of_class (class_of x87 x) refl (result l n (class_of x87 x) (class_of x87 y))

    -- [5.10] what one run tells of denormal operands is what the first of the two tells: it is handed the dividend as it was given
    pub continued_denormal : told_denormal x87 (run_report l κ n (b + c) x y).number x y ≡ told_denormal x87 (run_report l κ n b x y).number x y
    unfolding denormal
    continued_denormal = rw (seven, not_six (result l n (class_of x87 x) (class_of x87 y)))
      where
        open7 : (t : Bool) → eqb (cond {A = ℕ} (not t) 7 0) 6 ≡ false
        open7 true = refl
        open7 false = refl

        not_six : Judgement (not (sized n)) (is_zero (class_of x87 y)) (numbered l n (class_of x87 x) (class_of x87 y)) → eqb (run_report l κ n (b + c) x y).number 6 ≡ false
        not_six (refused q a o s k) =
            let other = eqb-false q 7 s in
            clash (omega (arith, sym (k (cond (not (run κ n b (divisor_of (class_of x87 y)) (dividend_of (class_of x87 x))).done) 7 0)) ∙ sym (number_is x b (class_of x87 x) refl) ∙ seven))
        not_six (passed i z k) =
            let t = (run κ n (b + c) (divisor_of (class_of x87 y)) (dividend_of (class_of x87 x))).done in
            rw (number_is x (b + c) (class_of x87 x) refl, k (cond (not t) 7 0)) (open7 t)
