-- [2.10] Ordinary patterns in every call: what is returned is one, and the other pattern of a value is taken as it. Assumes nothing.
use mathlib.Core.Path.{◌≡◌, refl, ap}
use mathlib.Core.Bool.{Bool, true, false, cond}
use mathlib.Core.List.{List, [], ◌∷◌, map}
use Prim.Native.Nat.{ℕ}
use lib.Dec.{eqb}
use lib.IntN.{ℤ}
use Rattle.digits.proofs.Tests.{clash}
use Rattle.definitions.specs.Class.{Value, Class, finite}
use Rattle.definitions.specs.Format.{Format, Regular, class_of, pattern_of, ordinary, ordinary_of, x87}
use Rattle.definitions.specs.Numbers.{first, accepted, dividing, is_unsupported, is_nan, is_zero}
use Rattle.definitions.specs.Facts.{refused_value}
use Rattle.definitions.specs.declared.Kind.{Kind}
use Rattle.definitions.specs.Remainder.{remainder}
use Rattle.definitions.specs.Signed.{signed_remainder}
use Rattle.definitions.specs.Reports.{Report, Lent, fitting, sized, report_of, step_report, run_report}
use Rattle.definitions.specs.Scale.{scale_report, split_report}
use Rattle.definitions.specs.Steps as Steps
use Rattle.definitions.specs.Calls.{Call, step, run, answer, Made, made}
use Rattle.laws.proofs.Results.{result_ordinary, remainder_result, scale_result, split_result}
use Rattle.laws.proofs.Signed.{signed_remainder_lem}
use Rattle.chains.proofs.Small.{step_small, run_small}

-- the value of every report is ordinary, whatever the operands; that of a refusal too
pub every_result_ordinary : (f : Format) → Regular f → (l : Lent) (κ : Kind) (n b x y : ℕ) (k : ℤ)
    → (ordinary f (remainder f κ x y).value ≡ true)
    × (ordinary f (signed_remainder f κ x y).value ≡ true)
    × (ordinary x87 (step_report l κ n x y).value ≡ true)
    × (ordinary x87 (run_report l κ n b x y).value ≡ true)
    × (ordinary f (scale_report f x k).value ≡ true)
    × (ordinary f (split_report f x).significand ≡ true)
every_result_ordinary f r l κ n b x y k = (
  result_ordinary f r (remainder_result f r κ x y),
  rw (signed_remainder_lem f κ x y).1 (result_ordinary f r (remainder_result f r κ x y)),
  (step_small l κ n x y).ordinary,
  (run_small l κ n x y b).ordinary,
  result_ordinary f r (scale_result f r x k),
  result_ordinary f r (split_result f r x),
)

-- two patterns that stand for the same are the same operand: dividend, divisor, both, or what is scaled or split
pub operands_same : (f : Format) (κ : Kind) (x u y w : ℕ) (k : ℤ) → class_of f x ≡ class_of f u → class_of f y ≡ class_of f w
    → (remainder f κ x y ≡ remainder f κ u w) × (signed_remainder f κ x y ≡ signed_remainder f κ u w) × (scale_report f x k ≡ scale_report f u k) × (split_report f x ≡ split_report f u)
unfolding remainder signed_remainder scale_report split_report
operands_same f κ x u y w k ex ey = (rw (ex, ey), rw (ex, ey), rw ex, rw ex)

pub calls_same : (l : Lent) (κ : Kind) (n b x u y w : ℕ) → class_of x87 x ≡ class_of x87 u → class_of x87 y ≡ class_of x87 w
    → (step_report l κ n x y ≡ step_report l κ n u w) × (run_report l κ n b x y ≡ run_report l κ n b u w)
unfolding step_report run_report
calls_same l κ n b x u y w ex ey = (rw (ex, ey), rw (ex, ey))

-- [4.6] a run with budget 0 returns the dividend, in its ordinary pattern, by every divisor that is taken
pub run_none : (l : Lent) (κ : Kind) (n x y : ℕ) (v : Value) → class_of x87 x ≡ finite v → first (dividing (finite v) (class_of x87 y)) ≡ 0
    → fitting l ≡ true → sized n ≡ true → run_report l κ n 0 x y ≡ record { number = 7; value = ordinary_of x87 x; quotient = 0; steps = 0 }
unfolding run_report Steps.run first
run_none l κ n x y v ex d fits size = rw (ex, fits, size) (go (is_unsupported Y) (is_nan Y) (is_zero Y) d)
  where
    Y : Class
    Y = class_of x87 y

    go : (u q z : Bool) → ◌≡◌ {A = ℕ} (cond u 2 (cond q 3 (cond z 5 0))) 0
        → let k = cond {A = ℕ} u 2 (cond q 3 (cond z 5 7)) in report_of (refused_value x87 k (finite v) Y) k (record { done = false; value = v; whole = 0; steps = 0 }) ≡ record { number = 7; value = pattern_of x87 (finite v); quotient = 0; steps = 0 }
    go true q z e = clash (cc)
    go false true z e = clash (cc)
    go false false true e = clash (cc)
    go false false false e = refl

-- [5.9] so a list of calls tells the same from either pattern of its dividend, and by either of its divisor
answers_same : (κ : Kind) (c : Call) (x u y w : ℕ) → class_of x87 x ≡ class_of x87 u → class_of x87 y ≡ class_of x87 w → answer κ y c x ≡ answer κ w c u
unfolding answer
answers_same κ (step l n) x u y w ex ey = (calls_same l κ n 0 x u y w ex ey).0
answers_same κ (run l n b) x u y w ex ey = (calls_same l κ n b x u y w ex ey).1

abbrev pub reports : List (Made ℕ) → List (Report ℕ)
reports ts = map (λ (t : Made ℕ). t.report) ts

pub lists_same : (κ : Kind) (cs : List Call) (x u y w : ℕ) → class_of x87 x ≡ class_of x87 u → class_of x87 y ≡ class_of x87 w
    → reports (made (answer κ y) cs x) ≡ reports (made (answer κ w) cs u)
unfolding made
lists_same κ [] x u y w ex ey = refl
lists_same κ (c ∷ cs) x u y w ex ey =
    rw (answers_same κ c x u y w ex ey)
    (ap (λ l. r ∷ l) (go (eqb r.number 0) (accepted r.number) (lists_same κ cs r.value r.value y w refl ey) (lists_same κ cs x u y w ex ey)))
  where
    r : Report ℕ
    r = answer κ w c u

    go : (z a : Bool) → reports (made (answer κ y) cs r.value) ≡ reports (made (answer κ w) cs r.value)
        → reports (made (answer κ y) cs x) ≡ reports (made (answer κ w) cs u)
        → reports (cond z [] (made (answer κ y) cs (cond a r.value x))) ≡ reports (cond z [] (made (answer κ w) cs (cond a r.value u)))
    go true a d e = refl
    go false true d e = d
    go false false d e = e
