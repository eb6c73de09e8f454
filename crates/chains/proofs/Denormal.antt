-- [5.10] What a list of calls tells of denormal operands: its first accepted call is handed the dividend as it was given. Assumes nothing.
use mathlib.Core.Path.{◌≡◌, refl, sym, ap, ◌∙◌}
use mathlib.Core.Bool.{Bool, true, false, cond, ◌||◌}
use mathlib.Core.List.{List, [], ◌∷◌}
use Prim.Native.Nat.{ℕ}
use borrow.Author.Tests.{eqb-true}
use lib.Dec.{eqb}
use Rattle.digits.proofs.Tests.{clash}
use Rattle.definitions.specs.Format.{x87}
use Rattle.definitions.specs.Numbers.{accepted}
use Rattle.definitions.specs.Facts.{denormal, told_denormal}
use Rattle.definitions.specs.Reports.{Report}
use Rattle.definitions.specs.Calls.{Call, Made, answers, any_accepted, last_number, first_denormal, Listed, none, refused, ends, goes_on}

-- an answer's number is not 6, so that it tells
accepted_tells : (n x y : ℕ) → accepted n ≡ true → told_denormal x87 n x y ≡ denormal x87 x || denormal x87 y
accepted_tells n x y a = rw (go (eqb n 6) refl)
  where
    go : (t : Bool) → eqb n 6 ≡ t → t ≡ false
    go true e = let d = sym a ∙ ap accepted (eqb-true n 6 e) in clash (cc)
    go false e = refl

pub first_denormal_lem : (f : Call → ℕ → Report ℕ) (y : ℕ) {x : ℕ} {cs : List Call} {ts : List (Made ℕ)} → Listed f x cs ts → any_accepted ts ≡ true
    → first_denormal y (answers ts) ≡ denormal x87 x || denormal x87 y
unfolding any_accepted answers first_denormal
first_denormal_lem f y none e = clash (cc)
first_denormal_lem f y (refused {x} {c} a l) e = rw a (first_denormal_lem f y l (rw a at e))
first_denormal_lem f y (ends {x} {c} z) e = rw z
first_denormal_lem f y (goes_on {x} {c} a d l) e = rw a (accepted_tells (f c x).number x y a)

-- the number of the last one tells the same of that dividend; 7 stands where there is none
last_accepted : (n : ℕ) (ts : List (Made ℕ)) → accepted n ≡ true → accepted (last_number n (answers ts)) ≡ true
unfolding last_number answers
last_accepted n [] a = a
last_accepted n (t ∷ ts) a = go (accepted t.report.number) refl (last_accepted t.report.number ts) (last_accepted n ts a)
  where
    go : (b : Bool) → accepted t.report.number ≡ b → (accepted t.report.number ≡ true → accepted (last_number t.report.number (answers ts)) ≡ true)
        → accepted (last_number n (answers ts)) ≡ true → accepted (last_number n (cond b (t ∷ answers ts) (answers ts))) ≡ true
    go true e h k = h e
    go false e h k = k

pub last_denormal : (x y : ℕ) (ts : List (Made ℕ)) → told_denormal x87 (last_number 7 (answers ts)) x y ≡ denormal x87 x || denormal x87 y
last_denormal x y ts = accepted_tells (last_number 7 (answers ts)) x y (last_accepted 7 ts refl)
