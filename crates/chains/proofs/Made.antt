-- The calls that a list makes: the rules that they follow, and that their totals are those of the accepted ones. Assumes nothing.
use mathlib.Core.Path.{◌≡◌, refl, sym, ◌∙◌}
use mathlib.Core.Bool.{Bool, true, false, cond, ◌||◌}
use mathlib.Core.List.{List, [], ◌∷◌}
use Prim.Native.Nat.{ℕ, ◌+◌}
use native.Mathlib.Nat.{zero-add, mod-mod}
use native.Mathlib.Omega.{arith}
use borrow.Author.Tests.{eqb-true}
use lib.Dec.{eqb}
use Rattle.digits.proofs.Tests.{clash}
use Rattle.definitions.specs.Numbers.{accepted}
use Rattle.definitions.specs.declared.Kind.{Kind}
use Rattle.definitions.specs.Remainder.{quotient_modulus, quotient_bits}
use Rattle.definitions.specs.Reports.{Report}
use Rattle.definitions.specs.Calls.{Call, Made, made, answers, any_accepted, last_number, finished, total_steps, total_quotient, Some, Listed, none, refused, ends, goes_on, EachCall, All}

-- [5.2, 5.4] the four rules
pub listed_made : (f : Call → ℕ → Report ℕ) (cs : List Call) (x : ℕ) → Listed f x cs (made f cs x)
unfolding made
listed_made f [] x = none
listed_made f (c ∷ cs) x = go (accepted (f c x).number) (eqb (f c x).number 0) refl refl (listed_made f cs)
  where
    go : (a z : Bool) → accepted (f c x).number ≡ a → eqb (f c x).number 0 ≡ z → ((y : ℕ) → Listed f y cs (made f cs y))
        → Listed f x (c ∷ cs) (record { call = c; handed = x; report = f c x } ∷ cond z [] (made f cs (cond a (f c x).value x)))
    go a true e d h = ends (eqb-true (f c x).number 0 d)
    go true false e d h = goes_on e d (h (f c x).value)
    go false false e d h = refused e (h x)

-- the totals of all calls ts are those of the accepted ones us
pub record Totals (ts us : List (Made ℕ)) : Type 0 where
  pub steps : total_steps ts ≡ total_steps us
  pub quotient : total_quotient ts ≡ total_quotient us
  pub finished : finished ts ≡ finished us

total_bits : (ts : List (Made ℕ)) → quotient_bits (total_quotient ts) ≡ total_quotient ts
unfolding total_quotient
total_bits [] = refl
total_bits (t ∷ ts) = mod-mod (t.report.quotient + total_quotient ts) quotient_modulus

refused_some : (n : ℕ) → accepted n ≡ false → eqb n 0 ≡ false
refused_some n = go (eqb n 0)
  where
    go : (z : Bool) → z || eqb n 1 || eqb n 7 ≡ false → z ≡ false
    go true e = clash (cc)
    go false e = refl

-- [5.4] a list has finished if its last accepted call gave 0; n is what there was before, and no 0
pub finished_last : (f : Call → ℕ → Report ℕ) (n : ℕ) → eqb n 0 ≡ false → {x : ℕ} {cs : List Call} {ts : List (Made ℕ)} → Listed f x cs ts
    → finished ts ≡ eqb (last_number n (answers ts)) 0
unfolding finished last_number answers
finished_last f n h none = sym h
finished_last f n h (refused {x} {c} e l) = rw (e, refused_some (f c x).number e) (finished_last f n h l)
finished_last f n h (ends {x} {c} e) = rw e
finished_last f n h (goes_on {x} {c} e d l) = rw (e, d) (finished_last f (f c x).number d l)

-- where any call was accepted there is one among the accepted ones, and where none was there is none
pub any_accepted_lem : (ts : List (Made ℕ)) → any_accepted ts ≡ true → Some (answers ts)
unfolding any_accepted answers
any_accepted_lem [] e = clash (cc)
any_accepted_lem (t ∷ ts) e = go (accepted t.report.number) e (any_accepted_lem ts)
  where
    go : (a : Bool) → a || any_accepted ts ≡ true → (any_accepted ts ≡ true → Some (answers ts)) → Some (cond a (t ∷ answers ts) (answers ts))
    go true h s = tt
    go false h s = s h

pub none_accepted : (ts : List (Made ℕ)) → any_accepted ts ≡ false → answers ts ≡ []
unfolding any_accepted answers
none_accepted [] e = refl
none_accepted (t ∷ ts) e = go (accepted t.report.number) e (none_accepted ts)
  where
    go : (a : Bool) → a || any_accepted ts ≡ false → (any_accepted ts ≡ false → answers ts ≡ []) → cond a (t ∷ answers ts) (answers ts) ≡ []
    go true h s = clash (cc)
    go false h s = s h

-- a list that has finished has one
pub finished_some : (ts : List (Made ℕ)) → finished ts ≡ true → Some ts
unfolding finished
finished_some [] e = clash (cc)
finished_some (t ∷ ts) e = tt

pub totals : (κ : Kind) (y : ℕ) (ts : List (Made ℕ)) → All (EachCall κ y) ts → Totals ts (answers ts)
unfolding answers total_steps total_quotient finished
totals κ y [] h = record { steps = refl; quotient = refl; finished = refl }
totals κ y (t ∷ ts) h = go (accepted t.report.number) refl (totals κ y ts h.1)
  where
    go : (a : Bool) → accepted t.report.number ≡ a → Totals ts (answers ts) → Totals (t ∷ ts) (cond a (t ∷ answers ts) (answers ts))
    go true e g = record { steps = rw g.steps; quotient = rw g.quotient; finished = rw g.finished }
    go false e g =
        let n = h.0.adds e in
        record {
          steps = omega (arith, n.0, g.steps);
          quotient = rw (n.1, zero-add) (total_bits ts ∙ g.quotient);
          finished = rw (refused_some t.report.number e) g.finished;
        }
