-- The whole list: its number, and what is left of the lent lists. Assumes nothing.
use mathlib.Core.Path.{◌≡◌, sym, ◌∙◌}
use mathlib.Core.Bool.{false}
use mathlib.Core.List.{List}
use Prim.Native.Nat.{ℕ}
use borrow.Author.Tests.{eq-eqb, ne_eqb}
use lib.Dec.{eqb}
use lib.ListN.{length}
use Rattle.definitions.specs.Format.{class_of, binary64}
use Rattle.definitions.specs.Numbers.{first}
use Rattle.definitions.specs.Fold.{Folded, dividing_list, fold_list}
use Rattle.definitions.specs.Answers.{refusal_number}
use Rattle.definitions.specs.declared.Kind.{Kind}
use Rattle.definitions.specs.declared.Refusal.{Refusal}
use Rattle.definitions.specs.declared.Refusal.TheVariants.{BadLength}
use Rattle.checks.proofs.Judged.{refusal_some}
use Rattle.laws.proofs.Fold.{fold_unequal, fold_divisor}
use Rattle.fold.specs.Filled.{Filled}

module _ (κ : Kind) (y : ℕ) (xs results quotients : List ℕ) where
  abbrev whole : Folded
  whole = fold_list κ y xs results quotients

  -- a number, with both lists left and nothing counted
  abbrev untouched : ℕ → Folded
  untouched n = record { number = n; results = results; quotients = quotients; marked = 0 }

  -- so is a call that is refused
  refuses : (why : Refusal) → whole.number ≡ refusal_number why → untouched (refusal_number why) ≡ whole
  unfolding fold_list
  refuses why e = rw (e, refusal_some why)

  pub results_misfit : (length results ≡ length xs → ⊥) → untouched 9 ≡ whole
  results_misfit h = refuses BadLength (fold_unequal κ y xs results quotients (rw (ne_eqb _ _ h)))

  pub quotients_misfit : length results ≡ length xs → eqb (length quotients) (length xs) ≡ false → untouched 9 ≡ whole
  quotients_misfit e h = refuses BadLength (fold_unequal κ y xs results quotients (rw (eq-eqb _ _ e, h)))

  module _ (er : length results ≡ length xs) (eq : length quotients ≡ length xs) where
    fits : whole.number ≡ first (dividing_list (class_of binary64 y))
    fits = fold_divisor κ y xs results quotients er eq

    pub divisor_refused : (why : Refusal) → refusal_number why ≡ first (dividing_list (class_of binary64 y)) → untouched (refusal_number why) ≡ whole
    divisor_refused why is = refuses why (fits ∙ sym is)

    pub filled : first (dividing_list (class_of binary64 y)) ≡ 0 → (results' quotients' : List ℕ) (marked : ℕ) → Filled κ y xs results' quotients' marked
        → record { number = 0; results = results'; quotients = quotients'; marked = marked } ≡ whole
    unfolding fold_list
    filled z results' quotients' marked f = rw (fits ∙ z, f.values, f.bytes, f.count)
