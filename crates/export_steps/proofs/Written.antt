-- What lending a block changes: nothing, or everything is refused. Assumes nothing.
use mathlib.Core.Path.{◌≡◌, refl}
use mathlib.Core.List.{List}
use Prim.Native.Nat.{ℕ}
use borrow.Author.Tests.{ne_eqb}
use Rattle.definitions.specs.Numbers.{first}
use Rattle.definitions.specs.Reports.{Report, nothing, block, block_length, step_report, run_report}
use Rattle.definitions.specs.Block.{block_after}
use Rattle.definitions.specs.declared.Kind.{Kind}

-- a block of the right length is not looked at, and another is refused before everything else

module _ (κ : Kind) (n x y l : ℕ) where
  pub step_fitting : l ≡ block_length → step_report nothing κ n x y ≡ step_report (block l) κ n x y
  unfolding step_report first
  step_fitting e = rw e

  pub step_misfit : (l ≡ block_length → ⊥) → 9 ≡ (step_report (block l) κ n x y).number
  unfolding step_report first
  step_misfit h = rw (ne_eqb l block_length h)

  pub run_fitting : (b : ℕ) → l ≡ block_length → run_report nothing κ n b x y ≡ run_report (block l) κ n b x y
  unfolding run_report first
  run_fitting b e = rw e

  pub run_misfit : (b : ℕ) → (l ≡ block_length → ⊥) → 9 ≡ (run_report (block l) κ n b x y).number
  unfolding run_report first
  run_misfit b h = rw (ne_eqb l block_length h)

pub misfit : (r : Report ℕ) (lent : List ℕ) (n : ℕ) → n ≡ 9 → 9 ≡ r.number → (n ≡ r.number) × (lent ≡ block_after lent r)
unfolding block_after
misfit r lent n h e = rw (h, ← e) (refl, refl)
