-- `subtract_placed` meets its contract: the words' difference is rounded as the values' is.
use mathlib.Core.Path.{◌≡◌, sym, ap, ◌∙◌}
use mathlib.Core.Bool.{Bool}
use Prim.Native.Nat.{ℕ, ◌+◌, ◌*◌, ◌/◌, ◌^◌, ◌≤◌}
use native.Mathlib.Omega.{arith}
use Rattle.definitions.specs.Format.{Format}
use Rattle.definitions.specs.Difference.{exact_difference, limited, rounded_to, difference_value}
use Rattle.laws.specs.OddCut.{odd_cut}
use Rattle.laws.proofs.Difference.{value_is}
use Rattle.operands.specs.Operand.{operand_of, place_in, value_in}
use Rattle.operands.specs.declared.Operand.{Operand}
use Rattle.operands.specs.declared.Operand.TheVariants.{Finite}
use Rattle.operands.specs.declared.Unpacked.{Unpacked}
use Rattle.shapes.specs.Shape.{Sound}
use Rattle.packing.specs.Stands.{StandsValue}
use Rattle.packing.proofs.Places.{placed}
use Rattle.sums.specs.Signed.{value_of}
use Rattle.sums.specs.declared.words.SignedWord.{SignedWord}
use Rattle.difference.proofs.Aligned.{Agrees}
use Rattle.difference.proofs.Halves.{words, exact, sum_small, values_agree}
use Rattle.difference.proofs.values.subtract_placed.Goals as goal

-- what the code subtracts, and what it makes of the difference
module _ (f : Format) (ok : Sound f) (narrow : f.precision ≤ 60) (x y : Unpacked) (sx : StandsValue f (Finite x)) (sy : StandsValue f (Finite y)) (place gap : ℕ)
    (ex : place ≡ place_in f.smallest x.exponent) (ey : place_in f.smallest y.exponent + gap ≡ place)
    (w : SignedWord) (low : ℕ) (cut : low ≡ odd_cut (y.significand / 2) gap)
    (is : value_of w ≡ exact_difference (record { negative = x.negative; count = x.significand / 2 }) (record { negative = y.negative; count = low })) where
  sum_is : value_of w ≡ words f ok narrow x y sx sy place gap ex ey
  sum_is = rw cut at is

  agrees : Agrees f.precision place (value_of w) (exact f ok narrow x y sx sy place gap ex ey)
  agrees = rw sum_is (values_agree f ok narrow x y sx sy place gap ex ey)

  rounds : (o : Operand) → ((c : ℕ) → rounded_to f.precision w.word * 2 ^ place ≡ c * 2 ^ 62 → o ≡ operand_of f.smallest (limited f w.negative c))
      → o ≡ operand_of f.smallest (difference_value f (value_in f.smallest x) (value_in f.smallest y))
  rounds o holds =
      let n = rounded_to f.precision (exact f ok narrow x y sx sy place gap ex ey).count in
      holds n agrees.count.rounds
      ∙ ap (λ (b : Bool). operand_of f.smallest (limited f b n)) agrees.sign
      ∙ ap (operand_of f.smallest) (sym (value_is f (value_in f.smallest x) (value_in f.smallest y)))

pub subtract-requires : goal.subtract-requires
subtract-requires g c =
    rw c.odd_cut.ensures
    (sum_small g.F.Format.format g.met.F.Format.sound g.met.F.Spare.spare c.args.x c.args.y c.requires.0 c.requires.1 c.args.place c.args.gap c.requires.2 c.requires.3)

pub rounded_value-requires : goal.rounded_value-requires
rounded_value-requires g c =
    let f = g.F.Format.format in
    let ok = g.met.F.Format.sound in
    let told = agrees f ok g.met.F.Spare.spare c.args.x c.args.y c.requires.0 c.requires.1 c.args.place c.args.gap c.requires.2 c.requires.3
    c.subtract.result _ c.odd_cut.ensures c.subtract.ensures in
    (told.count.sized, omega (arith, c.requires.2, (placed f ok c.args.x c.requires.0).range, ok.narrow, ok.short))

pub returns : goal.returns
returns g c =
    rounds g.F.Format.format g.met.F.Format.sound g.met.F.Spare.spare c.args.x c.args.y c.requires.0 c.requires.1 c.args.place c.args.gap c.requires.2 c.requires.3
    c.subtract.result _ c.odd_cut.ensures c.subtract.ensures c.rounded_value.result c.rounded_value.ensures
