-- `subtract` meets its contract: each return is the case that its tests led to.
use mathlib.Core.Path.{◌≡◌, sym, ap, ◌∙◌}
use mathlib.Core.Bool.{Bool, true, false, not, beq}
use native.Mathlib.Omega.{arith}
use borrow.Author.Tests.{lt-ltb, le-ltb}
use Rattle.std.proofs.Common.{Less, Equal, Greater}
use Rattle.std.specs.Cmp.{ranked}
use Rattle.std.proofs.Math.Bool.{not-not}
use Rattle.definitions.specs.Difference.{exact_difference}
use Rattle.laws.proofs.Difference.{cases_by_sign, difference_cases}
use Rattle.sums.specs.declared.words.SignedWord.{SignedWord}
use Rattle.sums.specs.Signed.{value_of}
use Rattle.sums.proofs.words.subtract.Goals as goal

by_test : (x y : SignedWord) (differ : Bool) → not (beq x.negative y.negative) ≡ differ
    → cases_by_sign (not differ) (value_of x) (value_of y) ≡ exact_difference (value_of x) (value_of y)
by_test x y differ e =
    ap (λ (t : Bool). cases_by_sign t (value_of x) (value_of y)) (sym (ap not e) ∙ not-not (beq x.negative y.negative))
    ∙ sym (difference_cases (value_of x) (value_of y))

pub returns-then-x-y : goal.returns-then-x-y
returns-then-x-y c = by_test c.args.x c.args.y true c.if-x-y.true

pub returns-in-Greater : goal.returns-in-Greater
returns-in-Greater c =
    let more = ranked c.args.x.word c.args.y.word Greater (sym c.in-Greater.is ∙ c.cmp.ensures) in
    rw (lt-ltb _ _ more) at (by_test c.args.x c.args.y false c.if-x-y.false)

pub returns-in-Less : goal.returns-in-Less
returns-in-Less c =
    let less = ranked c.args.x.word c.args.y.word Less (sym c.in-Less.is ∙ c.cmp.ensures) in
    rw (le-ltb c.args.y.word c.args.x.word (omega (arith, less)), lt-ltb _ _ less) at (by_test c.args.x c.args.y false c.if-x-y.false)

pub returns-in-Equal : goal.returns-in-Equal
returns-in-Equal c =
    let equal = ranked c.args.x.word c.args.y.word Equal (sym c.in-Equal.is ∙ c.cmp.ensures) in
    rw (le-ltb c.args.y.word c.args.x.word (omega (arith, equal)), le-ltb c.args.x.word c.args.y.word (omega (arith, equal))) at (by_test c.args.x c.args.y false c.if-x-y.false)
