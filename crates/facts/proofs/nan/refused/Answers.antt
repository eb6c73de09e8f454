-- `refused` meets its contract.
use Rattle.std.proofs.Common.{rules}
use mathlib.Core.Path.{◌≡◌, ◌∙◌}
use Rattle.definitions.specs.Facts.{refused_value}
use Rattle.definitions.specs.declared.Refusal.TheVariants.{Nan}
use Rattle.operands.specs.Operand.{class_in}
use Rattle.facts.proofs.Choosing.{other_value}
use Rattle.facts.proofs.nan.refused.Goals as goal

pub returns-then-eq-clause-value : goal.returns-then-eq-clause-value
unfolding refused_value
returns-then-eq-clause-value g c =
    let is : c.args.why ≡ Nan = search (rules, c.if-eq.ensures) in
    rw is c.nan_of-value.ensures

pub returns-else-eq-clause-value : goal.returns-else-eq-clause-value
returns-else-eq-clause-value g c =
    let f = g.F.Format.format in
    let other : c.args.why ≡ Nan → ⊥ = search (rules, c.if-eq.ensures) in
    c.house_nan-value.ensures ∙ other_value f (class_in f.smallest c.args.x) (class_in f.smallest c.args.y) c.args.why other
