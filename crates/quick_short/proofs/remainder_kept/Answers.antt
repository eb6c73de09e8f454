-- `remainder_kept` meets its contract.
use mathlib.Core.Path.{◌∙◌}
use native.Mathlib.Nat.{zero-add}
use Rattle.quick.proofs.Below.{kept_answer}
use Rattle.quick_short.proofs.Fields.{below}
use Rattle.quick_short.proofs.remainder_kept.Goals as goal

pub returns : goal.returns
returns g c =
    let a = c.args in
    let f = g.F.Format.format in
    let b = below f g.met.F.Short.short a.x a.y a.kind c.requires.1 in
    (λ i. record { number = 0; value = zero-add a.x i; quotient = 0 }) ∙ kept_answer f g.met.F.Short.short.sound.regular a.x a.y b.dividend b.divisor a.kind c.requires.0 b.apart
