-- `remainder_kept` meets its contract.
use mathlib.Core.Path.{◌∙◌}
use native.Mathlib.Omega.{arith}
use Rattle.definitions.specs.Format.{x87}
use Rattle.laws.proofs.Regular.{regular80}
use Rattle.quick.proofs.Below.{kept_answer}
use Rattle.quick_x87.proofs.Parts.{Parts, both}
use Rattle.quick_x87.proofs.remainder_kept.Goals as goal

pub returns : goal.returns
returns c =
    let p : Parts c.args.x.significand c.args.x.word × Parts c.args.y.significand c.args.y.word = both _ _ _ _ (omega arith) (omega arith) (omega arith) (omega arith) c.requires.0 in
    (λ i. record { number = 0; value = c.words.ensures.bits i; quotient = 0 })
    ∙ kept_answer x87 regular80 _ _ p.0.normal p.1.normal c.args.kind p.0.small (omega (arith, p.0.field, p.1.field, c.requires.1))
