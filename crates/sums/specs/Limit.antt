-- How the code limits an operand. Nothing to believe: this only names the code's own value.
use Rattle.std.specs.Prelude.{ℕ, cond, pos}
use Rattle.std.specs.Int.Signed.{lt_z}
use Rattle.operands.specs.declared.Operand.{Operand}
use Rattle.operands.specs.declared.Operand.TheVariants.{Unsupported, Nan, Infinite, Zero, Finite}

-- an exponent above the bias gives an infinity
abbrev pub limit_of : ℕ → Operand → Operand
limit_of bias Unsupported = Unsupported
limit_of bias (Nan n s) = Nan n s
limit_of bias (Infinite n) = Infinite n
limit_of bias (Zero n) = Zero n
limit_of bias (Finite u) = cond (lt_z (pos bias) u.exponent) (Infinite u.negative) (Finite u)
