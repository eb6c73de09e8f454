-- `line_of_answer` meets its contract, case by case.
use Rattle.std.specs.Prelude.{Result}
use mathlib.Core.Path.{◌≡◌, sym, subst}
use Prim.Native.Nat.{ℕ, ◌<◌, ◌^◌}
use native.Mathlib.Omega.{arith}
use Rattle.definitions.specs.Answers.{remainder_meaning, joined}
use Rattle.definitions.specs.Line.{answer_line}
use Rattle.definitions.specs.declared.Refused.{Refused}
use Rattle.definitions.specs.declared.Residue.{Residue}
use Rattle.lines.proofs.output.line_of_answer.Goals as goal

pub returns-in-Ok : goal.returns-in-Ok
unfolding remainder_meaning answer_line
returns-in-Ok c =
    let small = subst (λ (a : Result (Residue ℕ) Refused). (remainder_meaning a).value < 2 ^ 64) c.in-Ok.is c.requires.0 in
    let low : c.in-Ok.residue.value.low ≡ joined c.in-Ok.residue.value = omega arith in
    rw (c.in-Ok.is, ← low, ← c.shown_bits.ensures) c.digits_line.ensures

pub returns-in-Err : goal.returns-in-Err
unfolding remainder_meaning answer_line
returns-in-Err c =
    let small = subst (λ (a : Result (Residue ℕ) Refused). (remainder_meaning a).value < 2 ^ 64) c.in-Err.is c.requires.0 in
    let low : c.in-Err.refused.value.low ≡ joined c.in-Err.refused.value = omega arith in
    rw (c.in-Err.is, ← low, sym c.from.ensures) c.digits_line-in-Err.ensures
