-- `read_field` meets its contract, digit by digit.
use mathlib.Core.Path.{sym, ◌∙◌}
use native.Mathlib.Omega.{arith}
use Rattle.hexadecimal.proofs.HexDigits.{value_fits, field_read, no_field, no_digits}
use Rattle.hexadecimal.proofs.read_field.Goals as goal
use Rattle.hexadecimal.proofs.read_field.Goals.{then-digits-ne16-via-then-digits-ne16, then-digits-ne16-via-else-digits-ne16+then-not-are_digits}

pub returns-then-digits-ne16 : goal.returns-then-digits-ne16
returns-then-digits-ne16 c =
    elim c.then-digits-ne16.branch [
      | then-digits-ne16-via-then-digits-ne16 w ↦ no_field c.args.digits.now w.if-digits-ne16.true
      | then-digits-ne16-via-else-digits-ne16+then-not-are_digits w ↦ no_digits c.args.digits.now (sym w.are_digits.ensures ∙ w.if-not-are_digits.true)
    ]

pub overflow_mul-n : goal.overflow_mul-n
overflow_mul-n c =
    let l = c.loop-c in
    let fits = value_fits l.n 0 l.c-index (omega arith) l.invariant.0 (omega arith) in
    omega (arith, fits)

pub overflow_add-n : goal.overflow_add-n
overflow_add-n c =
    let l = c.loop-c in
    record { fits = value_fits l.n c.from.result l.c-index (omega arith) l.invariant.0 (omega (arith, c.from.ensures, c.digit_value.ensures.below)) }

pub returns : goal.returns
returns c =
    let l = c.loop-c in
    field_read c.args.digits.now l.n l.c-index c.if-digits-ne16.false (omega arith) (sym c.are_digits.ensures ∙ c.if-not-are_digits.false) l.invariant.2
