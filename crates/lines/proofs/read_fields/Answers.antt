-- `read_fields` meets its contract: what each test says of the line.
use mathlib.Core.Path.{refl, ◌∙◌}
use Rattle.lines.proofs.WellFormed.{no_length, no_space, told}
use Rattle.lines.proofs.read_fields.Goals as goal
use Rattle.lines.proofs.read_fields.Goals.{then-line-ne33-via-then-line-ne33, then-line-ne33-via-else-line-ne33+then-line-ne32}

pub returns-then-line-ne33 : goal.returns-then-line-ne33
returns-then-line-ne33 c =
    elim c.then-line-ne33.branch [
      | then-line-ne33-via-then-line-ne33 w ↦ no_length c.args.line.now w.if-line-ne33.true
      | then-line-ne33-via-else-line-ne33+then-line-ne32 w ↦ no_space c.args.line.now w.if-line-ne32.true
    ]

pub returns-in_err-read_field : goal.returns-in_err-read_field
returns-in_err-read_field c =
    c.from_residual.ensures ∙ told c.args.line.now _ _ c.if-line-ne33.false c.if-line-ne32.false c.in_err-read_field.ensures refl

pub returns-in_err-read_field-2 : goal.returns-in_err-read_field-2
returns-in_err-read_field-2 c =
    c.from_residual-in_err-read_field-2.ensures
    ∙ told c.args.line.now _ _ c.if-line-ne33.false c.if-line-ne32.false c.in_ok-read_field.ensures c.in_err-read_field-2.ensures

pub returns : goal.returns
returns c = told c.args.line.now _ _ c.if-line-ne33.false c.if-line-ne32.false c.in_ok-read_field.ensures c.in_ok-read_field-2.ensures
