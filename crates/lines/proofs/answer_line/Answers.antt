-- `answer_line` meets its contract: the line is answered, or is bad.
use mathlib.Core.Path.{sym, ap, ◌∙◌}
use Rattle.definitions.specs.declared.Kind.TheVariants.{Truncated}
use Rattle.definitions.specs.Format.{binary64}
use Rattle.definitions.specs.Line.{answer_line}
use Rattle.laws.proofs.Regular.{regular64}
use Rattle.laws.proofs.Small.{remainder_small}
use Rattle.lines.specs.Output.{output_of}
use Rattle.lines.proofs.OneDigit.{number_digit}
use Rattle.lines.proofs.WellFormed.{answered, unanswered}
use Rattle.lines.proofs.answer_line.Goals as goal

pub returns-in_default : goal.returns-in_default
returns-in_default c = c.bad_line.ensures ∙ ap output_of (sym (unanswered c.args.line.now (sym c.in_default.is ∙ c.read_fields.ensures)))

pub line_of_answer-requires : goal.line_of_answer-requires
line_of_answer-requires c = rw c.remainder-told.ensures.answer (remainder_small binary64 regular64 Truncated _ _, number_digit binary64 Truncated _ _)

pub returns : goal.returns
returns c =
    c.line_of_answer.ensures
    ∙ ap output_of
    (ap answer_line c.remainder-told.ensures.answer ∙ sym (answered c.args.line.now _ _ (sym c.in-Some.is ∙ c.read_fields.ensures)))
