-- `fold64` meets its contract: each refusal leaves the lent lists, and an accepted list is filled.
use Rattle.std.proofs.lemmas.Result.{err_from_is_err_and}
use borrow.Author.Tests.{ne_eqb}
use Rattle.fold.proofs.Whole.{results_misfit, quotients_misfit, divisor_refused, filled}
use Rattle.fold.proofs.fold64.Goals.{then-results-x-via-then-results-x, then-results-x-via-else-results-x+then-quotients-x}
use Rattle.fold.proofs.fold64.Goals as goal

pub returns-then-results-x : goal.returns-then-results-x
returns-then-results-x c =
    let a = c.args in
    elim c.then-results-x.branch [
      | then-results-x-via-then-results-x w ↦ results_misfit a.kind a.y a.x.now a.results.now a.quotients.now w.if-results-x.true
      | then-results-x-via-else-results-x+then-quotients-x w ↦ quotients_misfit a.kind a.y a.x.now a.results.now a.quotients.now w.if-results-x.false (ne_eqb _ _ w.if-quotients-x.true)
    ]

pub returns-in_err-divisor : goal.returns-in_err-divisor
returns-in_err-divisor c =
    let a = c.args in
    let p = err_from_is_err_and c.from_residual.result c.from_residual.ensures.1 in
    rw (p.1, p.2)
    (divisor_refused a.kind a.y a.x.now a.results.now a.quotients.now c.if-results-x.false c.if-quotients-x.false c.in_err-divisor.field-0.0 c.in_err-divisor.ensures.err)

pub returns : goal.returns
returns c =
    let a = c.args in
    let d = c.in_ok-divisor in
    let is = d.ensures.ok in
    filled a.kind a.y a.x.now a.results.now a.quotients.now c.if-results-x.false c.if-quotients-x.false (rw is at d.divisor.divides) _ _ _ (rw is at c.fold_places.ensures)
