-- `fill` meets its contract. After i places both lists are filled from the front up to i.
use Rattle.std.proofs.Common.{refl, sym, ◌∙◌, eqb-true, arith}
use borrow.Author.Tests.{eqb-false}
use Rattle.fold.proofs.Passed.{none_passed, marked_more, unmarked_more}
use Rattle.fold.proofs.fill.Goals.{else-is_marked, then-is_marked}
use Rattle.fold.proofs.fill.Goals as goal

pub loop-i-init : goal.loop-i-init
loop-i-init g c =
    let a = c.args in
    (none_passed _ _ a.x.now a.results.now a.quotients.now c.requires.0 c.requires.1, refl, refl)

pub loop-i-preserved : goal.loop-i-preserved
loop-i-preserved g c =
    let l = c.loop-i in
    let p = c.place-place in
    let a = c.args in
    let kind = l.invariant.1 in
    let divisor = l.invariant.2 in
    let place = rw (kind, divisor) at p.ensures.place in
    let marks = sym c.is_marked.ensures in (
      elim c.if-is_marked.branch [
        | then-is_marked w ↦ rw w.marked-is (marked_more _ _ a.x.now a.results.now a.quotients.now c.requires.0 c.requires.1 l.results l.quotients l.marked l.i l.invariant.0 (omega arith) p.result place (eqb-true _ _ (marks ∙ w.if-is_marked.true)))
        | else-is_marked w ↦ rw w.marked-is (unmarked_more _ _ a.x.now a.results.now a.quotients.now c.requires.0 c.requires.1 l.results l.quotients l.marked l.i l.invariant.0 (omega arith) p.result place (eqb-false _ _ (marks ∙ w.if-is_marked.false)))
      ],
      p.ensures.kind ∙ kind,
      p.ensures.divisor ∙ divisor,
    )
