-- `answer_ended` meets its contract, byte by byte.
use native.Mathlib.Omega.{arith}
use Rattle.stream.proofs.Ended.{line_ended, line_longer}
use Rattle.stream.proofs.answer_ended.Goals as goal
use Rattle.stream.proofs.answer_ended.Goals.{then-c-eq10, else-c-eq10}

pub loop-i-preserved : goal.loop-i-preserved
loop-i-preserved c =
    let l = c.loop-i in
    let xs = c.args.input.now in
    elim c.if-c-eq10.branch [
      | then-c-eq10 w ↦
          rw (w.out-is, w.begin-is, w.at-is) (
            line_ended xs l.i c.loop-i-test.true l.out _ l.begin l.at _ w.if-c-eq10.true l.invariant.0 w.answer_at-at.ensures,
            omega (arith, l.invariant.1, w.answer_at-at.auto.out),
          )
      | else-c-eq10 w ↦
          rw (w.out-is, w.begin-is, w.at-is) (
            line_longer xs l.i c.loop-i-test.true l.out l.begin l.at w.if-c-eq10.false l.invariant.0,
            l.invariant.1,
          )
    ]
