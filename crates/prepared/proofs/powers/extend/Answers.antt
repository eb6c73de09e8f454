-- `extend` meets its contract: the first n powers are in the table.
use Rattle.std.proofs.Common.{arith, length-set}
use Rattle.prepared.proofs.Kept.{stored}
use Rattle.prepared.proofs.powers.extend.Goals as goal

pub loop-n-preserved : goal.loop-n-preserved
loop-n-preserved c =
    let l = c.loop-n in
    let p = c.next_power in record {
      room = simp length-set l.invariant.room;
      some = omega arith;
      fits = omega arith;
      at = stored l.table c.args.m.significand l.n p.result l.invariant (omega arith) p.ensures.0 p.ensures.1;
    }
