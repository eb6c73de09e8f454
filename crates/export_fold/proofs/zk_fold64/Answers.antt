-- `zk_fold64` meets its contract: what it leaves is what `fold64` tells.
use Rattle.std.proofs.Common.{ap, ◌∙◌}
use Rattle.definitions.specs.Fold.{Folded}
use Rattle.laws.proofs.Lent.{kept}
use Rattle.export_fold.proofs.zk_fold64.Goals as goal

pub returns-in-Ok : goal.returns-in-Ok
returns-in-Ok c =
    let told = rw (c.in-Ok.is, c.into.ensures) at c.fold64.ensures in
    record {
      number = ap (λ (t : Folded). t.number) told;
      results = ap (λ (t : Folded). t.results) told;
      quotients = ap (λ (t : Folded). t.quotients) told;
      marked = ap (λ (t : Folded). t.marked) told;
    }

pub returns-in-Err : goal.returns-in-Err
returns-in-Err c =
    let told = rw (c.in-Err.is, c.into.ensures) at c.fold64.ensures in
    record {
      number = c.into-in-Err.ensures ∙ ap (λ (t : Folded). t.number) told;
      results = ap (λ (t : Folded). t.results) told;
      quotients = ap (λ (t : Folded). t.quotients) told;
      marked = kept c.in-Err.why c.into-in-Err.result _ c.args.marked.now c.into-in-Err.ensures;
    }
