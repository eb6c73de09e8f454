-- `zk_run80` meets its contract: a block of another length is refused, and else what `run80` answers is written.
use mathlib.Core.Path.{refl, sym, subst, ◌∙◌}
use lib.ListN.{length}
use Rattle.definitions.specs.Format.{words}
use Rattle.definitions.specs.Reports.{nothing}
use Rattle.definitions.specs.Block.{kind_of}
use Rattle.chains.proofs.Small.{Small, run_small}
use Rattle.export_steps.proofs.Written.{misfit, run_fitting, run_misfit}
use Rattle.export_steps.proofs.zk_run80.Goals as goal

pub returns-then-block-ne-BLOCK_LENGTH : goal.returns-then-block-ne-BLOCK_LENGTH
returns-then-block-ne-BLOCK_LENGTH c =
    let a = c.args in
    let k = misfit _ a.block.now _ c.into.ensures (run_misfit (kind_of a.kind) a.size (words a.xw a.x) (words a.yw a.y) (length a.block.now) a.budget c.if-block-ne-BLOCK_LENGTH.true) in
    record { number = k.0; block = k.1 }

pub write-requires : goal.write-requires
write-requires c =
    let a = c.args in
    let h = subst Small (sym c.run80-told.ensures.answer) (run_small nothing c.into-2.result a.size (words a.xw a.x) (words a.yw a.y) a.budget) in
    (c.if-block-ne-BLOCK_LENGTH.false, h.value, refl)

pub returns : goal.returns
returns c =
    let a = c.args in
    let told = (rw c.into-2.ensures at c.run80-told.ensures.answer) ∙ run_fitting (kind_of a.kind) a.size (words a.xw a.x) (words a.yw a.y) (length a.block.now) a.budget c.if-block-ne-BLOCK_LENGTH.false in
    let k = c.write.ensures in
    record { number = rw (← told) k.number; block = rw (← told) k.block }
