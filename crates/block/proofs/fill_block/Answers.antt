-- `fill_block` meets its contract: the stores leave the definition's twenty bytes.
use native.Mathlib.Omega.{arith}
use Rattle.block.proofs.Filled.{filled}
use Rattle.block.proofs.fill_block.Goals as goal

pub returns : goal.returns
returns c =
    let a = c.args in
    filled a.reached.value.low a.reached.value.high a.number a.reached.quotient _ a.reached.steps (omega arith) c.shown_bits.ensures a.block.now _ _ _ _ c.requires.0 c.store.ensures c.store-2.ensures
    c.store-3.ensures c.store-4.ensures
