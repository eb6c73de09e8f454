-- `step_pair` meets its contract: the gap decides between the finishing and the partial step.
use Rattle.definitions.specs.Format.{x87}
use Rattle.operands.specs.Operand.{value_in}
use Rattle.shapes.proofs.Sounds.{sound80}
use Rattle.packing.proofs.Standing.{unpacks}
use native.Mathlib.Omega.{arith}
use Rattle.partial.proofs.Pairs.{both_ready, gap_back, near_step, far_step}
use Rattle.partial.proofs.step_pair.Goals as goal

pub gap-d-requires : goal.gap-d-requires
gap-d-requires c =
    let a = c.args in
    both_ready a.x a.y c.requires.0 c.requires.1

pub finish_pair-requires : goal.finish_pair-requires
finish_pair-requires c =
    let a = c.args in
    let r = both_ready a.x a.y c.requires.0 c.requires.1 in
    rw (gap_back a.x a.y c.requires.0 c.requires.1 c.gap-d.result c.gap-d.ensures) (r.0, r.1, c.gap-d.ensures)

pub returns-then-d-lt64 : goal.returns-then-d-lt64
returns-then-d-lt64 c =
    let a = c.args in
    let near = rw (gap_back a.x a.y c.requires.0 c.requires.1 c.gap-d.result c.gap-d.ensures) at c.if-d-lt64.true in
    near_step a.x a.y c.requires.0 c.requires.1 c.gap-d.result c.gap-d.ensures a.kind a.size c.finish_pair.result near
    (c.finish_pair.ensures x87.smallest (value_in x87.smallest a.x) (value_in x87.smallest a.y) (unpacks x87 sound80 a.x c.requires.0) (unpacks x87 sound80 a.y c.requires.1))

pub returns-else-d-lt64 : goal.returns-else-d-lt64
returns-else-d-lt64 c =
    let a = c.args in
    let back = gap_back a.x a.y c.requires.0 c.requires.1 c.gap-d.result c.gap-d.ensures in
    far_step a.x a.y c.requires.0 c.requires.1 c.gap-d.result c.gap-d.ensures (rw back at c.if-d-lt64.false) a.kind a.size (rw back at c.cut_pair.ensures) (omega arith)
