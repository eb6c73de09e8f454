-- `run_value` meets its contract: the loop's invariant is the run itself, with as many steps as the loop has taken.
use Rattle.std.proofs.Common.{◌≡◌, arith}
use Rattle.runs.proofs.Loop.{reached_none, reached_stands, reached_next, reached_done, reached_spent}
use Rattle.runs.proofs.run_value.Goals as goal

pub loop-taken-init : goal.loop-taken-init
loop-taken-init c =
    let a = c.args in
    reached_none a.kind a.size a.x c.requires.0 a.y c.requires.1

pub step_value-requires : goal.step_value-requires
step_value-requires c =
    let a = c.args in
    let l = c.loop-taken in
    (reached_stands a.kind a.size a.x c.requires.0 a.y c.requires.1 l.value l.quotient l.taken l.invariant, c.requires.1, c.requires.2)

pub loop-taken-preserved : goal.loop-taken-preserved
loop-taken-preserved c =
    let a = c.args in
    let l = c.loop-taken in
    rw c.wrapping_add_u32-quotient.ensures.value
    (reached_next a.kind a.size a.x c.requires.0 a.y c.requires.1 l.value l.quotient l.taken l.invariant c.in-Unfinished.left (rw c.in-Unfinished.is at c.step_value.ensures))

pub returns-in-Finished : goal.returns-in-Finished
returns-in-Finished c =
    let a = c.args in
    let l = c.loop-taken in
    rw c.wrapping_add_u32.ensures.value
    (reached_done a.kind a.size a.x c.requires.0 a.y c.requires.1 l.value l.quotient l.taken l.invariant c.in-Finished.left a.budget c.loop-taken-test.true (rw c.in-Finished.is at c.step_value.ensures))

pub returns : goal.returns
returns c =
    let a = c.args in
    let l = c.loop-taken in
    let e : l.taken ≡ a.budget = omega arith in
    rw (← e) (reached_spent a.kind a.size a.x c.requires.0 a.y c.requires.1 l.value l.quotient l.taken l.invariant)
