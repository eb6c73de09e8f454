-- `divide_short` meets its contract. The loop's invariant: the division of the places that are passed.
use mathlib.Core.Path.{◌≡◌, ap, ◌∙◌}
use Prim.Native.Nat.{◌+◌, ◌*◌, ◌%◌}
use native.Mathlib.Nat.{add-zero}
use native.Mathlib.Omega.{arith}
use Rattle.division.specs.Divided.{divided_of}
use Rattle.short_division.proofs.Turns.{first_turn, next_turn}
use Rattle.short_division.proofs.divide_short.Goals as goal

pub loop-turn-init : goal.loop-turn-init
loop-turn-init c =
    let a = c.args in
    rw add-zero (first_turn a.a a.b c.requires.1 c.requires.2 (a.places % 40) c.requires.0 (omega arith))

pub loop-turn-preserved : goal.loop-turn-preserved
loop-turn-preserved c =
    let l = c.loop-turn in
    let a = c.args in
    let next : a.places % 40 + (l._turn + 1) * 40 ≡ a.places % 40 + l._turn * 40 + 40 = omega arith in
    rw next (next_turn a.a a.b c.requires.1 c.requires.2 (a.places % 40 + l._turn * 40) l.quotient l.rest l.invariant)

pub returns : goal.returns
returns c =
    let l = c.loop-turn in
    let a = c.args in
    let all : a.places % 40 + l._turn * 40 ≡ a.places = omega arith in
    l.invariant ∙ ap (divided_of a.a a.b) all
