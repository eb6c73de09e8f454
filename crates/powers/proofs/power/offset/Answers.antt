-- `offset` meets its contract: the sum of what was clamped is no negative number.
use mathlib.Core.Path.{◌≡◌}
use Prim.Native.Nat.{◌<◌, ◌^◌}
use native.Mathlib.Omega.{arith}
use lib.IntN.{pos, ◌+ℤ◌}
use mir.Syntax.{w32}
use mir.Val.{to_z, of_z}
use mir.ValLaws.{to_z-of_z, to_z_pos}
use Rattle.powers.specs.Power.{far, offset_of}
use Rattle.powers.proofs.Powers.{clamped, offset_small}
use Rattle.powers.proofs.power.offset.Goals as goal

pub returns : goal.returns
returns c =
    let power = c.args.power in
    let sum : to_z w32 (of_z w32 c.clamp.result) +ℤ pos far ≡ pos (offset_of power) =
    rw (to_z-of_z w32 c.clamp.result (record { sfits = c.clamp.type_inv }), c.clamp.ensures.value, to_z-of_z w32 power c.ranges.power) (clamped power)
    in
    let small : offset_of power < 2 ^ 31 =
    omega (arith, offset_small power)
    in
    rw (sum, to_z_pos w32 (offset_of power) small)
