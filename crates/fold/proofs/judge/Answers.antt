-- `judge` meets its contract: a normal divisor is accepted.
use mathlib.Core.Path.{◌≡◌}
use Prim.Native.Nat.{ℕ, ◌<◌}
use Rattle.digits.proofs.Tests.{not_zero}
use Rattle.definitions.specs.Format.{binary64, class_of}
use Rattle.definitions.specs.Numbers.{first}
use Rattle.definitions.specs.Fold.{dividing_list}
use Rattle.quick.specs.Common.{field_of}
use Rattle.quick.proofs.Normals.{normal_value, count_pos, normal_class}
use Rattle.quick.proofs.Fields.{normal}
use Rattle.fold.proofs.judge.Goals as goal

normal-accepted : (y : ℕ) → 0 < field_of y → field_of y < 2047 → first (dividing_list (class_of binary64 y)) ≡ 0
unfolding first
normal-accepted y some low =
    let n = normal y some low in
    rw (normal_class binary64 y n, not_zero (normal_value binary64 y).count (count_pos binary64 y n))

pub invariant_of-result : goal.invariant_of-result
invariant_of-result c =
    let f = c.field_of-field in
    record { divides = normal-accepted c.args.y (rw f.ensures at c.if-field-gt0.true) (rw f.ensures at c.if-field-lt2047.true) }
