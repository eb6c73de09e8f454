-- `rounded` meets its contract: each return is the case that its tests led to.
use native.Mathlib.Nat.{pos_of_ne-zero}
use native.Mathlib.Omega.{arith}
use borrow.Author.Tests.{eq-eqb, ne_eqb}
use Rattle.rounding.proofs.rounded.Goals as goal

pub returns-then-remainder-eq0 : goal.returns-then-remainder-eq0
returns-then-remainder-eq0 c = simp (eq-eqb _ _ c.if-remainder-eq0.true)

pub overflow_add-result : goal.overflow_add-result
overflow_add-result c = omega (arith, c.requires (pos_of_ne-zero c.if-remainder-eq0.false))

pub returns-then-up : goal.returns-then-up
returns-then-up c = simp (ne_eqb _ _ c.if-remainder-eq0.false, c.if-up.true)

pub returns-else-up : goal.returns-else-up
returns-else-up c = simp (ne_eqb _ _ c.if-remainder-eq0.false, c.if-up.false)
