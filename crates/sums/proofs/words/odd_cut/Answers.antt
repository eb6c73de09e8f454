-- `odd_cut` meets its contract: from 64 places on all of n is left over, and below 64 one division tells.
use mathlib.Core.Path.{◌≡◌, sym}
use Prim.Native.Nat.{◌*◌, ◌%◌, ◌^◌}
use native.Mathlib.Nat.{one-mul, mod-eq_of_lt, pos_of_ne-zero, lt_of_lt_of_le}
use native.Mathlib.Omega.{arith}
use borrow.Author.Tests.{eq-eqb, ne_eqb}
use lib.Pow.{pow-lt, pow_mono}
use Rattle.laws.specs.OddCut.{odd_cut}
use Rattle.laws.proofs.Sticky.{odd_zero, odd_all}
use Rattle.sums.proofs.words.odd_cut.Goals as goal

pub returns-then-n-eq0 : goal.returns-then-n-eq0
returns-then-n-eq0 c = rw c.if-n-eq0.true (sym (odd_zero c.args.places))

pub returns-then-places-ge64 : goal.returns-then-places-ge64
returns-then-places-ge64 c =
    let a = c.args in
    sym (odd_all a.n a.places (pos_of_ne-zero c.if-n-eq0.false) (lt_of_lt_of_le c.ranges.n.fits (pow_mono {i = 64} c.if-places-ge64.true)))

pub returns-then-n-power-eq0 : goal.returns-then-n-power-eq0
unfolding odd_cut
returns-then-n-power-eq0 c =
    let power : 1 * 2 ^ c.args.places % 2 ^ 64 ≡ 2 ^ c.args.places =
    rw one-mul (mod-eq_of_lt (pow-lt {j = 64} (omega arith)))
    in
    rw power (rw (eq-eqb _ _ (rw power at c.if-n-power-eq0.true)))

pub returns : goal.returns
unfolding odd_cut
returns c =
    let power : 1 * 2 ^ c.args.places % 2 ^ 64 ≡ 2 ^ c.args.places =
    rw one-mul (mod-eq_of_lt (pow-lt {j = 64} (omega arith)))
    in
    rw power (rw (ne_eqb _ _ (rw power at c.if-n-power-eq0.false)))
