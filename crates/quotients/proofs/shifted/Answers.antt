-- `shifted` meets its contract: 32 places or more leave no low bit.
use mathlib.Core.Path.{sym}
use Prim.Native.Nat.{◌^◌}
use native.Mathlib.Nat.{mod-eq-zero_of_dvd, dvd_trans, dvd-mul_left}
use Rattle.digits.proofs.Digits.{pow_dvd}
use Rattle.quotients.proofs.shifted.Goals as goal

pub returns-then-places-ge32 : goal.returns-then-places-ge32
returns-then-places-ge32 c =
    let a = c.args in
    sym (mod-eq-zero_of_dvd (2 ^ 32) (dvd_trans (2 ^ 32) (pow_dvd 32 a.places c.if-places-ge32.true) (dvd-mul_left (2 ^ a.places) a.quotient)))
