-- `divide_once` meets its contract.
use Rattle.std.proofs.Common.{lt_of_lt_of_le, pow_pos}
use Rattle.division.proofs.Zeros.{under_word, short_div, short_mod, short_word}
use Rattle.division.proofs.divide_once.Goals as goal

pub overflow_shr-divisor : goal.overflow_shr-divisor
overflow_shr-divisor c = under_word c.args.b c.args.places c.requires.1 (lt_of_lt_of_le (pow_pos 63) c.requires.0) c.ranges.b.fits

pub overflow_shl-result : goal.overflow_shl-result
overflow_shl-result c = under_word c.args.b c.args.places c.requires.1 (lt_of_lt_of_le (pow_pos 63) c.requires.0) c.ranges.b.fits

pub returns : goal.returns
returns c =
    let a = c.args in
    let some = lt_of_lt_of_le (pow_pos 63) c.requires.0 in
    rw (
      short_word a.b a.places c.requires.1 some c.ranges.b.fits a.a,
      short_div a.b a.places c.requires.1 some c.ranges.b.fits a.a,
      short_mod a.b a.places c.requires.1 some c.ranges.b.fits a.a,
    )
