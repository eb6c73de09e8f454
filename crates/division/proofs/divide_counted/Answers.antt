-- `divide_counted` meets its contract: the tests are those of the count.
use Rattle.std.proofs.Common.{◌<◌, sym, ◌∙◌, lt_of_lt_of_le, pow_pos}
use Rattle.division.proofs.Zeros.{trailing_mod}
use Rattle.division.proofs.Count.{counted_once, counted_near, counted_turns}
use Rattle.division.proofs.divide_counted.Goals as goal

pub divide_once-requires : goal.divide_once-requires
divide_once-requires c = (c.requires, trailing_mod c.args.b c.args.places c.if-places-b.true)

pub returns-then-places-b : goal.returns-then-places-b
returns-then-places-b c =
    let some : 0 < c.args.b =
    lt_of_lt_of_le (pow_pos 63) c.requires
    in
    record {
      divided = c.divide_once.ensures;
      divisions = counted_once c.args.a c.args.b c.args.places some c.ranges.b.fits c.if-places-b.true;
    }

pub returns-then-is_near : goal.returns-then-is_near
returns-then-is_near c =
    let some : 0 < c.args.b =
    lt_of_lt_of_le (pow_pos 63) c.requires
    in
    record {
      divided = c.divide_near.ensures;
      divisions = counted_near c.args.a c.args.b c.args.places some c.ranges.b.fits c.if-places-b.false (sym c.is_near.ensures ∙ c.if-is_near.true);
    }

pub returns : goal.returns
returns c =
    let some : 0 < c.args.b =
    lt_of_lt_of_le (pow_pos 63) c.requires
    in
    record {
      divided = c.divide_turns.ensures.divided;
      divisions = c.divide_turns.ensures.divisions
          ∙ counted_turns c.args.a c.args.b c.args.places some c.ranges.b.fits c.if-places-b.false (sym c.is_near.ensures ∙ c.if-is_near.false);
    }
