-- `judge_pair` meets its contract.
use Rattle.std.proofs.Common.{rules}
use Rattle.checks.proofs.Judged.{pair_number_lem}
use Rattle.checks.proofs.pair.judge_pair.Goals as goal

pub returns-then-is_unsupported : goal.returns-then-is_unsupported
returns-then-is_unsupported c s a b ex ey = rw (← pair_number_lem s b _ ey a _ ex) (search rules)

pub returns-then-is_nan : goal.returns-then-is_nan
returns-then-is_nan c s a b ex ey = rw (← pair_number_lem s b _ ey a _ ex) (search rules)

pub returns-then-is_infinite : goal.returns-then-is_infinite
returns-then-is_infinite c s a b ex ey = rw (← pair_number_lem s b _ ey a _ ex) (search rules)

pub returns-then-is_zero : goal.returns-then-is_zero
returns-then-is_zero c s a b ex ey = rw (← pair_number_lem s b _ ey a _ ex) (search rules)

pub returns : goal.returns
returns c s a b ex ey = rw (← pair_number_lem s b _ ey a _ ex) (search rules)
