-- `judge_divisor` meets its contract.
use Rattle.std.proofs.Common.{rules}
use Rattle.checks.proofs.Judged.{divisor_number_lem}
use Rattle.checks.proofs.list.judge_divisor.Goals as goal

pub returns-then-is_nan : goal.returns-then-is_nan
returns-then-is_nan c s b e = rw (← divisor_number_lem s b _ e) (search rules)

pub returns-then-is_zero : goal.returns-then-is_zero
returns-then-is_zero c s b e = rw (← divisor_number_lem s b _ e) (search rules)

pub returns : goal.returns
returns c s b e = rw (← divisor_number_lem s b _ e) (search rules)
