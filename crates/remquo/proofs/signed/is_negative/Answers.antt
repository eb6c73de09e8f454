-- `is_negative` meets its contract, case by case.
use Rattle.operands.specs.Operand.{class_in}
use Rattle.remquo.proofs.signed.is_negative.Goals as goal

pub returns-in-Unsupported : goal.returns-in-Unsupported
unfolding class_in
returns-in-Unsupported c s = rw c.in-Unsupported.is

pub returns-in-Nan : goal.returns-in-Nan
unfolding class_in
returns-in-Nan c s = rw c.in-Nan.is

pub returns-in-Infinite : goal.returns-in-Infinite
unfolding class_in
returns-in-Infinite c s = rw c.in-Infinite.is

pub returns-in-Zero : goal.returns-in-Zero
unfolding class_in
returns-in-Zero c s = rw c.in-Zero.is

pub returns-in-Finite : goal.returns-in-Finite
unfolding class_in
returns-in-Finite c s = rw c.in-Finite.is
