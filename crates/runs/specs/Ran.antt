-- What a run comes to. Nothing to believe: it only names the code's own value.
use Rattle.std.specs.Prelude.{cond, ◌%◌, ◌^◌}
use Rattle.definitions.specs.declared.Progress.{Progress}
use Rattle.definitions.specs.declared.Progress.TheVariants.{Finished, Unfinished}
use Rattle.definitions.specs.Class.{finite}
use Rattle.definitions.specs.Format.{x87}
use Rattle.definitions.specs.Division.{Outcome}
use Rattle.operands.specs.Operand.{operand_of}
use Rattle.runs.specs.declared.Ran.{Ran}

abbrev pub ran_of : Outcome → Progress Ran
ran_of r =
    let ran : Ran = record { value = operand_of x87.smallest (finite r.value); quotient = r.whole % 2 ^ 32; steps = r.steps } in
    cond r.done (Finished ran) (Unfinished ran)

-- what a run came to, finished or not
abbrev pub ran_in : Progress Ran → Ran
ran_in (Finished t) = t
ran_in (Unfinished t) = t
