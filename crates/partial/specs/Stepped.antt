-- How the code holds what a step comes to. Nothing to believe: this only names the code's own value.
use Rattle.std.specs.Prelude.{cond}
use Rattle.definitions.specs.declared.Progress.{Progress}
use Rattle.definitions.specs.declared.Progress.TheVariants.{Finished, Unfinished}
use Rattle.definitions.specs.Format.{x87}
use Rattle.definitions.specs.Division.{Outcome}
use Rattle.pairs.specs.declared.Left.{Left}
use Rattle.pairs.specs.Pair.{left_of}

-- a step's outcome, on its way
abbrev pub stepped_of : Outcome → Progress Left
stepped_of r = cond r.done (Finished (left_of x87.smallest r)) (Unfinished (left_of x87.smallest r))
