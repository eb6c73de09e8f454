-- The numbers of refusals, and of what a call answers. Nothing to believe: these only name the code's own values.
use Rattle.std.specs.Prelude.{ℕ, Result, Ok, Err}
use Rattle.gauges.specs.declared.StemRefusal.{StemRefusal}
use Rattle.gauges.specs.declared.StemRefusal.TheVariants.{UnequalLists, BadMark, BadVersion, BadKind, BadCount, BadLength, BadGauge, ShortRoom}

abbrev pub number_of : StemRefusal → ℕ
number_of UnequalLists = 9
number_of BadMark = 10
number_of BadVersion = 11
number_of BadKind = 12
number_of BadCount = 13
number_of BadLength = 14
number_of BadGauge = 15
number_of ShortRoom = 16

-- 0 where a call is not refused
abbrev pub told : {T : Type 0} → Result T StemRefusal → ℕ
told (Ok x) = 0
told (Err e) = number_of e

-- a call's answer, with the number of its refusal
abbrev pub numbered : {T : Type 0} → Result T StemRefusal → Result T ℕ
numbered (Ok x) = Ok x
numbered (Err e) = Err (number_of e)
