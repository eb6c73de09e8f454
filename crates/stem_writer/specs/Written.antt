-- What the code answers of a call. Nothing to believe: this only names the code's own values.
use Rattle.std.specs.Prelude.{ℕ, List, Result, Ok, Err}
use Rattle.definitions.specs.StemWriter.{Written}
use Rattle.gauges.specs.declared.StemRefusal.{StemRefusal}
use Rattle.gauges.specs.Refused.{told}

-- how long the file is, 0 on a refusal
abbrev pub length_told : Result ℕ StemRefusal → ℕ
length_told (Ok n) = n
length_told (Err e) = 0

-- a call's answer, and the room that it leaves
abbrev pub write_meaning : Result ℕ StemRefusal → List ℕ → Written
write_meaning a room = record { number = told a; written = length_told a; room = room }
