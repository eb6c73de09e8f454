-- What the round trips give, in the code's own values: the whole of their contracts.
use Rattle.std.specs.Prelude.{ℕ, cond, ◌&&◌, List, Option, Some, None, Result, Ok, Err, eqb, ltb, leb, length, get_or}
use Rattle.definitions.specs.Stem as definition
use Rattle.definitions.specs.Stem.{file_count, stem, stem_number}
use Rattle.gauges.specs.declared.Gauge.{Gauge}
use Rattle.gauges.specs.Held.{gauge_held}
use Rattle.stems.specs.declared.PointPatterns.{PointPatterns}

-- the gauge that was handed over, or the number of its refusal
abbrev pub opens_as : definition.Gauge → ℕ → Result Gauge ℕ
opens_as g n = cond (eqb n 0) (Ok (gauge_held g)) (Err n)

-- what two lists hold at a place
abbrev pub listed : List ℕ → List ℕ → ℕ → Option PointPatterns
listed readings radii i = cond (leb (length readings) i) None (Some (record { reading = get_or readings i 0; radius = get_or radii i 0 }))

-- and nothing on a refusal
abbrev pub taken_out : ℕ → List ℕ → List ℕ → ℕ → Option PointPatterns
taken_out n readings radii i = cond (eqb n 0) (listed readings radii i) None

-- a refused file's number; 9 for lists that do not have a place for each point, 16 for room that is shorter than the file
abbrev pub again : List ℕ → ℕ → ℕ → ℕ → ℕ
again file readings radii room =
    cond (eqb (stem_number (stem file)) 0)
    (cond (eqb readings (file_count file) && eqb radii (file_count file)) (cond (ltb room (length file)) 16 0) 9)
    (stem_number (stem file))
