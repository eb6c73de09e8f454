-- What the code answers of a file and of a place of its points. Nothing to believe: these only name the code's own values.
use Rattle.std.specs.Prelude.{ℕ, ◌/◌, cond, List, Option, Some, None, Result, Ok, Err, leb, length}
use Rattle.definitions.specs.Stem.{Stem, opened, refused, point_length, point_at}
use Rattle.gauges.specs.declared.Gauge.{Gauge}
use Rattle.gauges.specs.Held.{gauge_held}
use Rattle.points.specs.declared.Point.{Point}
use Rattle.points.specs.Held.{point_held}
use Rattle.stems.specs.declared.PointPatterns.{PointPatterns}

-- the gauge, or the number of the refusal
abbrev pub answer_of : Stem → Result Gauge ℕ
answer_of (opened g points) = Ok (gauge_held g)
answer_of (refused n) = Err n

-- a place that the part has no whole point for has none
abbrev pub patterns_placed : List ℕ → ℕ → Option PointPatterns
patterns_placed points i =
    let p = point_at points i in
    cond (leb (length points / point_length) i) None (Some (record { reading = p.reading; radius = p.radius }))

abbrev pub placed_of : List ℕ → ℕ → Option Point
placed_of points i = cond (leb (length points / point_length) i) None (Some (point_held (point_at points i)))
