-- How the code holds a point, and its patterns. Nothing to believe: these only name the code's own values.
use Rattle.std.specs.Prelude.{Result, Ok, Err}
use Rattle.std.specs.Float.{binary64}
use Rattle.std.specs.Float.Ieee.{of_bits, to_bits}
use Rattle.definitions.specs.Stem as definition
use Rattle.gauges.specs.Refused.{number_of}
use Rattle.gauges.specs.declared.StemRefusal.{StemRefusal}
use Rattle.points.specs.declared.Point.{Point}

-- the floats of patterns
abbrev pub point_held : definition.Point → Point
point_held p = record { reading = of_bits binary64 p.reading; radius = of_bits binary64 p.radius }

-- the patterns of floats
abbrev pub point_bits : Point → definition.Point
point_bits p = record { reading = to_bits binary64 p.reading; radius = to_bits binary64 p.radius }

-- what a fold leaves of a point: a refusal leaves it as it was
abbrev pub folded_bits : Point → Result Point StemRefusal → definition.FoldedPoint
folded_bits p (Ok q) = record { number = 0; point = point_bits q }
folded_bits p (Err e) = record { number = number_of e; point = point_bits p }
