-- How the code holds a gauge, and its patterns. Nothing to believe: these only name the code's own values.
use Rattle.std.specs.Float.{binary64}
use Rattle.std.specs.Float.Ieee.{of_bits, to_bits}
use Rattle.definitions.specs.Stem as definition
use Rattle.definitions.specs.Stem.{turn, roller, kind_of, period_of, origin_of}
use Rattle.gauges.specs.declared.Gauge.{Gauge}
use Rattle.gauges.specs.declared.GaugeFields.{GaugeFields}
use Rattle.gauges.specs.declared.Gauge.TheVariants.{Turn, Roller}

-- the floats of patterns
abbrev pub gauge_held : definition.Gauge → Gauge
gauge_held (turn p) = Turn (of_bits binary64 p)
gauge_held (roller p o) = Roller (of_bits binary64 p) (of_bits binary64 o)

-- the patterns of floats
abbrev pub gauge_bits : Gauge → definition.Gauge
gauge_bits (Turn p) = turn (to_bits binary64 p)
gauge_bits (Roller p o) = roller (to_bits binary64 p) (to_bits binary64 o)

-- what a gauge is handed over as
abbrev pub fields_of : definition.Gauge → GaugeFields
fields_of g = record { kind = kind_of g; period = period_of g; origin = origin_of g }
