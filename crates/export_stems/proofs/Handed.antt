-- The fields of a good gauge pass its floats. Assumes nothing.
use mathlib.Core.Path.{◌≡◌}
use mathlib.Core.Bool.{true}
use Prim.Native.Nat.{ℕ, ◌≤◌, ◌<◌, ◌^◌}
use Rattle.definitions.specs.Stem.{gauge_of, good_fields}
use Rattle.laws.proofs.Stem.{held}
use Rattle.gauges.specs.Held.{gauge_held, gauge_bits, fields_of}
use Rattle.gauges.specs.declared.GaugeFields.{GaugeFields}
use Rattle.gauges.proofs.Passes.{gauge_passes}

pub fields_handed : (k p o : ℕ) → k ≤ 1 → good_fields k p o ≡ true → p < 2 ^ 64 → o < 2 ^ 64
    → ◌≡◌ {A = GaugeFields} (fields_of (gauge_bits (gauge_held (gauge_of k p o)))) (record { kind = k; period = p; origin = o })
fields_handed k p o known good ps os =
    let h = held k p o known good in
    rw (gauge_passes (gauge_of k p o) h.taken (rw (← h.period_is) ps) (rw (← h.origin_is) os), ← h.kind_is, ← h.period_is, ← h.origin_is)
