-- Stem files: what is answered of a list of bytes, and the fold of a point. Definitions only.
use Rattle.std.specs.Prelude.{ℕ, ◌+◌, ◌*◌, Bool, false, not, cond, ◌&&◌, ◌||◌, List, [], ◌∷◌, ltb, eqb, length, drop}
use Rattle.definitions.specs.Class.{Class, unsupported, nan, infinite, finite}
use Rattle.definitions.specs.Format.{class_of, house_nan, binary64}
use Rattle.definitions.specs.Numbers.{Check, check, first}
use Rattle.definitions.specs.declared.Kind.TheVariants.{Truncated}
use Rattle.definitions.specs.Remainder.{remainder}
use Rattle.definitions.specs.Fold.{bad}
use Rattle.definitions.specs.Bytes.{of_bytes, loaded}
use Rattle.definitions.specs.Difference.{difference}

-- ---- gauges and points, by the binary64 patterns of their values

-- [11.2] a turn with its period, or a roller with its period and its origin
pub data Gauge : Type 0 where
  turn : ℕ → Gauge
  roller : ℕ → ℕ → Gauge

-- [11.2] a reading and a radius
pub record Point : Type 0 where
  pub reading : ℕ
  pub radius : ℕ

-- [11.3] the gauge of a kind, a period and an origin
abbrev pub gauge_of : ℕ → ℕ → ℕ → Gauge
gauge_of kind period origin = cond (eqb kind 0) (turn period) (roller period origin)

-- and the three of a gauge: a turn has no origin, and all zeros stand for it
abbrev pub kind_of : Gauge → ℕ
kind_of (turn p) = 0
kind_of (roller p o) = 1

abbrev pub period_of : Gauge → ℕ
period_of (turn p) = p
period_of (roller p o) = p

abbrev pub origin_of : Gauge → ℕ
origin_of (turn p) = 0
origin_of (roller p o) = o

-- [11.4] finite and above zero
abbrev pub is_positive : Class → Bool
is_positive unsupported = false
is_positive (nan n s) = false
is_positive (infinite n) = false
is_positive (finite v) = not v.negative && not (eqb v.count 0)

-- [11.4] a gauge that is taken
unfoldable pub good : Gauge → Bool
good (turn p) = is_positive (class_of binary64 p)
good (roller p o) = is_positive (class_of binary64 p) && not (bad o)

-- [11.4] the same of a kind and two patterns, where a turn's origin is all zeros
unfoldable pub good_fields : ℕ → ℕ → ℕ → Bool
unfolding good
good_fields kind period origin = good (gauge_of kind period origin) && (not (eqb kind 0) || eqb origin 0)

-- ---- the file

-- [11.1] how long its header is, and a point
abbrev pub header_length : ℕ
header_length = 26

abbrev pub point_length : ℕ
point_length = 16

-- [11.1] the letters S, T and M, and the version
abbrev pub mark : List ℕ
mark = 0x53 ∷ 0x54 ∷ 0x4D ∷ []

abbrev pub version : ℕ
version = 1

-- [11.5] the most points that a file may declare: here, and nowhere else in the definitions
abbrev pub point_limit : ℕ
point_limit = 4000

-- [11.1] the fields of the header
abbrev pub file_mark : List ℕ → ℕ
file_mark file = loaded 3 0 file

abbrev pub file_version : List ℕ → ℕ
file_version file = loaded 2 3 file

abbrev pub file_kind : List ℕ → ℕ
file_kind file = loaded 1 5 file

abbrev pub file_count : List ℕ → ℕ
file_count file = loaded 4 6 file

abbrev pub file_period : List ℕ → ℕ
file_period file = loaded 8 10 file

abbrev pub file_origin : List ℕ → ℕ
file_origin file = loaded 8 18 file

-- [11.5] what a file is refused for, in this order
abbrev pub judging : List ℕ → List Check
judging file =
    check 14 (ltb (length file) header_length)
    ∷ check 10 (not (eqb (file_mark file) (of_bytes mark)))
    ∷ check 11 (not (eqb (file_version file) version))
    ∷ check 12 (ltb 1 (file_kind file))
    ∷ check 13 (ltb point_limit (file_count file))
    ∷ check 14 (not (eqb (length file) (header_length + point_length * file_count file)))
    ∷ check 15 (not (good_fields (file_kind file) (file_period file) (file_origin file)))
    ∷ []

-- what is answered of a whole file: its gauge and the bytes of its points, or why it is refused
pub data Stem : Type 0 where
  opened : Gauge → List ℕ → Stem
  refused : ℕ → Stem

-- [11.7, 11.8] the points are all that follows the header
unfoldable pub stem : List ℕ → Stem
unfolding first good_fields
stem file =
    let n = first (judging file) in
    cond (eqb n 0) (opened (gauge_of (file_kind file) (file_period file) (file_origin file)) (drop header_length file)) (refused n)

abbrev pub stem_number : Stem → ℕ
stem_number (opened g points) = 0
stem_number (refused n) = n

-- [11.7, 11.8] the part that is handed back, empty on a refusal
abbrev pub stem_points : Stem → List ℕ
stem_points (opened g points) = points
stem_points (refused n) = []

-- [11.1] the point at a place, counted from 0
abbrev pub point_at : List ℕ → ℕ → Point
point_at points i = record { reading = loaded 8 (point_length * i) points; radius = loaded 8 (point_length * i + 8) points }

-- ---- the fold of a point

-- [11.9] a roller's readings have its origin subtracted first
unfoldable pub shifted : Gauge → ℕ → ℕ
unfolding difference
shifted (turn p) x = x
shifted (roller p o) x = difference binary64 x o

-- [11.10, 11.11] the truncated remainder by the period, and the house NaN where what is divided is no finite number
unfoldable pub fold_reading : Gauge → ℕ → ℕ
unfolding shifted remainder
fold_reading g x = let d = shifted g x in cond (bad d) (house_nan binary64) (remainder binary64 Truncated d (period_of g)).value

pub record FoldedPoint : Type 0 where
  pub number : ℕ
  pub point : Point

-- [11.10, 11.12] the radius is kept; a gauge that no file could give leaves the point as it is
unfoldable pub fold_point : Gauge → Point → FoldedPoint
unfolding first good fold_reading
fold_point g p =
    let n = first (check 15 (not (good g)) ∷ []) in
    record { number = n; point = cond (eqb n 0) (record { reading = fold_reading g p.reading; radius = p.radius }) p }

-- [11.13] what C hands over as a gauge is judged in this order
abbrev pub handing : ℕ → ℕ → ℕ → List Check
handing kind period origin = check 12 (ltb 1 kind) ∷ check 15 (not (good_fields kind period origin)) ∷ []
