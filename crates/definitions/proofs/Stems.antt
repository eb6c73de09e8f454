-- Differences, files as they are read and written, and folded points, computed from the definitions. Assumes nothing.
use mathlib.Core.Path.{◌≡◌, refl}
use mathlib.Core.Bool.{Bool, true, false}
use mathlib.Core.List.{List, [], ◌∷◌, ◌++◌, map}
use Prim.Native.Nat.{ℕ, ◌+◌}
use lib.Ieee.{size}
use lib.ListN.{take, drop, replicate}
use Rattle.definitions.specs.Class.{gap}
use Rattle.definitions.specs.Format.{binary64, class_of, pattern_of, magnitude}
use Rattle.definitions.specs.Numbers.{first}
use Rattle.definitions.specs.Division.{finish}
use Rattle.definitions.specs.Remainder.{remainder}
use Rattle.definitions.specs.Difference.{difference}
use Rattle.definitions.specs.Stem.{Gauge, turn, roller, good, good_fields, stem, opened, refused, handing, point_at, fold_reading, fold_point}
use Rattle.definitions.specs.StemWriter.{points_of, points_in, stem_file, writing, write_fields, write_stem}

-- ---- [11.9] x less y is z: signs and zeros, ties and what lies past them, denormals, the end of the range, infinities and NaNs
pub record Row : Type 0 where
  pub x : ℕ
  pub y : ℕ
  pub z : ℕ

abbrev row : ℕ → ℕ → ℕ → Row
row x y z = record { x = x; y = y; z = z }

abbrev rows : List Row
rows =
    row 0x4008000000000000 0x3FF0000000000000 0x4000000000000000
    ∷ row 0x3FF0000000000000 0x4008000000000000 0xC000000000000000
    ∷ row 0xBFF0000000000000 0x3FF0000000000000 0xC000000000000000
    ∷ row 0x3FF0000000000000 0xBFF0000000000000 0x4000000000000000
    ∷ row 0x0000000000000000 0x4014000000000000 0xC014000000000000
    ∷ row 0x4014000000000000 0x8000000000000000 0x4014000000000000
    ∷ row 0x3FF0000000000000 0x3FF0000000000000 0x0000000000000000
    ∷ row 0xBFF0000000000000 0xBFF0000000000000 0x0000000000000000
    ∷ row 0x0000000000000000 0x0000000000000000 0x0000000000000000
    ∷ row 0x8000000000000000 0x0000000000000000 0x8000000000000000
    ∷ row 0x0000000000000000 0x8000000000000000 0x0000000000000000
    ∷ row 0x8000000000000000 0x8000000000000000 0x0000000000000000
    ∷ row 0x3FF0000000000000 0xBCA0000000000000 0x3FF0000000000000
    ∷ row 0x3FF0000000000001 0xBCA0000000000000 0x3FF0000000000002
    ∷ row 0x3FF0000000000000 0x3C90000000000000 0x3FF0000000000000
    ∷ row 0x3FF0000000000000 0xBCA0000000000001 0x3FF0000000000001
    ∷ row 0x3FF0000000000000 0x3C90000000000001 0x3FEFFFFFFFFFFFFF
    ∷ row 0x3FF0000000000000 0x81A56E1FC2F8F359 0x3FF0000000000000
    ∷ row 0x01A56E1FC2F8F359 0x3FF0000000000000 0xBFF0000000000000
    ∷ row 0x3FF0000000000001 0x3FF0000000000000 0x3CB0000000000000
    ∷ row 0x0010000000000000 0x0000000000000001 0x000FFFFFFFFFFFFF
    ∷ row 0x0000000000000001 0x0000000000000002 0x8000000000000001
    ∷ row 0x000FFFFFFFFFFFFF 0x8000000000000001 0x0010000000000000
    ∷ row 0x7FEFFFFFFFFFFFFF 0xFFEFFFFFFFFFFFFF 0x7FF0000000000000
    ∷ row 0xFFEFFFFFFFFFFFFF 0x7FEFFFFFFFFFFFFF 0xFFF0000000000000
    ∷ row 0x7FEFFFFFFFFFFFFF 0xFC90000000000000 0x7FF0000000000000
    ∷ row 0x7FEFFFFFFFFFFFFF 0xFC8FFFFFFFFFFFFF 0x7FEFFFFFFFFFFFFF
    ∷ row 0x7FF0000000000000 0x3FF0000000000000 0x7FF0000000000000
    ∷ row 0x3FF0000000000000 0x7FF0000000000000 0xFFF0000000000000
    ∷ row 0x7FF0000000000000 0x7FF0000000000000 0x7FF8000000000000
    ∷ row 0xFFF0000000000000 0x7FF0000000000000 0xFFF0000000000000
    ∷ row 0xFFF0000000000001 0x3FF0000000000000 0x7FF8000000000000
    ∷ row 0x3FF0000000000000 0x7FF8000000000123 0x7FF8000000000000
    ∷ row 0x7FF0000000000000 0x7FFFFFFFFFFFFFFF 0x7FF8000000000000
    ∷ []

pub differences : map (λ (r : Row). difference binary64 r.x r.y) rows ≡ map (λ (r : Row). r.z) rows
unfolding difference size class_of pattern_of magnitude
differences = refl

-- ---- [11.1 to 11.8] a turn of 360 with three points, and a roller with none, byte by byte
abbrev bytes8 : ℕ → ℕ → ℕ → ℕ → ℕ → ℕ → ℕ → ℕ → List ℕ → List ℕ
bytes8 a b c d e f g h rest = a ∷ b ∷ c ∷ d ∷ e ∷ f ∷ g ∷ h ∷ rest

abbrev points : List ℕ
points =
    bytes8 0x01 0x02 0x03 0x04 0x05 0x06 0x07 0x08 (bytes8 0x11 0x12 0x13 0x14 0x15 0x16 0x17 0x18
    (bytes8 0x21 0x22 0x23 0x24 0x25 0x26 0x27 0x28 (bytes8 0x31 0x32 0x33 0x34 0x35 0x36 0xF7 0x7F
    (bytes8 0x41 0x42 0x43 0x44 0x45 0xD6 0x76 0x40 (bytes8 0x51 0x52 0x53 0x54 0x55 0x56 0x57 0x58 [])))))

abbrev turn_file : List ℕ
turn_file =
    0x53 ∷ 0x54 ∷ 0x4D ∷ 1 ∷ 0 ∷ 0 ∷ 3 ∷ 0 ∷ 0 ∷ 0 ∷ bytes8 0 0 0 0 0 0x80 0x76 0x40 (bytes8 0 0 0 0 0 0 0 0 points)

abbrev roller_file : List ℕ
roller_file =
    0x53 ∷ 0x54 ∷ 0x4D ∷ 1 ∷ 0 ∷ 1 ∷ 0 ∷ 0 ∷ 0 ∷ 0 ∷ bytes8 0x01 0x23 0x45 0x67 0x89 0xAB 0xCD 0x3E (bytes8 0x10 0x32 0x54 0x76 0x98 0xBA 0xDC 0xCE [])

pub turn_opened : stem turn_file ≡ opened (turn 0x4076800000000000) points
unfolding stem class_of first
turn_opened = refl

pub roller_opened : stem roller_file ≡ opened (roller 0x3ECDAB8967452301 0xCEDCBA9876543210) []
unfolding stem class_of first
roller_opened = refl

pub points_at : (point_at points 0 ≡ record { reading = 0x0807060504030201; radius = 0x1817161514131211 })
    × (point_at points 1 ≡ record { reading = 0x2827262524232221; radius = 0x7FF7363534333231 })
    × (point_at points 2 ≡ record { reading = 0x4076D64544434241; radius = 0x5857565554535251 })
points_at = (refl, refl, refl)

-- ---- [11.5] a file with every fault, and then each mended in the order of the checks; the same cut before its last header byte
abbrev put : ℕ → ℕ → List ℕ → List ℕ
put at b file = take at file ++ (b ∷ drop (at + 1) file)

abbrev worst : List ℕ
worst = put 0 0x73 (put 4 1 (put 5 2 (put 9 0xFF (put 17 0xC0 roller_file))))

abbrev mark_mended : List ℕ
mark_mended = put 0 0x53 worst

abbrev version_mended : List ℕ
version_mended = put 4 0 mark_mended

abbrev kind_mended : List ℕ
kind_mended = put 5 1 version_mended

-- 4,000 points, which are not there
abbrev count_mended : List ℕ
count_mended = put 6 0xA0 (put 7 0x0F (put 9 0 kind_mended))

abbrev length_mended : List ℕ
length_mended = put 6 0 (put 7 0 count_mended)

pub staircase : map stem (take 25 worst ∷ worst ∷ mark_mended ∷ version_mended ∷ kind_mended ∷ count_mended ∷ length_mended ∷ put 17 0x3E length_mended ∷ [])
    ≡ refused 14 ∷ refused 10 ∷ refused 11 ∷ refused 12 ∷ refused 13 ∷ refused 14 ∷ refused 15 ∷ stem roller_file ∷ []
unfolding stem class_of first
staircase = refl

-- one byte wrong: each of the mark and the version; kinds 2 and 255; 4,001 points and 2^32 - 1 of them; a point more and one less; a byte more and one less
pub one_fault : map stem
    (put 0 0x54 turn_file ∷ put 1 0x53 turn_file ∷ put 2 0x6D turn_file ∷ put 3 0 turn_file ∷ put 4 1 turn_file ∷ put 5 2 turn_file ∷ put 5 255 turn_file
    ∷ put 6 0xA1 (put 7 0x0F turn_file) ∷ put 6 255 (put 7 255 (put 8 255 (put 9 255 roller_file)))
    ∷ put 6 2 turn_file ∷ put 6 4 turn_file ∷ (turn_file ++ (0 ∷ [])) ∷ take 73 turn_file ∷ [] ∷ [])
    ≡ refused 10 ∷ refused 10 ∷ refused 10 ∷ refused 11 ∷ refused 11 ∷ refused 12 ∷ refused 12
    ∷ refused 13 ∷ refused 13
    ∷ refused 14 ∷ refused 14 ∷ refused 14 ∷ refused 14 ∷ refused 14 ∷ []
unfolding stem class_of first
one_fault = refl

-- [11.4] periods: zeros, below zero, infinities and NaNs are not taken, the least and the greatest are
abbrev periods : List ℕ
periods =
    0 ∷ 0x8000000000000000 ∷ 0x8000000000000001 ∷ 0xBFF0000000000000 ∷ 0x7FF0000000000000 ∷ 0xFFF0000000000000 ∷ 0x7FF0000000000001 ∷ 0x7FF8000000000000 ∷ 0xFFFFFFFFFFFFFFFF
    ∷ 1 ∷ 0x3FF0000000000000 ∷ 0x7FEFFFFFFFFFFFFF
    ∷ []

abbrev nine_not : List Bool
nine_not = false ∷ false ∷ false ∷ false ∷ false ∷ false ∷ false ∷ false ∷ false ∷ true ∷ true ∷ true ∷ []

pub good_periods : (map (λ p. good (turn p)) periods ≡ nine_not) × (map (λ p. good (roller p 0x8000000000000000)) periods ≡ nine_not)
unfolding good class_of
good_periods = (refl, refl)

-- the origin of a roller is finite, that of a turn is 0
pub good_origins : (map (λ o. good_fields 1 0x3FF0000000000000 o) (0 ∷ 0x8000000000000000 ∷ 1 ∷ 0xFFEFFFFFFFFFFFFF ∷ 0x7FF0000000000000 ∷ 0xFFF0000000000000 ∷ 0x7FF0000000000001 ∷ 0xFFF8000000000000 ∷ [])
    ≡ true ∷ true ∷ true ∷ true ∷ false ∷ false ∷ false ∷ false ∷ [])
    × (map (λ o. good_fields 0 0x3FF0000000000000 o) (0 ∷ 1 ∷ 0x8000000000000000 ∷ 0x3FF0000000000000 ∷ []) ≡ true ∷ false ∷ false ∷ false ∷ [])
unfolding good_fields good class_of
good_origins = (refl, refl)

-- ---- [11.9 to 11.11] the fold of a reading x by a gauge is z
pub record Folding : Type 0 where
  pub gauge : Gauge
  pub x : ℕ
  pub z : ℕ

abbrev folding : Gauge → ℕ → ℕ → Folding
folding g x z = record { gauge = g; x = x; z = z }

abbrev foldings : List Folding
foldings =
    folding (turn 0x4076800000000000) 0x4076D80000000000 0x4016000000000000
    ∷ folding (turn 0x4076800000000000) 0xC076D80000000000 0xC016000000000000
    ∷ folding (turn 0x4076800000000000) 0x4086800000000000 0x0000000000000000
    ∷ folding (turn 0x4076800000000000) 0xC086800000000000 0x8000000000000000
    ∷ folding (turn 0x4076800000000000) 0x8000000000000000 0x8000000000000000
    ∷ folding (turn 0x4076800000000000) 0x0000000000000001 0x0000000000000001
    ∷ folding (turn 0x4076800000000000) 0x7FF0000000000000 0x7FF8000000000000
    ∷ folding (turn 0x4076800000000000) 0xFFF0000000000000 0x7FF8000000000000
    ∷ folding (turn 0x4076800000000000) 0x7FF0000000000001 0x7FF8000000000000
    ∷ folding (turn 0x4076800000000000) 0xFFFFFFFFFFFFFFFF 0x7FF8000000000000
    ∷ folding (roller 0x4000000000000000 0x4000000000000000) 0x4016000000000000 0x3FF8000000000000
    ∷ folding (roller 0x4000000000000000 0x3FE8000000000000) 0x4016000000000000 0x3FE8000000000000
    ∷ folding (roller 0x4000000000000000 0x3FE8000000000000) 0x3FE8000000000000 0x0000000000000000
    ∷ folding (roller 0x4000000000000000 0xBFE8000000000000) 0xBFE8000000000000 0x0000000000000000
    ∷ folding (roller 0x4000000000000000 0x0000000000000000) 0x8000000000000000 0x8000000000000000
    ∷ folding (roller 0x4000000000000000 0x8000000000000000) 0x0000000000000000 0x0000000000000000
    ∷ folding (roller 0x4000000000000000 0x8000000000000000) 0x8000000000000000 0x0000000000000000
    ∷ folding (roller 0x4000000000000000 0x4008000000000000) 0x3FF0000000000000 0x8000000000000000
    ∷ folding (roller 0x4000000000000000 0xBCA0000000000000) 0x3FF0000000000000 0x3FF0000000000000
    ∷ folding (roller 0x4000000000000000 0xBCA0000000000001) 0x3FF0000000000000 0x3FF0000000000001
    ∷ folding (roller 0x0000000000000001 0x0000000000000001) 0x3FF0000000000000 0x0000000000000000
    ∷ folding (roller 0x4000000000000000 0xFFEFFFFFFFFFFFFF) 0x7FEFFFFFFFFFFFFF 0x7FF8000000000000
    ∷ folding (roller 0x4000000000000000 0x7FEFFFFFFFFFFFFF) 0xFFEFFFFFFFFFFFFF 0x7FF8000000000000
    ∷ folding (roller 0x4000000000000000 0x3FF0000000000000) 0x7FF0000000000000 0x7FF8000000000000
    ∷ folding (roller 0x4000000000000000 0x3FF0000000000000) 0xFFF0000000000000 0x7FF8000000000000
    ∷ folding (roller 0x4000000000000000 0x3FF0000000000000) 0xFFF0000000000001 0x7FF8000000000000
    ∷ folding (roller 0x7FEFFFFFFFFFFFFF 0xBFF0000000000000) 0x7FEFFFFFFFFFFFFF 0x0000000000000000
    ∷ folding (roller 0x7FEFFFFFFFFFFFFF 0xFFEFFFFFFFFFFFFF) 0x3FF0000000000000 0x0000000000000000
    ∷ []

pub folded_readings : map (λ (r : Folding). fold_reading r.gauge r.x) foldings ≡ map (λ (r : Folding). r.z) foldings
unfolding fold_reading difference size gap class_of pattern_of magnitude first finish remainder
folded_readings = refl

-- [11.10, 11.12] the radius is kept, a NaN's too, by a turn and by a roller; a gauge that is refused leaves the point
pub folded_points : (fold_point (turn 0x4076800000000000) (point_at points 1) ≡ record { number = 0; point = record { reading = 0x2827262524232221; radius = 0x7FF7363534333231 } })
    × (fold_point (turn 0x4076800000000000) (point_at points 2) ≡ record { number = 0; point = record { reading = 0x4015915110D09040; radius = 0x5857565554535251 } })
    × (fold_point (roller 0x4000000000000000 0x4059100000000000) (point_at points 2) ≡ record { number = 0; point = record { reading = 0x3FF2454443424100; radius = 0x5857565554535251 } })
    × (fold_point (roller 0x4000000000000000 0x4059100000000000) (record { reading = 0x7FF0000000000000; radius = 0xFFF4000000000001 })
    ≡ record { number = 0; point = record { reading = 0x7FF8000000000000; radius = 0xFFF4000000000001 } })
    × (fold_point (turn 0x8000000000000000) (point_at points 2) ≡ record { number = 15; point = point_at points 2 })
    × (fold_point (roller 0x4076800000000000 0x7FF0000000000000) (point_at points 2) ≡ record { number = 15; point = point_at points 2 })
unfolding fold_point fold_reading difference size gap class_of pattern_of magnitude first finish remainder
folded_points = (refl, refl, refl, refl, refl, refl)

-- [11.13] what C hands over: a kind above 1 first
pub handed : (first (handing 0 0x3FF0000000000000 0) ≡ 0) × (first (handing 1 0x3FF0000000000000 0x8000000000000000) ≡ 0)
    × (first (handing 0 0x3FF0000000000000 0x8000000000000000) ≡ 15) × (first (handing 1 0 0) ≡ 15)
    × (first (handing 2 0 0x7FF0000000000000) ≡ 12) × (first (handing 0x100 0x3FF0000000000000 0) ≡ 12)
    × (first (handing 0x10000 0x3FF0000000000000 0) ≡ 12) × (first (handing 0x80000001 0x3FF0000000000000 0) ≡ 12)
unfolding first good_fields class_of
handed = (refl, refl, refl, refl, refl, refl, refl, refl)

-- ---- [12.1, 12.2, 12.6] both files, written from their gauges and points, and their points read
abbrev readings : List ℕ
readings = 0x0807060504030201 ∷ 0x2827262524232221 ∷ 0x4076D64544434241 ∷ []

-- the second is a NaN whose quiet digit is clear
abbrev radii : List ℕ
radii = 0x1817161514131211 ∷ 0x7FF7363534333231 ∷ 0x5857565554535251 ∷ []

pub files_written : (stem_file (turn 0x4076800000000000) (points_of readings radii) ≡ turn_file)
    × (stem_file (roller 0x3ECDAB8967452301 0xCEDCBA9876543210) [] ≡ roller_file)
files_written = (refl, refl)

pub points_listed : (points_in points ≡ points_of readings radii) × (points_in [] ≡ [])
points_listed = (refl, refl)

-- ---- [12.3] a call with every fault, and then each mended in the order of the checks
pub call_staircase : map first
    (writing 2 0 0x7FF0000000000000 4001 4000 0
    ∷ writing 2 0 0x7FF0000000000000 4001 4001 0
    ∷ writing 1 0 0x7FF0000000000000 4001 4001 0
    ∷ writing 1 0 0x7FF0000000000000 4000 4000 0
    ∷ writing 1 0x3FF0000000000000 0x7FF0000000000000 4000 4000 0
    ∷ writing 1 0x3FF0000000000000 0 4000 4000 0
    ∷ writing 1 0x3FF0000000000000 0 4000 4000 64025
    ∷ writing 1 0x3FF0000000000000 0 4000 4000 64026
    ∷ [])
    ≡ 9 ∷ 12 ∷ 13 ∷ 15 ∷ 15 ∷ 16 ∷ 16 ∷ 0 ∷ []
unfolding first good_fields class_of
call_staircase = refl

-- one fault: a list longer, either; kinds above 1, whose lower bits are a turn and a roller; an origin of a turn; a byte less for no point,
-- and enough
pub call_faults : map first
    (writing 0 0x3FF0000000000000 0 1 0 100 ∷ writing 0 0x3FF0000000000000 0 0 1 100
    ∷ writing 0x100 0x3FF0000000000000 0 0 0 26 ∷ writing 0x80000001 0x3FF0000000000000 0 0 0 26
    ∷ writing 0 0x3FF0000000000000 0x8000000000000000 0 0 26 ∷ writing 1 0x3FF0000000000000 0x8000000000000000 0 0 26
    ∷ writing 0 0x3FF0000000000000 0 0 0 25 ∷ writing 0 0x3FF0000000000000 0 0 0 26 ∷ [])
    ≡ 9 ∷ 9 ∷ 12 ∷ 12 ∷ 15 ∷ 0 ∷ 16 ∷ 0 ∷ []
unfolding first good_fields class_of
call_faults = refl

-- ---- [12.4, 12.5] what the room holds later: three bytes past the file, none, one too few; and where gauges are refused
abbrev room_of : ℕ → List ℕ
room_of n = replicate n 0xAA

pub rooms_written : (write_fields 0 0x4076800000000000 0 readings radii (room_of 74 ++ (1 ∷ 2 ∷ 3 ∷ [])) ≡ record { number = 0; written = 74; room = turn_file ++ (1 ∷ 2 ∷ 3 ∷ []) })
    × (write_stem (roller 0x3ECDAB8967452301 0xCEDCBA9876543210) [] [] (room_of 26) ≡ record { number = 0; written = 26; room = roller_file })
    × (write_fields 0 0x4076800000000000 0 readings radii (room_of 73) ≡ record { number = 16; written = 0; room = room_of 73 })
    × (write_stem (turn 0) readings radii (room_of 80) ≡ record { number = 15; written = 0; room = room_of 80 })
    × (write_stem (roller 0x4076800000000000 0x7FF0000000000000) readings radii (room_of 80) ≡ record { number = 15; written = 0; room = room_of 80 })
unfolding write_fields write_stem first good_fields class_of
rooms_written = (refl, refl, refl, refl, refl)
