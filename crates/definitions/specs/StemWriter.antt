-- Stem files, written: the file of a gauge and points, and what lent room holds later. Definitions only.
use Rattle.std.specs.Prelude.{ℕ, zero, suc, ◌+◌, ◌*◌, ◌/◌, not, cond, List, [], ◌∷◌, ◌++◌, ltb, eqb, length, drop}
use Rattle.definitions.specs.Numbers.{Check, check, first}
use Rattle.definitions.specs.Bytes.{bytes_of}
use Rattle.definitions.specs.Stem.{Gauge, Point, gauge_of, kind_of, period_of, origin_of, good_fields, header_length, point_length, mark, version, point_limit, point_at}

-- ---- points as lists

-- [12.2] two lists of patterns, place by place, as far as both go
abbrev pub points_of : List ℕ → List ℕ → List Point
points_of [] radii = []
points_of (x ∷ readings) [] = []
points_of (x ∷ readings) (r ∷ radii) = record { reading = x; radius = r } ∷ points_of readings radii

-- [12.6] the points that the reader finds at n places of a part, from place i on
abbrev pub points_from : ℕ → ℕ → List ℕ → List Point
points_from i zero points = []
points_from i (suc n) points = point_at points i ∷ points_from (suc i) n points

-- and at all of its places
abbrev pub points_in : List ℕ → List Point
points_in points = points_from 0 (length points / point_length) points

-- ---- the file

-- [11.1, 12.1] a kind, a count, a period and an origin in their row
abbrev pub header : ℕ → ℕ → ℕ → ℕ → List ℕ
header kind count period origin = mark ++ bytes_of 2 version ++ bytes_of 1 kind ++ bytes_of 4 count ++ bytes_of 8 period ++ bytes_of 8 origin

abbrev pub header_of : Gauge → ℕ → List ℕ
header_of g count = header (kind_of g) count (period_of g) (origin_of g)

-- [11.1, 12.1] each point's reading and then its radius
abbrev pub point_bytes : List Point → List ℕ
point_bytes [] = []
point_bytes (p ∷ ps) = bytes_of 8 p.reading ++ (bytes_of 8 p.radius ++ point_bytes ps)

-- [12.1] the file that a gauge and points are written as
abbrev pub stem_file : Gauge → List Point → List ℕ
stem_file g ps = header_of g (length ps) ++ point_bytes ps

-- ---- the call

-- [12.3] what it is refused for, in this order: so many readings, radii and bytes of room are lent
abbrev pub writing : ℕ → ℕ → ℕ → ℕ → ℕ → ℕ → List Check
writing kind period origin readings radii room =
    check 9 (not (eqb readings radii))
    ∷ check 12 (ltb 1 kind)
    ∷ check 13 (ltb point_limit readings)
    ∷ check 15 (not (good_fields kind period origin))
    ∷ check 16 (ltb room (header_length + point_length * readings))
    ∷ []

-- its number, the length of the file, 0 on a refusal, and what the room holds later
pub record Written : Type 0 where
  pub number : ℕ
  pub written : ℕ
  pub room : List ℕ

-- [12.4, 12.5] the file at the front and every byte past it as it was; nothing on a refusal
unfoldable pub write_fields : ℕ → ℕ → ℕ → List ℕ → List ℕ → List ℕ → Written
unfolding first good_fields
write_fields kind period origin readings radii room =
    let n = first (writing kind period origin (length readings) (length radii) (length room)) in
    let file = stem_file (gauge_of kind period origin) (points_of readings radii) in
    record {
      number = n;
      written = cond (eqb n 0) (length file) 0;
      room = cond (eqb n 0) (file ++ drop (length file) room) room;
    }

-- [12.1] the same of a gauge
unfoldable pub write_stem : Gauge → List ℕ → List ℕ → List ℕ → Written
unfolding write_fields
write_stem g readings radii room = write_fields (kind_of g) (period_of g) (origin_of g) readings radii room
