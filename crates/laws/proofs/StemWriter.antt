-- Stem files, written: what is written reads back as it was, a file that is accepted is written again as it is, and what a call leaves in
-- the room. Assumes nothing.
use mathlib.Core.Path.{◌≡◌, refl, sym, ap, ◌∙◌}
use mathlib.Core.Bool.{Bool, true, false, not, cond}
use mathlib.Core.List.{List, [], ◌∷◌, ◌++◌, map}
use Prim.Native.Nat.{ℕ, zero, suc, ◌+◌, ◌*◌, ◌/◌, ◌^◌, ◌≤◌, ◌<◌}
use native.Mathlib.Nat.{add-zero, add-suc, suc-add, mod-eq_of_lt}
use native.Mathlib.Omega.{arith}
use borrow.Author.Tests.{eqb-true, eqb-false, eq-eqb, ne_eqb, ltb-false, lt-ltb, le-ltb, not-false}
use lib.Dec.{ltb, eqb}
use lib.ListN.{length, get_or, take, drop, length-append, length-drop, take-append-drop}
use lib.Seq.{take_at, drop_at, drop-drop}
use Rattle.digits.proofs.Tests.{clash}
use Rattle.definitions.specs.Numbers.{Check, first}
use Rattle.definitions.specs.Bytes.{bytes_of, loaded}
use Rattle.definitions.specs.Stem.{Gauge, Point, gauge_of, kind_of, period_of, origin_of, good, good_fields, header_length, point_length, point_limit, file_kind, file_count, file_period, file_origin, judging, opened, stem, stem_number, point_at}
use Rattle.definitions.specs.StemWriter.{points_of, points_from, points_in, header, header_of, point_bytes, stem_file, writing, Written, write_fields, write_stem}
use Rattle.laws.proofs.Bytes.{AreBytes, of_bytes_lem, drop_bytes}
use Rattle.laws.proofs.Stem.{Row, passed, stem_number_lem, stem_opened, none_first, Held, held, gauge_same, gauge_fields, kind_small, row, kind_back, count_back, period_back, origin_back, opened_file, file_opened, file_number, row_long, point_bytes_lem}

-- ---- the claim

-- every number of a list, and of a list of points, is a pattern of 64 bits: any, a NaN's too
abbrev pub ArePatterns : List ℕ → Type 0
ArePatterns l = (i : ℕ) → get_or l i 0 < 2 ^ 64

abbrev pub AllPatterns : List Point → Type 0
AllPatterns [] = Unit {0}
AllPatterns (p ∷ ps) = (p.reading < 2 ^ 64) × (p.radius < 2 ^ 64) × AllPatterns ps

-- [12.6] a file is opened with this gauge and these points
abbrev pub ReadsAs : List ℕ → Gauge → List Point → Type 0
ReadsAs file g ps = (points : List ℕ) × (stem file ≡ opened g points) × (points_in points ≡ ps)

-- [12.8] what C is told of a file: it is taken, with this kind, period and origin and the count of these points, which are behind its header
pub record OpensWith (file : List ℕ) (kind period origin : ℕ) (ps : List Point) : Type 0 where
  pub taken : stem_number (stem file) ≡ 0
  pub kind_is : file_kind file ≡ kind
  pub period_is : file_period file ≡ period
  pub origin_is : file_origin file ≡ origin
  pub count_is : file_count file ≡ length ps
  pub points_are : points_in (drop header_length file) ≡ ps

-- ---- points as bytes, and back

pub length_points : (ps : List Point) → length (point_bytes ps) ≡ point_length * length ps
length_points [] = refl
length_points (p ∷ ps) = omega (arith, length_points ps)

-- [12.1] how long a file is
pub length_file : (g : Gauge) (ps : List Point) → length (stem_file g ps) ≡ header_length + point_length * length ps
length_file g ps = omega (arith, length_points ps)

points_count : (points : List ℕ) (n : ℕ) → length points ≡ point_length * n → length points / point_length ≡ n
points_count points n e = omega (arith, e)

pub length_from : (i n : ℕ) (points : List ℕ) → length (points_from i n points) ≡ n
length_from i zero points = refl
length_from i (suc n) points = ap suc (length_from (suc i) n points)

-- a place further on is the same place of what follows a point
point_after : (points : List ℕ) (i : ℕ) → point_at points (suc i) ≡ point_at (drop point_length points) i
point_after points i =
    let at : (j : ℕ) → loaded 8 (point_length + j) points ≡ loaded 8 j (drop point_length points) = λ j. rw (drop-drop j point_length points) in
    let e : point_length * suc i ≡ point_length + point_length * i = omega arith in
    let f : point_length * suc i + 8 ≡ point_length + (point_length * i + 8) = omega arith in
    rw (f, e, at (point_length * i), at (point_length * i + 8))

points_after : (i n : ℕ) (points : List ℕ) → points_from (suc i) n points ≡ points_from i n (drop point_length points)
points_after i zero points = refl
points_after i (suc n) points = rw (point_after points i, points_after (suc i) n points)

-- points are read as they were written
pattern_read : (n : ℕ) (rest : List ℕ) → n < 2 ^ 64 → loaded 8 0 (bytes_of 8 n ++ rest) ≡ n
pattern_read n rest h = of_bytes_lem 8 n ∙ mod-eq_of_lt h

points_read : (ps : List Point) → AllPatterns ps → points_from 0 (length ps) (point_bytes ps) ≡ ps
points_read [] h = refl
points_read (p ∷ ps) h =
    let rest = point_bytes ps in
    let x : loaded 8 0 (point_bytes (p ∷ ps)) ≡ p.reading = pattern_read p.reading (bytes_of 8 p.radius ++ rest) h.0 in
    let r : loaded 8 8 (point_bytes (p ∷ ps)) ≡ p.radius = pattern_read p.radius rest h.1 in
    rw (points_after 0 (length ps) (point_bytes (p ∷ ps)), x, r, points_read ps h.2)

points_all : (ps : List Point) → AllPatterns ps → points_in (point_bytes ps) ≡ ps
points_all ps h = rw (points_count (point_bytes ps) (length ps) (length_points ps)) (points_read ps h)

-- and bytes are written as they were read
points_written : (n : ℕ) (points : List ℕ) → AreBytes points → length points ≡ point_length * n → point_bytes (points_from 0 n points) ≡ points
points_written zero [] h e = refl
points_written zero (b ∷ bs) h e = absurd (omega (arith, e))
points_written (suc n) points h e =
    let rest = drop point_length points in
    let more : point_bytes (points_from 0 n rest) ≡ rest =
    points_written n rest (drop_bytes point_length points h) (rw (length-drop point_length points) (omega (arith, e))) in
    let one : bytes_of 8 (loaded 8 0 points) ++ bytes_of 8 (loaded 8 8 points) ≡ take point_length points = point_bytes_lem points h 0 (omega (arith, e)) in
    rw (points_after 0 n points, more) (ap (λ (l : List ℕ). l ++ rest) one ∙ take-append-drop point_length points)

-- the point at each place of a part whose points are those of two lists
pub place_back : (i n : ℕ) (points readings radii : List ℕ) → points_from i n points ≡ points_of readings radii → (k : ℕ) → k < length readings → length readings ≡ length radii
    → point_at points (i + k) ≡ record { reading = get_or readings k 0; radius = get_or radii k 0 }
place_back i n points [] radii e k h same = absurd (omega arith)
place_back i n points (x ∷ readings) [] e k h same = absurd (omega (arith, same))
place_back i zero points (x ∷ readings) (r ∷ radii) e k h same = clash (cc)
place_back i (suc n) points (x ∷ readings) (r ∷ radii) e zero h same = rw (add-zero i) (cc)
place_back i (suc n) points (x ∷ readings) (r ∷ radii) e (suc k) h same =
    let rest : points_from (suc i) n points ≡ points_of readings radii = cc in
    rw (add-suc i k, ← suc-add i k) (place_back (suc i) n points readings radii rest k (omega (arith, h)) (omega (arith, same)))

-- and a part with these points at its places has those of the lists
pub places_list : (i : ℕ) (points readings radii : List ℕ) → length readings ≡ length radii
    → ((k : ℕ) → k < length readings → point_at points (i + k) ≡ record { reading = get_or readings k 0; radius = get_or radii k 0 })
    → points_from i (length readings) points ≡ points_of readings radii
places_list i points [] radii same h = refl
places_list i points (x ∷ readings) [] same h = absurd (omega (arith, same))
places_list i points (x ∷ readings) (r ∷ radii) same h =
    let one : point_at points i ≡ record { reading = x; radius = r } = rw (add-zero i) at (h 0 (omega arith)) in
    let more : (k : ℕ) → k < length readings → point_at points (suc i + k) ≡ record { reading = get_or readings k 0; radius = get_or radii k 0 } =
    λ k l. rw (suc-add i k, ← add-suc i k) (h (suc k) (omega (arith, l))) in
    rw (places_list (suc i) points readings radii (omega (arith, same)) more) (ap (λ (p : Point). p ∷ points_of readings radii) one)

-- ---- the two round trips, of files

module _ (g : Gauge) (ps : List Point) (taken : good g ≡ true) (period : period_of g < 2 ^ 64) (origin : origin_of g < 2 ^ 64) (patterns : AllPatterns ps) (most : length ps ≤ point_limit) where
  written_row : Row (stem_file g ps) g (point_bytes ps) (length ps)
  written_row =
      record { bytes = refl; period = period; origin = origin; taken = taken; most = most; long = length_points ps }

  -- [12.6] what is written is accepted, and reads back as the same gauge and the same points, bit for bit
  pub file_reads_back : ReadsAs (stem_file g ps) g ps
  file_reads_back = (point_bytes ps, file_opened (stem_file g ps) g (point_bytes ps) (length ps) written_row, points_all ps patterns)

-- [12.7] a file that is accepted is the one that its gauge and its points are written as
pub file_written_again : (file : List ℕ) → AreBytes file → (g : Gauge) (ps : List Point) → ReadsAs file g ps → stem_file g ps ≡ file
file_written_again file are g ps (points, o, e) =
    let r = opened_file file are g points o in
    let n = file_count file in
    let k = points_count points n r.long in
    let rest : drop header_length file ≡ points = ap (drop header_length) r.bytes in
    let bytes : AreBytes points = rw (← rest) (drop_bytes header_length file are) in
    let back : point_bytes ps ≡ points = rw (← e, k) (points_written n points bytes r.long) in
    let many : length ps ≡ n = rw (← e, k) (length_from 0 n points) in
    rw (back, many) (sym r.bytes)

-- ---- the calls

-- the header of a gauge has its fields
pub header_held : (kind period origin : ℕ) (g : Gauge) (m n : ℕ) → Held kind period origin g → m ≡ n → header_of g m ≡ header kind n period origin
header_held kind period origin g m n h e = rw (h.kind_is, h.period_is, h.origin_is, e)

-- [12.3] the number, by what is lent
pub writing_number : (kind period origin readings radii room : ℕ) → first (writing kind period origin readings radii room)
    ≡ cond (eqb readings radii)
    (cond (ltb 1 kind) 12
    (cond (ltb point_limit readings) 13
    (cond (good_fields kind period origin)
    (cond (ltb room (26 + 16 * readings)) 16 0)
    15)))
    9
unfolding first
writing_number kind period origin readings radii room =
    go (eqb readings radii) (ltb 1 kind) (ltb point_limit readings) (good_fields kind period origin) (ltb room (26 + 16 * readings))
  where
    go : (a b c d e : Bool)
        → ◌≡◌ {A = ℕ} (cond (not a) 9 (cond b 12 (cond c 13 (cond (not d) 15 (cond e 16 0)))))
        (cond a (cond b 12 (cond c 13 (cond d (cond e 16 0) 15))) 9)
    go false b c d e = refl
    go true true c d e = refl
    go true false true d e = refl
    go true false false false e = refl
    go true false false true true = refl
    go true false false true false = refl

-- a call that no check refuses
pub record Accepted (kind period origin : ℕ) (readings radii room : ℕ) : Type 0 where
  pub equal : readings ≡ radii
  pub known : kind ≤ 1
  pub most : readings ≤ point_limit
  pub gauge : good_fields kind period origin ≡ true
  pub fits : header_length + point_length * readings ≤ room

pub accepted : (kind period origin readings radii room : ℕ) → first (writing kind period origin readings radii room) ≡ 0 → Accepted kind period origin readings radii room
accepted kind period origin readings radii room e =
    let from : ℕ → List Check = λ n. drop n (writing kind period origin readings radii room) in
    let c1 = none_first _ (from 1) (λ z. omega arith) e in
    let c2 = none_first _ (from 2) (λ z. omega arith) c1.1 in
    let c3 = none_first _ (from 3) (λ z. omega arith) c2.1 in
    let c4 = none_first _ (from 4) (λ z. omega arith) c3.1 in
    let c5 = none_first _ (from 5) (λ z. omega arith) c4.1 in
    record {
      equal = eqb-true readings radii (not-false _ c1.0);
      known = ltb-false 1 kind c2.0;
      most = ltb-false point_limit readings c3.0;
      gauge = not-false _ c4.0;
      fits = ltb-false room (header_length + point_length * readings) c5.0;
    }

judged : (kind period origin readings radii room : ℕ) → Accepted kind period origin readings radii room → first (writing kind period origin readings radii room) ≡ 0
unfolding first
judged kind period origin readings radii room a =
    rw (
      eq-eqb readings radii a.equal,
      le-ltb 1 kind a.known,
      le-ltb point_limit readings a.most,
      a.gauge,
      le-ltb room (header_length + point_length * readings) a.fits,
    )

pub length_pairs : (readings radii : List ℕ) → length readings ≡ length radii → length (points_of readings radii) ≡ length readings
length_pairs [] radii e = refl
length_pairs (x ∷ readings) [] e = absurd (omega (arith, e))
length_pairs (x ∷ readings) (r ∷ radii) e = ap suc (length_pairs readings radii (omega (arith, e)))

pair_patterns : (readings radii : List ℕ) → ArePatterns readings → ArePatterns radii → AllPatterns (points_of readings radii)
pair_patterns [] radii h k = tt
pair_patterns (x ∷ readings) [] h k = tt
pair_patterns (x ∷ readings) (r ∷ radii) h k = (h 0, k 0, pair_patterns readings radii (λ i. h (suc i)) (λ i. k (suc i)))

module _ (kind period origin : ℕ) (readings radii room : List ℕ) where
  abbrev pub call : Written
  call = write_fields kind period origin readings radii room

  abbrev pub number : ℕ
  number = first (writing kind period origin (length readings) (length radii) (length room))

  abbrev pub file : List ℕ
  file = stem_file (gauge_of kind period origin) (points_of readings radii)

  pub write_number : call.number ≡ number
  unfolding write_fields
  write_number = refl

  -- [12.5] a refusal leaves the room as it was
  pub write_refused : (number ≡ 0 → ⊥) → (call.written ≡ 0) × (call.room ≡ room)
  unfolding write_fields
  write_refused h = rw (ne_eqb number 0 h) (refl, refl)

  pub write_accepted : number ≡ 0 → (call.written ≡ length file) × (call.room ≡ file ++ drop (length file) room)
  unfolding write_fields
  write_accepted e = rw (eq-eqb number 0 e) (refl, refl)

  file_long : number ≡ 0 → length file ≡ header_length + point_length * length readings
  file_long e =
      let a = accepted kind period origin (length readings) (length radii) (length room) e in
      length_file (gauge_of kind period origin) (points_of readings radii) ∙ ap (λ n. header_length + point_length * n) (length_pairs readings radii a.equal)

  -- [12.4] the file lies at the front, every byte past it is as it was
  pub write_front : number ≡ 0 → take call.written call.room ≡ file
  write_front e = rw ((write_accepted e).0, (write_accepted e).1) (take_at file (drop (length file) room) (length file) refl)

  pub write_rest : number ≡ 0 → drop call.written call.room ≡ drop call.written room
  write_rest e = rw ((write_accepted e).0, (write_accepted e).1) (drop_at file (drop (length file) room) (length file) refl)

  -- [12.5] its length is told
  pub write_length : number ≡ 0 → call.written ≡ 26 + 16 * length readings
  write_length e = (write_accepted e).0 ∙ file_long e

  -- the room is as long as it was, whatever the number
  pub write_room : length call.room ≡ length room
  write_room = go (eqb number 0) refl
    where
      go : (t : Bool) → eqb number 0 ≡ t → length call.room ≡ length room
      go true e =
          let z = eqb-true number 0 e in
          let a = accepted kind period origin (length readings) (length radii) (length room) z in
          rw ((write_accepted z).1, length-append file (drop (length file) room), length-drop (length file) room) (omega (arith, file_long z, a.fits))
      go false e = ap length (write_refused (eqb-false number 0 e)).1

  -- [12.6] a call that is accepted leaves a file that reads back as the gauge and the points that were handed over
  pub call_reads_back : period < 2 ^ 64 → origin < 2 ^ 64 → ArePatterns readings → ArePatterns radii → number ≡ 0
      → ReadsAs (take call.written call.room) (gauge_of kind period origin) (points_of readings radii)
  call_reads_back p o h k e =
      let a = accepted kind period origin (length readings) (length radii) (length room) e in
      let g = held kind period origin a.known a.gauge in
      let n = length_pairs readings radii a.equal in
      rw (write_front e)
      (file_reads_back (gauge_of kind period origin) (points_of readings radii) g.taken (rw (← g.period_is) p) (rw (← g.origin_is) o) (pair_patterns readings radii h k) (rw n a.most))

  -- [12.6, 12.8] and that is opened with the same kind, period and origin, and has the same points
  pub call_opens_with : period < 2 ^ 64 → origin < 2 ^ 64 → ArePatterns readings → ArePatterns radii → number ≡ 0
      → OpensWith (take call.written call.room) kind period origin (points_of readings radii)
  call_opens_with p o h k e =
      let a = accepted kind period origin (length readings) (length radii) (length room) e in
      let ps = points_of readings radii in
      let g = gauge_of kind period origin in
      let is = held kind period origin a.known a.gauge in
      let small : kind < 256 = omega (arith, a.known) in
      let most : length ps ≤ point_limit = rw (length_pairs readings radii a.equal) a.most in
      let points = point_bytes ps in
      let front : take call.written call.room ≡ row kind (length ps) period origin points =
      write_front e ∙ ap (λ (l : List ℕ). l ++ points) (header_held kind period origin g (length ps) (length ps) is refl) in
      record {
        taken = ap stem_number (call_reads_back p o h k e).1;
        kind_is = ap file_kind front ∙ kind_back kind (length ps) period origin points small;
        period_is = ap file_period front ∙ period_back kind (length ps) period origin points p;
        origin_is = ap file_origin front ∙ origin_back kind (length ps) period origin points o;
        count_is = ap file_count front ∙ count_back kind (length ps) period origin points most;
        points_are = rw front (points_all ps (pair_patterns readings radii h k));
      }

-- ---- the call of a gauge

module _ (g : Gauge) (readings radii room : List ℕ) where
  -- [12.3] is that of its fields, and so all the above is said of it; it has no kind to refuse
  pub gauge_call : write_stem g readings radii room ≡ write_fields (kind_of g) (period_of g) (origin_of g) readings radii room
  unfolding write_stem
  gauge_call = refl

  pub gauge_number : (write_stem g readings radii room).number
      ≡ cond (eqb (length readings) (length radii))
      (cond (ltb point_limit (length readings)) 13
      (cond (good g)
      (cond (ltb (length room) (26 + 16 * length readings)) 16 0)
      15))
      9
  gauge_number =
      ap (λ (w : Written). w.number) gauge_call
      ∙ write_number (kind_of g) (period_of g) (origin_of g) readings radii room
      ∙ writing_number (kind_of g) (period_of g) (origin_of g) (length readings) (length radii) (length room)
      ∙ rw (le-ltb 1 (kind_of g) (kind_small g), gauge_fields g)

  -- and a refusal leaves its room too
  pub gauge_left : ((write_stem g readings radii room).number ≡ 0 → ⊥) → (write_stem g readings radii room).room ≡ room
  gauge_left some =
      ap (λ (w : Written). w.room) gauge_call
      ∙ (write_refused (kind_of g) (period_of g) (origin_of g) readings radii room (λ z. some (ap (λ (w : Written). w.number) gauge_call ∙ write_number (kind_of g) (period_of g) (origin_of g) readings radii room ∙ z))).1

-- [12.7] what a file that is accepted reads as, written again, is that file
module _ (file : List ℕ) (are : AreBytes file) (g : Gauge) (readings radii room : List ℕ) (same : length readings ≡ length radii) (reads : ReadsAs file g (points_of readings radii)) where
  file_same : stem_file g (points_of readings radii) ≡ file
  file_same = file_written_again file are g (points_of readings radii) reads

  same_long : length file ≡ header_length + point_length * length readings
  same_long = rw (← file_same, ← length_pairs readings radii same) (length_file g (points_of readings radii))

  is_row : Row file g reads.0 (file_count file)
  is_row = opened_file file are g reads.0 reads.1

  few : length readings ≤ point_limit
  few = omega (arith, same_long, is_row.most, row_long file g reads.0 (file_count file) is_row)

  pub call_written_again : length file ≤ length room → write_stem g readings radii room ≡ record { number = 0; written = length file; room = file ++ drop (length file) room }
  unfolding write_stem write_fields
  call_written_again fits =
      let a : Accepted (kind_of g) (period_of g) (origin_of g) (length readings) (length radii) (length room) =
      record { equal = same; known = kind_small g; most = few; gauge = gauge_fields g ∙ is_row.taken; fits = omega (arith, same_long, fits) } in
      go _ _ (judged _ _ _ _ _ _ a) (ap (λ (h : Gauge). stem_file h (points_of readings radii)) (gauge_same g) ∙ file_same)
    where
      go : (n : ℕ) (f : List ℕ) → n ≡ 0 → f ≡ file
          → ◌≡◌ {A = Written} (record { number = n; written = cond (eqb n 0) (length f) 0; room = cond (eqb n 0) (f ++ drop (length f) room) room })
          (record { number = 0; written = length file; room = file ++ drop (length file) room })
      go n f e s = rw (e, s)

  -- or 16, where the room is too short for it
  pub call_short : length room < length file → ((write_stem g readings radii room).number ≡ 16) × ((write_stem g readings radii room).room ≡ room)
  call_short short =
      let e : (write_stem g readings radii room).number ≡ 16 =
      gauge_number g readings radii room
      ∙ rw (eq-eqb (length readings) (length radii) same, le-ltb point_limit (length readings) few, is_row.taken, lt-ltb (length room) (26 + 16 * length readings) (omega (arith, same_long, short))) in
      (e, gauge_left g readings radii room (λ z. omega (arith, e, z)))

-- the same of what C is told of it
fields_gauge : (kind period origin : ℕ) (g : Gauge) → Held kind period origin g → (readings radii room : List ℕ)
    → write_fields kind period origin readings radii room ≡ write_stem g readings radii room
unfolding write_stem
fields_gauge kind period origin g h readings radii room = rw (h.kind_is, h.period_is, h.origin_is)

pub fields_written_again : (file : List ℕ) → AreBytes file → (readings radii room : List ℕ) → length readings ≡ length radii → length file ≤ length room
    → stem_number (stem file) ≡ 0 → points_in (drop header_length file) ≡ points_of readings radii
    → write_fields (file_kind file) (file_period file) (file_origin file) readings radii room ≡ record { number = 0; written = length file; room = file ++ drop (length file) room }
fields_written_again file are readings radii room same fits e ps =
    let judged : first (judging file) ≡ 0 = sym (stem_number_lem file) ∙ e in
    let p = passed file judged in
    let g = gauge_of (file_kind file) (file_period file) (file_origin file) in
    let h = held (file_kind file) (file_period file) (file_origin file) p.kind p.gauge in
    fields_gauge (file_kind file) (file_period file) (file_origin file) g h readings radii room
    ∙ call_written_again file are g readings radii room same (drop header_length file, stem_opened file judged, ps) fits

-- [12.3] where the lists, the count and the room are right, the number is the reader's for the file that these fields make: 12 and 15 are for
-- just those gauges that it refuses
pub writer_and_reader : (kind period origin room : ℕ) (ps : List Point) → kind < 256 → period < 2 ^ 64 → origin < 2 ^ 64 → length ps ≤ point_limit
    → header_length + point_length * length ps ≤ room
    → first (writing kind period origin (length ps) (length ps) room) ≡ stem_number (stem (header kind (length ps) period origin ++ point_bytes ps))
writer_and_reader kind period origin room ps k p o most fits =
    let n = length ps in
    let points = point_bytes ps in
    let file = row kind n period origin points in
    let long : length file ≡ 26 + 16 * n = omega (arith, length_points ps) in
    writing_number kind period origin n n room
    ∙ sym (file_number file ∙ go (length file) (file_kind file) (file_count file) (file_period file) (file_origin file) long (kind_back kind n period origin points k) (count_back kind n period origin points most) (period_back kind n period origin points p) (origin_back kind n period origin points o))
  where
    go : (l a n b c : ℕ) → l ≡ 26 + 16 * length ps → a ≡ kind → n ≡ length ps → b ≡ period → c ≡ origin
        → ◌≡◌ {A = ℕ} (cond (ltb l 26) 14 (cond (ltb 1 a) 12 (cond (ltb point_limit n) 13 (cond (eqb l (26 + 16 * n)) (cond (good_fields a b c) 0 15) 14))))
        (cond (eqb (length ps) (length ps)) (cond (ltb 1 kind) 12 (cond (ltb point_limit (length ps)) 13 (cond (good_fields kind period origin) (cond (ltb room (26 + 16 * length ps)) 16 0) 15))) 9)
    go l a n b c long kinds counts periods origins =
        rw (
          long,
          kinds,
          counts,
          periods,
          origins,
          le-ltb (26 + 16 * length ps) 26 (omega arith),
          le-ltb point_limit (length ps) most,
          eq-eqb (26 + 16 * length ps) (26 + 16 * length ps) refl,
          eq-eqb (length ps) (length ps) refl,
          le-ltb room (26 + 16 * length ps) fits,
        )

-- [12.2] every list of points is two lists of patterns
pub points_pairs : (ps : List Point) → points_of (map (λ (p : Point). p.reading) ps) (map (λ (p : Point). p.radius) ps) ≡ ps
points_pairs [] = refl
points_pairs (p ∷ ps) = ap (λ (l : List Point). p ∷ l) (points_pairs ps)
