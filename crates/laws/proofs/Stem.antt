-- Stem files, said from the other side: which lists of bytes are accepted, byte for byte, what part is handed back, and which numbers
-- there are. Assumes nothing.
use mathlib.Core.Path.{◌≡◌, refl, sym, ap, ◌∙◌}
use mathlib.Core.Logic.{◌⊎◌, inl, inr}
use mathlib.Core.Bool.{Bool, true, false, not, cond, ◌&&◌}
use mathlib.Core.List.{List, [], ◌∷◌, ◌++◌}
use Prim.Native.Nat.{ℕ, zero, suc, ◌+◌, ◌*◌, ◌^◌, ◌≤◌, ◌<◌}
use native.Mathlib.Nat.{pow-suc, mod-eq_of_lt, lt_of_le_of_lt}
use native.Mathlib.Omega.{arith}
use borrow.Author.Tests.{ltb-false, leb-true, le-ltb, eqb-true, eq-eqb, not-false}
use lib.Dec.{leb, ltb, eqb, lit<, lit≤}
use lib.ListN.{length, take, drop, length-drop, take-append-drop}
use lib.Seq.{drop-drop, take-add, length-take-le}
use Rattle.digits.proofs.Tests.{clash, and_both, and_true}
use Rattle.definitions.specs.Numbers.{Check, first}
use Rattle.definitions.specs.Bytes.{bytes_of, of_bytes, loaded}
use Rattle.definitions.specs.Stem.{Gauge, turn, roller, gauge_of, kind_of, period_of, origin_of, good, good_fields, header_length, point_length, mark, version, point_limit, file_mark, file_version, file_kind, file_count, file_period, file_origin, judging, opened, refused, stem, stem_number, stem_points, point_at, handing}
use Rattle.definitions.specs.StemWriter.{header, header_of}
use Rattle.laws.proofs.Bytes.{AreBytes, of_bytes_lem, bytes_of_lem, take_bytes, drop_bytes}

-- ---- the claim

-- [11.1 to 11.5] the file is the header of a gauge that is taken and of n points, and then the bytes of n points
pub record Row (file : List ℕ) (g : Gauge) (points : List ℕ) (n : ℕ) : Type 0 where
  pub bytes : file ≡ header_of g n ++ points
  pub period : period_of g < 2 ^ 64
  pub origin : origin_of g < 2 ^ 64
  pub taken : good g ≡ true
  pub most : n ≤ point_limit
  pub long : length points ≡ point_length * n

-- ---- the checks, taken apart

-- a file that no check refuses
pub record Passed (file : List ℕ) : Type 0 where
  pub header : header_length ≤ length file
  pub letters : file_mark file ≡ of_bytes mark
  pub edition : file_version file ≡ version
  pub kind : file_kind file ≤ 1
  pub most : file_count file ≤ point_limit
  pub long : length file ≡ header_length + point_length * file_count file
  pub gauge : good_fields (file_kind file) (file_period file) (file_origin file) ≡ true

-- where none of a list applies, its first does not, and none of the others
pub none_first : (c : Check) (cs : List Check) → (c.number ≡ 0 → ⊥) → first (c ∷ cs) ≡ 0 → (c.test ≡ false) × (first cs ≡ 0)
unfolding first
none_first c cs h = go c.test
  where
    go : (t : Bool) → cond t c.number (first cs) ≡ 0 → (t ≡ false) × (first cs ≡ 0)
    go true e = absurd (h e)
    go false e = (refl, e)

pub passed : (file : List ℕ) → first (judging file) ≡ 0 → Passed file
passed file e =
    let from : ℕ → List Check = λ n. drop n (judging file) in
    let c1 = none_first _ (from 1) (λ z. omega arith) e in
    let c2 = none_first _ (from 2) (λ z. omega arith) c1.1 in
    let c3 = none_first _ (from 3) (λ z. omega arith) c2.1 in
    let c4 = none_first _ (from 4) (λ z. omega arith) c3.1 in
    let c5 = none_first _ (from 5) (λ z. omega arith) c4.1 in
    let c6 = none_first _ (from 6) (λ z. omega arith) c5.1 in
    let c7 = none_first _ (from 7) (λ z. omega arith) c6.1 in
    record {
      header = ltb-false (length file) header_length c1.0;
      letters = eqb-true (file_mark file) (of_bytes mark) (not-false _ c2.0);
      edition = eqb-true (file_version file) version (not-false _ c3.0);
      kind = ltb-false 1 (file_kind file) c4.0;
      most = ltb-false point_limit (file_count file) c5.0;
      long = eqb-true (length file) (header_length + point_length * file_count file) (not-false _ c6.0);
      gauge = not-false _ c7.0;
    }

judged : (file : List ℕ) → Passed file → first (judging file) ≡ 0
unfolding first
judged file p =
    rw (
      le-ltb (length file) header_length p.header,
      eq-eqb (file_mark file) (of_bytes mark) p.letters,
      eq-eqb (file_version file) version p.edition,
      le-ltb 1 (file_kind file) p.kind,
      le-ltb point_limit (file_count file) p.most,
      eq-eqb (length file) (header_length + point_length * file_count file) p.long,
      p.gauge,
    )

-- ---- [11.5] the numbers

-- checks whose numbers are all from 10 to 15
abbrev stem_checks : List Check → Bool
stem_checks [] = true
stem_checks (c ∷ cs) = (leb 10 c.number && leb c.number 15) && stem_checks cs

among : (cs : List Check) → stem_checks cs ≡ true → (first cs ≡ 0) ⊎ ((10 ≤ first cs) × (first cs ≤ 15))
unfolding first
among [] e = inl refl
among (c ∷ cs) e =
    let b = and_both (leb 10 c.number && leb c.number 15) (stem_checks cs) e in
    let n = and_both (leb 10 c.number) (leb c.number 15) b.0 in
    go c.test (leb-true 10 c.number n.0) (leb-true c.number 15 n.1) (among cs b.1)
  where
    go : (t : Bool) → 10 ≤ c.number → c.number ≤ 15 → (first cs ≡ 0) ⊎ ((10 ≤ first cs) × (first cs ≤ 15))
        → (cond t c.number (first cs) ≡ 0) ⊎ ((10 ≤ cond t c.number (first cs)) × (cond t c.number (first cs) ≤ 15))
    go true l m r = inr (l, m)
    go false l m r = r

module _ (file : List ℕ) where
  abbrev file_gauge : Gauge
  file_gauge = gauge_of (file_kind file) (file_period file) (file_origin file)

  -- a file's number is that of the first check that applies
  pub stem_number_lem : stem_number (stem file) ≡ first (judging file)
  unfolding stem
  stem_number_lem = go (first (judging file)) (eqb (first (judging file)) 0) refl
    where
      go : (n : ℕ) (t : Bool) → eqb n 0 ≡ t → stem_number (cond t (opened file_gauge (drop header_length file)) (refused n)) ≡ n
      go n true e = sym (eqb-true n 0 e)
      go n false e = refl

  -- a file that no check refuses is opened
  pub stem_opened : first (judging file) ≡ 0 → stem file ≡ opened file_gauge (drop header_length file)
  unfolding stem
  stem_opened e = rw e

  -- a number is 0, or from 10 to 15
  pub stem_numbers : (stem_number (stem file) ≡ 0) ⊎ ((10 ≤ stem_number (stem file)) × (stem_number (stem file) ≤ 15))
  stem_numbers = rw stem_number_lem (among (judging file) refl)

  -- ---- [11.6 to 11.8] the part that is handed back

  -- all that follows the header, or nothing: whatever count the file declares
  pub points_part : stem_points (stem file) ≡ cond (eqb (stem_number (stem file)) 0) (drop header_length file) []
  unfolding stem
  points_part = rw stem_number_lem (go (eqb (first (judging file)) 0))
    where
      go : (t : Bool)
          → stem_points (cond t (opened file_gauge (drop header_length file)) (refused (first (judging file)))) ≡ cond t (drop header_length file) []
      go true = refl
      go false = refl

  -- so it is never longer than the file
  pub points_within : length (stem_points (stem file)) ≤ length file
  points_within = rw points_part (go (eqb (stem_number (stem file)) 0))
    where
      go : (t : Bool) → length (cond t (drop header_length file) []) ≤ length file
      go true = rw (length-drop header_length file) (omega arith)
      go false = omega arith

-- ---- a file that is accepted is a row of its fields

-- bytes are a number below the weight of the next one
number_small : (bs : List ℕ) → AreBytes bs → of_bytes bs < 256 ^ length bs
number_small [] h = lit< tt
number_small (b ∷ bs) h = omega (arith, pow-suc 256 (length bs), h 0, number_small bs (λ i. h (suc i)))

module _ (file : List ℕ) (are : AreBytes file) where
  -- what lies at a place is k bytes of the number there, and then what lies after them
  field_cut : (k at n : ℕ) (rest : List ℕ) → at + k ≤ length file → loaded k at file ≡ n → drop (at + k) file ≡ rest
      → drop at file ≡ bytes_of k n ++ rest
  field_cut k at n rest fits is after =
      let d = drop at file in
      let e : length (take k d) ≡ k = length-take-le k d (rw (length-drop at file) (omega arith)) in
      rw (← is, ← after, bytes_of_lem k (take k d) e (take_bytes k d (drop_bytes at file are)), ← drop-drop k at file, take-append-drop k d)

  pub field_small : (k at : ℕ) → at + k ≤ length file → loaded k at file < 256 ^ k
  field_small k at fits =
      let d = drop at file in
      let e : length (take k d) ≡ k = length-take-le k d (rw (length-drop at file) (omega arith)) in
      rw e at (number_small (take k d) (take_bytes k d (drop_bytes at file are)))

-- the gauge of the fields has these fields, and is taken if they are
pub record Held (kind period origin : ℕ) (g : Gauge) : Type 0 where
  pub kind_is : kind ≡ kind_of g
  pub period_is : period ≡ period_of g
  pub origin_is : origin ≡ origin_of g
  pub taken : good g ≡ true

pub held : (kind period origin : ℕ) → kind ≤ 1 → good_fields kind period origin ≡ true → Held kind period origin (gauge_of kind period origin)
unfolding good_fields
held zero period origin l e =
    let b = and_both (good (turn period)) (eqb origin 0) e in
    record { kind_is = refl; period_is = refl; origin_is = eqb-true origin 0 b.1; taken = b.0 }
held (suc zero) period origin l e =
    record { kind_is = refl; period_is = refl; origin_is = refl; taken = (and_both (good (roller period origin)) true e).0 }
held (suc (suc k)) period origin l e = absurd (omega arith)

module _ (file : List ℕ) (are : AreBytes file) where
  passed_row : Passed file → Row file (file_gauge file) (drop header_length file) (file_count file)
  passed_row p =
      let g = file_gauge file in
      let points = drop header_length file in
      let h = held (file_kind file) (file_period file) (file_origin file) p.kind p.gauge in
      let l = p.header in
      let origins = field_cut file are 8 18 (origin_of g) points (omega arith) h.origin_is refl in
      let periods = field_cut file are 8 10 (period_of g) _ (omega arith) h.period_is origins in
      let counts = field_cut file are 4 6 (file_count file) _ (omega arith) refl periods in
      let kinds = field_cut file are 1 5 (kind_of g) _ (omega arith) h.kind_is counts in
      let versions = field_cut file are 2 3 version _ (omega arith) p.edition kinds in
      record {
        bytes = field_cut file are 3 0 (of_bytes mark) _ (omega arith) p.letters versions;
        period = rw (← h.period_is) (field_small file are 8 10 (omega arith));
        origin = rw (← h.origin_is) (field_small file are 8 18 (omega arith));
        taken = h.taken;
        most = p.most;
        long = rw (length-drop header_length file) (omega (arith, p.long));
      }

  -- [11.1 to 11.7] an accepted file is the header of the gauge that it gives, and the points that it hands back
  pub opened_file : (g : Gauge) (points : List ℕ) → stem file ≡ opened g points → Row file g points (file_count file)
  unfolding stem
  opened_file g points = go (eqb (first (judging file)) 0) refl
    where
      go : (t : Bool) → eqb (first (judging file)) 0 ≡ t
          → cond t (opened (file_gauge file) (drop header_length file)) (refused (first (judging file))) ≡ opened g points
          → Row file g points (file_count file)
      go true e q =
          let same : file_gauge file ≡ g = cc in
          let rest : drop header_length file ≡ points = cc in
          rw (← same, ← rest) (passed_row (passed file (eqb-true (first (judging file)) 0 e)))
      go false e q = clash (cc)

-- ---- and such a row is accepted

-- a gauge is that of its fields
pub gauge_same : (g : Gauge) → gauge_of (kind_of g) (period_of g) (origin_of g) ≡ g
gauge_same (turn p) = refl
gauge_same (roller p o) = refl

-- which are judged as it is
pub gauge_fields : (g : Gauge) → good_fields (kind_of g) (period_of g) (origin_of g) ≡ good g
unfolding good_fields
gauge_fields (turn p) = and_true (good (turn p))
gauge_fields (roller p o) = and_true (good (roller p o))

pub kind_small : (g : Gauge) → kind_of g ≤ 1
kind_small (turn p) = lit≤ tt
kind_small (roller p o) = lit≤ tt

-- the fields of a header are read as they stand there, whatever they are
module _ (kind n period origin : ℕ) (points : List ℕ) where
  abbrev pub row : List ℕ
  row = header kind n period origin ++ points

  pub kind_back : kind < 256 → file_kind row ≡ kind
  kind_back h = of_bytes_lem 1 kind ∙ mod-eq_of_lt h

  pub count_back : n ≤ point_limit → file_count row ≡ n
  count_back h = of_bytes_lem 4 n ∙ mod-eq_of_lt (lt_of_le_of_lt h (lit< tt))

  pub period_back : period < 2 ^ 64 → file_period row ≡ period
  period_back h = of_bytes_lem 8 period ∙ mod-eq_of_lt h

  pub origin_back : origin < 2 ^ 64 → file_origin row ≡ origin
  origin_back h = of_bytes_lem 8 origin ∙ mod-eq_of_lt h

module _ (file : List ℕ) (g : Gauge) (points : List ℕ) (n : ℕ) (r : Row file g points n) where
  -- its fields, read
  pub kind_read : file_kind file ≡ kind_of g
  kind_read = ap file_kind r.bytes ∙ kind_back (kind_of g) n (period_of g) (origin_of g) points (lt_of_le_of_lt (kind_small g) (lit< tt))

  pub period_read : file_period file ≡ period_of g
  period_read = ap file_period r.bytes ∙ period_back (kind_of g) n (period_of g) (origin_of g) points r.period

  pub origin_read : file_origin file ≡ origin_of g
  origin_read = ap file_origin r.bytes ∙ origin_back (kind_of g) n (period_of g) (origin_of g) points r.origin

  -- [11.1] n is the count that the file declares
  pub row_count : file_count file ≡ n
  row_count = ap file_count r.bytes ∙ count_back (kind_of g) n (period_of g) (origin_of g) points r.most

  pub row_long : length file ≡ header_length + point_length * n
  row_long = rw r.bytes (omega (arith, r.long))

  row_passed : Passed file
  row_passed =
      record {
        header = rw row_long (omega arith);
        letters = rw r.bytes refl;
        edition = rw r.bytes refl;
        kind = rw kind_read (kind_small g);
        most = rw row_count r.most;
        long = rw (row_long, row_count) refl;
        gauge = rw (kind_read, period_read, origin_read) (gauge_fields g ∙ r.taken);
      }

  -- [11.1 to 11.8] whatever is such a row is accepted, with that gauge and those points
  pub file_opened : stem file ≡ opened g points
  unfolding stem
  file_opened =
      let rest : drop header_length file ≡ points = rw r.bytes refl in
      rw (judged file row_passed, kind_read, period_read, origin_read, gauge_same g, rest)

-- [11.5] the number of a file, by its bytes alone
pub file_number : (file : List ℕ) → stem_number (stem file)
    ≡ cond (ltb (length file) 26) 14
    (cond (eqb (loaded 3 0 file) 0x4D5453)
    (cond (eqb (loaded 2 3 file) 1)
    (cond (ltb 1 (loaded 1 5 file)) 12
    (cond (ltb point_limit (loaded 4 6 file)) 13
    (cond (eqb (length file) (26 + 16 * loaded 4 6 file))
    (cond (good_fields (loaded 1 5 file) (loaded 8 10 file) (loaded 8 18 file)) 0 15)
    14)))
    11)
    10)
unfolding first
file_number file =
    stem_number_lem file
    ∙ go (ltb (length file) 26) (eqb (loaded 3 0 file) 0x4D5453) (eqb (loaded 2 3 file) 1) (ltb 1 (loaded 1 5 file)) (ltb point_limit (loaded 4 6 file)) (eqb (length file) (26 + 16 * loaded 4 6 file)) (good_fields (loaded 1 5 file) (loaded 8 10 file) (loaded 8 18 file))
  where
    go : (a b c d e f g : Bool)
        → ◌≡◌ {A = ℕ} (cond a 14 (cond (not b) 10 (cond (not c) 11 (cond d 12 (cond e 13 (cond (not f) 14 (cond (not g) 15 0)))))))
        (cond a 14 (cond b (cond c (cond d 12 (cond e 13 (cond f (cond g 0 15) 14))) 11) 10))
    go true b c d e f g = refl
    go false false c d e f g = refl
    go false true false d e f g = refl
    go false true true true e f g = refl
    go false true true false true f g = refl
    go false true true false false false g = refl
    go false true true false false true true = refl
    go false true true false false true false = refl

-- ---- the points

-- [11.1] the point at a place is the sixteen bytes there, its reading and then its radius
pub point_bytes_lem : (points : List ℕ) → AreBytes points → (i : ℕ) → point_length * i + point_length ≤ length points
    → bytes_of 8 (point_at points i).reading ++ bytes_of 8 (point_at points i).radius ≡ take point_length (drop (point_length * i) points)
point_bytes_lem points h i fits =
    let at = point_length * i in
    let field : (j : ℕ) → j + 8 ≤ length points → bytes_of 8 (loaded 8 j points) ≡ take 8 (drop j points) =
    λ j l. bytes_of_lem 8 (take 8 (drop j points)) (length-take-le 8 (drop j points) (rw (length-drop j points) (omega arith))) (take_bytes 8 (drop j points) (drop_bytes j points h)) in
    ap (λ (r : List ℕ). r ++ bytes_of 8 (loaded 8 (at + 8) points)) (field at (omega arith))
    ∙ ap (λ (r : List ℕ). take 8 (drop at points) ++ r) (field (at + 8) (omega arith))
    ∙ sym (take-add 8 8 (drop at points) ∙ ap (λ (r : List ℕ). take 8 (drop at points) ++ take 8 r) (drop-drop 8 at points))

-- [11.13] what C hands over as a gauge: every kind above 1 is 12, whatever else
pub handing_number : (kind period origin : ℕ) → first (handing kind period origin) ≡ cond (ltb 1 kind) 12 (cond (good_fields kind period origin) 0 15)
unfolding first
handing_number kind period origin = go (ltb 1 kind) (good_fields kind period origin)
  where
    go : (t u : Bool) → ◌≡◌ {A = ℕ} (cond t 12 (cond (not u) 15 0)) (cond t 12 (cond u 0 15))
    go true u = refl
    go false true = refl
    go false false = refl
