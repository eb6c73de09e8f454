-- Both round trips, of what the reader and the writer promise. Assumes nothing.
use mathlib.Core.Path.{◌≡◌, refl, sym, ap, ◌∙◌}
use mathlib.Core.Bool.{Bool, true, false, cond}
use mathlib.Core.List.{List, ◌++◌}
use Prim.Native.Nat.{ℕ, ◌/◌, ◌^◌, ◌≤◌, ◌<◌}
use native.Mathlib.Nat.{zero-add}
use native.Mathlib.Omega.{arith}
use borrow.Author.Tests.{lt-ltb, le-ltb, leb-false, eq-eqb, ne_eqb}
use lib.Dec.{ltb, leb}
use Rattle.std.specs.Prelude.{Option, Some, None, Result, Ok, Err}
use lib.ListN.{length, get_or, take, drop, length-drop}
use Rattle.digits.proofs.Tests.{clash}
use Rattle.definitions.specs.Numbers.{first}
use Rattle.definitions.specs.Stem as definition
use Rattle.definitions.specs.Stem.{header_length, point_length, gauge_of, file_count, judging, Stem, opened, refused, stem, stem_number, stem_points, point_at}
use Rattle.definitions.specs.StemWriter.{points_of, points_in, writing, Written, write_fields, write_stem}
use Rattle.laws.proofs.Bytes.{AreBytes}
use Rattle.laws.proofs.Stem.{passed, stem_number_lem, stem_opened, opened_file}
use Rattle.laws.proofs.StemWriter.{ArePatterns, ReadsAs, accepted, write_number, write_length, write_room, call_reads_back, call_written_again, length_from, length_pairs, place_back}
use Rattle.gauges.specs.declared.Gauge.{Gauge}
use Rattle.gauges.specs.Held.{gauge_held, gauge_bits}
use Rattle.gauges.proofs.Passes.{gauge_passes}
use Rattle.gauges.specs.declared.StemRefusal.{StemRefusal}
use Rattle.gauges.specs.Refused.{number_of, told}
use Rattle.stems.specs.declared.PointPatterns.{PointPatterns}
use Rattle.stems.specs.Opened.{answer_of, patterns_placed}
use Rattle.stems.proofs.Opened.{refusal_some, told_opened, told_refused}
use Rattle.stem_writer.specs.Written.{write_meaning}
use Rattle.round_trips.specs.Trips.{opens_as, listed, taken_out, again}

-- of a part that has the points of two lists `patterns_at` gives what they hold
module _ (part readings radii : List ℕ) (same : length readings ≡ length radii) (e : points_in part ≡ points_of readings radii) (i : ℕ) where
  abbrev count : ℕ
  count = length part / point_length

  abbrev pair : PointPatterns
  pair = record { reading = get_or readings i 0; radius = get_or radii i 0 }

  abbrev held : definition.Point → PointPatterns
  held p = record { reading = p.reading; radius = p.radius }

  taken_listed : patterns_placed part i ≡ listed readings radii i
  taken_listed =
      let many : count ≡ length readings = sym (length_from 0 count part) ∙ ap length e ∙ length_pairs readings radii same in
      rw many (go (leb (length readings) i) refl)
    where
      go : (t : Bool) → leb (length readings) i ≡ t → ◌≡◌ {A = Option PointPatterns} (cond t None (Some (held (point_at part i)))) (cond t None (Some pair))
      go true l = refl
      go false l =
          let at : point_at part i ≡ record { reading = get_or readings i 0; radius = get_or radii i 0 } =
          rw (zero-add i) at (place_back 0 count part readings radii e i (leb-false (length readings) i l) same) in
          ap (λ (p : definition.Point). Some (held p)) at

-- ---- what is written reads back

-- `room₁` is what a call of `write_fields` leaves
module _ (kind period origin : ℕ) (readings radii room room₁ : List ℕ) where
  abbrev number : ℕ
  number = (write_fields kind period origin readings radii room).number

  -- with a refusal
  module _ (e : StemRefusal) (wrote : write_meaning (Err e) room₁ ≡ write_fields kind period origin readings radii room) where
    is : number_of e ≡ number
    is = ap (λ (w : Written). w.number) wrote

    pub refused_open : ◌≡◌ {A = Result Gauge ℕ} (Err (number_of e)) (opens_as (gauge_of kind period origin) number)
    refused_open = rw (← is, ne_eqb (number_of e) 0 (refusal_some e))

    pub refused_take : (i : ℕ) → ◌≡◌ {A = Option PointPatterns} None (taken_out number readings radii i)
    refused_take i = rw (← is, ne_eqb (number_of e) 0 (refusal_some e))

  -- with a file of n bytes
  module _ (n : ℕ) (wrote : write_meaning (Ok n) room₁ ≡ write_fields kind period origin readings radii room)
      (p : period < 2 ^ 64) (o : origin < 2 ^ 64) (xs : ArePatterns readings) (rs : ArePatterns radii) where
    abbrev file : List ℕ
    file = take n room₁

    none : 0 ≡ number
    none = ap (λ (w : Written). w.number) wrote

    judged : first (writing kind period origin (length readings) (length radii) (length room)) ≡ 0
    judged = sym (none ∙ write_number kind period origin readings radii room)

    reads : ReadsAs file (gauge_of kind period origin) (points_of readings radii)
    reads =
        rw (ap (λ (w : Written). w.written) wrote, ap (λ (w : Written). w.room) wrote)
        (call_reads_back kind period origin readings radii room p o xs rs judged)

    pub written_fits : n ≤ length room₁
    written_fits =
        let w = ap (λ (w : Written). w.written) wrote ∙ write_length kind period origin readings radii room judged in
        let r = ap (λ (w : Written). length w.room) wrote ∙ write_room kind period origin readings radii room in
        omega (arith, w, r, (accepted kind period origin (length readings) (length radii) (length room) judged).fits)

    -- `open_stem` answers the gauge that was handed over
    pub written_opens : answer_of (stem file) ≡ opens_as (gauge_of kind period origin) number
    written_opens = ap answer_of reads.1 ∙ rw (eq-eqb number 0 (sym none))

    -- and of the part that `points_of` hands back `patterns_at` gives the points
    pub written_points : (i : ℕ) → patterns_placed (stem_points (stem file)) i ≡ taken_out number readings radii i
    written_points i =
        let same = (accepted kind period origin (length readings) (length radii) (length room) judged).equal in
        taken_listed (stem_points (stem file)) readings radii same (rw (ap stem_points reads.1) reads.2) i
        ∙ rw (eq-eqb number 0 (sym none))

-- ---- what is read is written again as it was

module _ (file readings radii room room₁ : List ℕ) (gauge : Gauge) (answer : Result ℕ StemRefusal)
    (are : AreBytes file) (same : length readings ≡ length radii)
    (opens : answer_of (stem file) ≡ Ok gauge) (taken : points_in (stem_points (stem file)) ≡ points_of readings radii)
    (wrote : write_meaning answer room₁ ≡ write_stem (gauge_bits gauge) readings radii room) where
  reads_as : (s : Stem) → stem file ≡ s → answer_of s ≡ Ok gauge → ReadsAs file (gauge_bits gauge) (points_of readings radii)
  reads_as (opened h points) is e =
      let r = opened_file file are h points is in
      let held : gauge_held h ≡ gauge = cc in
      let bits : gauge_bits gauge ≡ h = ap gauge_bits (sym held) ∙ gauge_passes h r.taken r.period r.origin in
      (points, rw bits is, rw (ap stem_points is) at taken)
  reads_as (refused n) is e = clash (cc)

  -- where the room is enough, the call is accepted, and the room holds that file and behind it what was there
  pub opened_written : length file ≤ length room → write_meaning answer room₁ ≡ record { number = 0; written = length file; room = file ++ drop (length file) room }
  opened_written fits = wrote ∙ call_written_again file are (gauge_bits gauge) readings radii room same (reads_as (stem file) refl opens) fits

-- ---- the number of a file that is opened and written again

module _ (file : List ℕ) (gauge : Gauge) (opens : answer_of (stem file) ≡ Ok gauge) where
  abbrev part : List ℕ
  part = stem_points (stem file)

  judged_well : first (judging file) ≡ 0
  judged_well = told_opened file gauge opens

  accepted_file : stem_number (stem file) ≡ 0
  accepted_file = stem_number_lem file ∙ judged_well

  part_count : length part / point_length ≡ file_count file
  part_count =
      rw (ap stem_points (stem_opened file judged_well), length-drop header_length file) (omega (arith, (passed file judged_well).long))

  pub again_readings : (x r room : ℕ) → (x ≡ length part / point_length → ⊥) → 9 ≡ again file x r room
  again_readings x r room h = rw (accepted_file, ne_eqb x (file_count file) (λ e. h (e ∙ sym part_count)))

  pub again_radii : (x r room : ℕ) → x ≡ length part / point_length → (r ≡ length part / point_length → ⊥) → 9 ≡ again file x r room
  again_radii x r room e h = rw (accepted_file, eq-eqb x (file_count file) (e ∙ part_count), ne_eqb r (file_count file) (λ f. h (f ∙ sym part_count)))

  again_whole : (x r room : ℕ) → x ≡ length part / point_length → r ≡ length part / point_length → again file x r room ≡ cond (ltb room (length file)) 16 0
  again_whole x r room e f = rw (accepted_file, eq-eqb x (file_count file) (e ∙ part_count), eq-eqb r (file_count file) (f ∙ part_count))

  pub again_short : (x r room : ℕ) → x ≡ length part / point_length → r ≡ length part / point_length → room < length file → 16 ≡ again file x r room
  again_short x r room e f short = sym (again_whole x r room e f ∙ rw (lt-ltb room (length file) short))

  -- the call that writes it again
  pub written_back : (readings radii room room₁ : List ℕ) (answer : Result ℕ StemRefusal) (x r : ℕ) → AreBytes file → length readings ≡ length radii
      → x ≡ length part / point_length → r ≡ length part / point_length → length file ≤ length room
      → points_in part ≡ points_of readings radii → write_meaning answer room₁ ≡ write_stem (gauge_bits gauge) readings radii room
      → (told answer ≡ 0) × (0 ≡ again file x r (length room)) × (room₁ ≡ file ++ drop (length file) room)
  written_back readings radii room room₁ answer x r are same e f fits taken wrote =
      let w = opened_written file readings radii room room₁ gauge answer are same opens taken wrote fits in
      (ap (λ (t : Written). t.number) w, sym (again_whole x r (length room) e f ∙ rw (le-ltb (length room) (length file) fits)), ap (λ (t : Written). t.room) w)

-- and of one that is refused
pub again_refused : (file : List ℕ) (n : ℕ) → answer_of (stem file) ≡ Err n → (x r room : ℕ) → (n ≡ again file x r room) × (n ≡ 0 → ⊥)
again_refused file n e x r room =
    let t = told_refused file n e in
    let is : stem_number (stem file) ≡ n = stem_number_lem file ∙ t.0 in
    (rw (is, ne_eqb n 0 t.1), t.1)
