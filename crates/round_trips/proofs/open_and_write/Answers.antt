-- `open_and_write` meets its contract, by those of what it calls.
use mathlib.Core.Path.{◌≡◌, refl, sym, ap, ◌∙◌}
use mathlib.Core.List.{List}
use Prim.Native.Nat.{ℕ, ◌/◌}
use native.Mathlib.Omega.{arith}
use lib.ListN.{length}
use Rattle.definitions.specs.Stem.{point_length, stem, stem_points}
use Rattle.definitions.specs.StemWriter.{points_in}
use Rattle.laws.proofs.Bytes.{AreBytes}
use Rattle.stems.proofs.Opened.{refusal_some}
use Rattle.round_trips.proofs.RoundTrip.{again_readings, again_short, written_back}
use Rattle.round_trips.proofs.open_and_write.Goals as goal

pub returns-then-readings-count-clause-number : goal.returns-then-readings-count-clause-number
returns-then-readings-count-clause-number c =
    let part_is : length c.points_of-part.result.now / point_length ≡ length (stem_points (stem c.args.file.now)) / point_length =
    ap (λ (l : List ℕ). length l / point_length) c.points_of-part.ensures
    in
    let a = c.args in
    again_readings a.file.now _ (sym c.in_ok-gauge.ensures) (length a.readings.now) (length a.radii.now) (length a.room.now) (λ e. c.if-readings-count.true (e ∙ sym part_is))

pub returns-then-room-file-clause-number : goal.returns-then-room-file-clause-number
returns-then-room-file-clause-number c =
    let part_is : length c.points_of-part.result.now / point_length ≡ length (stem_points (stem c.args.file.now)) / point_length =
    ap (λ (l : List ℕ). length l / point_length) c.points_of-part.ensures
    in
    let a = c.args in
    again_short a.file.now _ (sym c.in_ok-gauge.ensures) (length a.readings.now) (length a.radii.now) (length a.room.now) (c.if-readings-count.false ∙ part_is) (c.if-radii-count.false ∙ part_is) c.if-room-file.true

pub returns : goal.returns
returns c =
    let are : AreBytes c.args.file.now =
    λ i. omega (arith, c.type_inv.file i)
    in
    let part_is : length c.points_of-part.result.now / point_length ≡ length (stem_points (stem c.args.file.now)) / point_length =
    ap (λ (l : List ℕ). length l / point_length) c.points_of-part.ensures
    in
    let a = c.args in
    let x = c.if-readings-count.false ∙ part_is in
    let r = c.if-radii-count.false ∙ part_is in
    let same : length c.take_points.new.readings ≡ length c.take_points.new.radii = omega (arith, x, r) in
    let taken = sym (ap points_in c.points_of-part.ensures) ∙ c.take_points.ensures in
    let w = written_back a.file.now _ (sym c.in_ok-gauge.ensures) _ _ a.room.now _ _ (length a.readings.now) (length a.radii.now) are same x r c.if-room-file.false taken c.write_stem.ensures in record {
      number = w.1;
      room = w.2;
      taken = λ z. taken;
      kept = λ h. absurd (h refl);
    }

pub returns-in_err-write_stem : goal.returns-in_err-write_stem
returns-in_err-write_stem c =
    let bytes : AreBytes c.args.file.now =
    λ i. omega (arith, c.type_inv.file i)
    in
    let part_is : length c.points_of-part.result.now / point_length ≡ length (stem_points (stem c.args.file.now)) / point_length =
    ap (λ (l : List ℕ). length l / point_length) c.points_of-part.ensures
    in
    let a = c.args in
    let x = c.if-readings-count.false ∙ part_is in
    let r = c.if-radii-count.false ∙ part_is in
    let same : length c.take_points.new.readings ≡ length c.take_points.new.radii = omega (arith, x, r) in
    let taken = sym (ap points_in c.points_of-part.ensures) ∙ c.take_points.ensures in
    let w = written_back a.file.now _ (sym c.in_ok-gauge.ensures) _ _ a.room.now _ _ (length a.readings.now) (length a.radii.now) bytes same x r c.if-room-file.false taken c.write_stem.ensures in
    absurd (refusal_some _ (rw c.in_err-write_stem.was at w.0))
