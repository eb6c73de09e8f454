-- `zk_stem_open` meets its contract: the fields of an accepted file pass floats, and a refusal writes nothing.
use mathlib.Core.Path.{◌≡◌, refl, sym, ap, ◌∙◌}
use Prim.Native.Nat.{ℕ, ◌-◌, ◌^◌, ◌≤◌, ◌<◌}
use native.Mathlib.Omega.{arith}
use lib.ListN.{length, drop, length-drop}
use Rattle.definitions.specs.Numbers.{first}
use Rattle.definitions.specs.Exports.{after}
use Rattle.definitions.specs.Stem.{header_length, file_kind, file_period, file_origin, gauge_of, judging, stem_number, stem_points}
use Rattle.definitions.specs.Bytes.{loaded}
use Rattle.gauges.specs.Held.{gauge_held, gauge_bits, fields_of}
use Rattle.gauges.specs.declared.Gauge.{Gauge}
use Rattle.gauges.specs.declared.GaugeFields.{GaugeFields}
use Rattle.laws.proofs.Stem.{passed, stem_opened, field_small}
use Rattle.stems.specs.Opened.{answer_of}
use Rattle.stems.proofs.Opened.{refused_for, told_opened, told_refused}
use Rattle.export_stems.proofs.Refusing.{kept}
use Rattle.export_stems.proofs.Handed.{fields_handed}
use Rattle.export_stems.proofs.zk_stem_open.Goals as goal

-- ---- a refused file
pub returns-in-Err : goal.returns-in-Err
returns-in-Err c =
    let a = c.args in
    let f = a.file.now in
    let t = told_refused f _ (sym c.in-Err.ensures) in
    let n = c.into.result in
    let left : (answer lent : ℕ) → lent ≡ after n answer lent = λ answer lent. kept (judging f) n answer lent refl (t.0 ∙ sym c.into.ensures) (λ z. t.1 (sym c.into.ensures ∙ z)) in record {
      number = c.into.ensures ∙ sym (ap stem_number (refused_for f c.in-Err.refusal (sym t.0)));
      kind = left _ a.kind.now;
      period = left _ a.period.now;
      origin = left _ a.origin.now;
      start = left _ a.start.now;
      count = left _ a.count.now;
    }

-- ---- an accepted one
pub returns-in-Ok : goal.returns-in-Ok
returns-in-Ok c =
    let f = c.args.file.now in
    let k = file_kind f in
    let p = file_period f in
    let q = file_origin f in
    let taken : first (judging f) ≡ 0 = told_opened f c.in-Ok.gauge (sym c.in-Ok.ensures) in
    let says = passed f taken in
    let o = stem_opened f taken in
    let held : gauge_held (gauge_of k p q) ≡ c.in-Ok.gauge =
    let e = sym (ap answer_of o) ∙ sym c.in-Ok.ensures in
    cc
    in
    let small : (at : ℕ) → at ≤ 18 → loaded 8 at f < 2 ^ 64 =
    λ at h. field_small f (λ i. omega (arith, c.type_inv.file i)) 8 at (omega (arith, says.header))
    in
    let handed =
    c.from-fields.ensures
    ∙ ap (λ (g : Gauge). fields_of (gauge_bits g)) (sym held)
    ∙ fields_handed k p q says.kind says.gauge (small 10 (omega arith)) (small 18 (omega arith))
    in
    let part : c.points_of.result.now ≡ drop header_length f = c.points_of.ensures ∙ ap stem_points o in
    let long : length c.points_of.result.now ≡ length f - header_length = ap length part ∙ length-drop header_length f in
    record {
      number = sym (ap stem_number o);
      kind = ap (λ (x : GaugeFields). x.kind) handed;
      period = ap (λ (x : GaugeFields). x.period) handed;
      origin = ap (λ (x : GaugeFields). x.origin) handed;
      start = refl;
      count = rw long (omega (arith, says.long));
    }
