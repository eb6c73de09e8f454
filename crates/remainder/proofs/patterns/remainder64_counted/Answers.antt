-- `remainder64_counted` meets its contract: two normal numbers by their own ways, and any two patterns by the general one.
use mathlib.Core.Path.{◌≡◌, sym, ◌∙◌}
use Prim.Native.Nat.{ℕ, ◌+◌, ◌/◌, ◌≤◌}
use Rattle.definitions.specs.Format.{binary64, class_of}
use Rattle.pairs.specs.Divisions.{divisions, gap_of}
use Rattle.pairs.proofs.Divisions.{few_divisions}
use Rattle.quick.proofs.Fields.{fields, dividend, divisor, below, dividend_below, divisor_above}
use Rattle.remainder.proofs.OfPatterns.{normals_told}
use Rattle.remainder.proofs.patterns.remainder64_counted.Goals as goal

few : (x y n : ℕ) → n ≡ divisions binary64 x y → n ≤ gap_of (class_of binary64 x) (class_of binary64 y) / 11 + 2
few x y n e = rw e (few_divisions binary64 x y)

pub returns-then-is_kept : goal.returns-then-is_kept
returns-then-is_kept c =
    let x = c.args.x.0 in
    let y = c.args.y.0 in
    let t = c.told_counted in
    let q = c.remainder_kept in
    let f = below c.args.kind x y (sym c.is_kept.ensures ∙ c.if-is_kept.true) in
    let k = normals_told binary64 c.args.kind x y (dividend_below c.args.kind x y f) (divisor_above c.args.kind x y f) q.result.value t.result.value t.ensures.answer t.ensures.denormal q.ensures.answer in
    let d = t.ensures.divisions ∙ q.ensures.divisions in
    record { answer = k.0; denormal = k.1; divisions = d; few = few x y _ d }

pub returns-then-is_below-clause-few : goal.returns-then-is_below-clause-few
returns-then-is_below-clause-few c = few _ _ _ c.remainder64_general.ensures.divisions

pub returns-then-is_common : goal.returns-then-is_common
returns-then-is_common c =
    let x = c.args.x.0 in
    let y = c.args.y.0 in
    let t = c.told_counted-then-is_common in
    let q = c.remainder_common in
    let f = fields x y (sym c.is_common.ensures ∙ c.if-is_common.true) in
    let k = normals_told binary64 c.args.kind x y (dividend x y f) (divisor x y f) q.result.value t.result.value t.ensures.answer t.ensures.denormal q.ensures.answer in
    let d = t.ensures.divisions ∙ q.ensures.divisions in
    record { answer = k.0; denormal = k.1; divisions = d; few = few x y _ d }

pub returns-clause-few : goal.returns-clause-few
returns-clause-few c = few _ _ _ c.remainder64_general-2.ensures.divisions
