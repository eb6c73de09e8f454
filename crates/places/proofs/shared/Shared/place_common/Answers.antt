-- `place_common` meets its contract: its calls, put together.
use mathlib.Core.Path.{◌≡◌, ap, ◌∙◌}
use mathlib.Core.Bool.{Bool, true, false}
use Prim.Native.Nat.{ℕ, ◌-◌, ◌%◌, ◌^◌, ◌<◌}
use native.Mathlib.Omega.{arith}
use lib.Dec.{leb}
use Rattle.definitions.specs.Format.{binary64}
use Rattle.definitions.specs.Division.{rounds_up}
use Rattle.definitions.specs.Remainder.{shown}
use Rattle.division.specs.declared.Divided.{Divided}
use Rattle.prepared.specs.Prepared.{shown_of}
use Rattle.quick.specs.Common.{field_of, spread_of}
use Rattle.quick.specs.Settled.{settled_of}
use Rattle.quick.specs.declared.Settled.{Settled}
use Rattle.quick.proofs.Fields.{Fields, fields}
use Rattle.quick.proofs.Scaled.{settled_answer}
use Rattle.places.proofs.OfNormals.{below, ends, normal_place}
use Rattle.places.proofs.shared.Shared.place_common.Goals as goal

missing : (r y : ℕ) → r % 2 ^ 11 ≡ 0 → r < spread_of y → (spread_of y - r) % 2 ^ 11 ≡ 0
missing r y e l = omega arith

settled_ends_go : (x : ℕ) (u : Bool) (d : Divided) (y : ℕ) → d.remainder % 2 ^ 11 ≡ 0 → d.remainder < spread_of y → (settled_of u (leb (2 ^ 63) x) d (spread_of y)).rest % 2 ^ 11 ≡ 0
settled_ends_go x true d y e l = missing d.remainder y e l
settled_ends_go x false d y e l = e

pub written-requires : goal.written-requires
written-requires c =
    let y : ℕ =
    c.args.self.now.alone.divisor.pattern
    in
    let field : ℕ =
    c.field_of-field.result
    in
    let field_is : field ≡ field_of y =
    c.field_of-field.ensures
    in
    let x : ℕ =
    c.args.x
    in
    let ordered : Fields x y =
    fields x y c.requires
    in
    let left : Divided =
    c.divide-left.result
    in
    let left_is : left ≡ shown_of (spread_of x) (spread_of y) (field_of x - field_of y) =
    c.divide-left.ensures.answer ∙ (λ i. shown_of (c.spread.ensures i) (c.args.self.now.same i) (c.field_of.ensures i - field_is i))
    in
    let decided : Bool =
    rounds_up c.args.self.now.alone.kind left.quotient left.remainder (spread_of y)
    in
    let settled_is : c.settle-settled.result ≡ settled_of decided (leb (2 ^ 63) x) left (spread_of y) =
    c.settle-settled.ensures
    ∙ (λ i. settled_of (rounds_up c.args.self.now.alone.kind left.quotient left.remainder (c.spread-2.ensures i)) (leb (2 ^ 63) x) left (c.spread-2.ensures i))
    in
    let settled_ends : c.settle-settled.result.rest % 2 ^ 11 ≡ 0 =
    rw settled_is
    (settled_ends_go x decided left y
    (ends c.args.self.now.alone.kind x y ordered left left_is)
    (below c.args.self.now.alone.kind x y ordered left left_is))
    in
    let f = ordered in
    (settled_ends, omega (arith, field_is, f.some), omega (arith, field_is, f.order, f.below_top))

pub returns-clause-place : goal.returns-clause-place
returns-clause-place c =
    let x : ℕ =
    c.args.x
    in
    let y : ℕ =
    c.args.self.now.alone.divisor.pattern
    in
    let left : Divided =
    c.divide-left.result
    in
    let field : ℕ =
    c.field_of-field.result
    in
    let field_is : field ≡ field_of y =
    c.field_of-field.ensures
    in
    let ordered : Fields x y =
    fields x y c.requires
    in
    let left_is : left ≡ shown_of (spread_of x) (spread_of y) (field_of x - field_of y) =
    c.divide-left.ensures.answer ∙ (λ i. shown_of (c.spread.ensures i) (c.args.self.now.same i) (c.field_of.ensures i - field_is i))
    in
    let decided : Bool =
    rounds_up c.args.self.now.alone.kind left.quotient left.remainder (spread_of y)
    in
    let settled_is : c.settle-settled.result ≡ settled_of decided (leb (2 ^ 63) x) left (spread_of y) =
    c.settle-settled.ensures
    ∙ (λ i. settled_of (rounds_up c.args.self.now.alone.kind left.quotient left.remainder (c.spread-2.ensures i)) (leb (2 ^ 63) x) left (c.spread-2.ensures i))
    in
    normal_place c.args.self.now.alone.kind x y ordered left left_is c.written.result c.shown_bits.result
    (c.written.ensures ∙ (λ i. (settled_answer binary64 11 (settled_is i) (field_is i)).value))
    (c.shown_bits.ensures ∙ ap (λ (t : Settled). shown t.quotient) settled_is)
