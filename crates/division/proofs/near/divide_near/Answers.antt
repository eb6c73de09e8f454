-- `divide_near` meets its contract.
use Rattle.std.proofs.Common.{◌≡◌, ℕ, ◌+◌, ◌-◌, ◌*◌, ◌/◌, ◌%◌, ◌^◌, ◌<◌, ◌≤◌, ap, ◌∙◌, add-sub_of_le, arith, lit<}
use Rattle.reciprocals.specs.Reciprocal.{upper_of}
use Rattle.reciprocals.specs.declared.Quotient.{Quotient}
use Rattle.division.proofs.Digits.{shifted_le, cut_below, cut_above, joined_right, joined_more}
use Rattle.reciprocals.proofs.Upper.{upper_is}
use Rattle.division.proofs.near.divide_near.Goals.{else-places-lt32, then-places-lt32}
use Rattle.division.proofs.near.divide_near.Goals as goal

parts : {u places : ℕ} → places < 32 → u ≡ places → places < 64 → (u ≤ 32) × (u ≤ places) × (places - u ≤ 31)
parts l e h = omega arith

rests : {u places : ℕ} → 32 ≤ places → u ≡ 32 → places < 64 → (u ≤ 32) × (u ≤ places) × (places - u ≤ 31)
rests l e h = omega arith

ends : (n : ℕ) → n % 2 ^ 11 ≡ 0 → n ≡ n / 2 ^ 11 * 2 ^ 11
ends n e = omega arith

short : (n : ℕ) → n < 2 ^ 64 → n / 2 ^ 11 < 2 ^ 53
short n h = omega arith

pub digit-first-requires : goal.digit-first-requires
digit-first-requires c =
    let upper_quotient : c.upper_half-x.result.quotient ≡ (2 ^ 96 - 1 - 2 ^ 32 * c.args.b) / c.args.b =
    ap (λ (q : Quotient). q.quotient) c.upper_half-x.ensures
    in
    let x_is : c.upper_half-x.result.quotient + 2 ^ 32 ≡ 2 ^ 32 + upper_of c.args.b =
    ap (λ (n : ℕ). n + 2 ^ 32) upper_quotient ∙ upper_is c.args.b c.requires.0 c.ranges.b.fits
    in
    let upper_le : (c.if-places-lt32.upper ≤ 32) × (c.if-places-lt32.upper ≤ c.args.places) × (c.args.places - c.if-places-lt32.upper ≤ 31) =
    let p = c.requires.3 in elim c.if-places-lt32.branch [
      | then-places-lt32 w ↦ parts w.if-places-lt32.true w.upper-is p
      | else-places-lt32 w ↦ rests w.if-places-lt32.false w.upper-is p
    ]
    in
    let a = c.args in
    let is = ends a.b c.requires.2 in (
      rw (← ends a.a c.requires.1) c.ranges.a.fits,
      upper_le.0,
      lit< {m = 32} {n = 64} tt,
      shifted_le (a.a / 2 ^ 11) 53 c.if-places-lt32.upper 32 (short a.a c.ranges.a.fits) upper_le.0,
      cut_below a.b (a.b / 2 ^ 11) (c.upper_half-x.result.quotient + 2 ^ 32) is c.requires.0 c.ranges.b.fits x_is,
      cut_above a.b (a.b / 2 ^ 11) (c.upper_half-x.result.quotient + 2 ^ 32) is c.requires.0 c.ranges.b.fits x_is,
      short a.b c.ranges.b.fits,
    )

twice-small : (r m : ℕ) → r < m + m → m < 2 ^ 53 → r < 2 ^ 54
twice-small r m h l = omega arith

scaled-word : (r : ℕ) → r < 2 ^ 54 → r * 2 ^ 10 < 2 ^ 64
scaled-word r h = omega arith

pub digit-last-requires : goal.digit-last-requires
digit-last-requires c =
    let upper_quotient : c.upper_half-x.result.quotient ≡ (2 ^ 96 - 1 - 2 ^ 32 * c.args.b) / c.args.b =
    ap (λ (q : Quotient). q.quotient) c.upper_half-x.ensures
    in
    let x_is : c.upper_half-x.result.quotient + 2 ^ 32 ≡ 2 ^ 32 + upper_of c.args.b =
    ap (λ (n : ℕ). n + 2 ^ 32) upper_quotient ∙ upper_is c.args.b c.requires.0 c.ranges.b.fits
    in
    let upper_le : (c.if-places-lt32.upper ≤ 32) × (c.if-places-lt32.upper ≤ c.args.places) × (c.args.places - c.if-places-lt32.upper ≤ 31) =
    let p = c.requires.3 in elim c.if-places-lt32.branch [
      | then-places-lt32 w ↦ parts w.if-places-lt32.true w.upper-is p
      | else-places-lt32 w ↦ rests w.if-places-lt32.false w.upper-is p
    ]
    in
    let a = c.args in
    let is = ends a.b c.requires.2 in
    let m53 = short a.b c.ranges.b.fits in
    let r54 = twice-small c.digit-first.result.remainder (a.b / 2 ^ 11) c.digit-first.ensures.1 m53 in (
      scaled-word c.digit-first.result.remainder r54,
      upper_le.2,
      lit< {m = 31} {n = 64} tt,
      shifted_le c.digit-first.result.remainder 54 (a.places - c.if-places-lt32.upper) 31 r54 upper_le.2,
      cut_below a.b (a.b / 2 ^ 11) (c.upper_half-x.result.quotient + 2 ^ 32) is c.requires.0 c.ranges.b.fits x_is,
      cut_above a.b (a.b / 2 ^ 11) (c.upper_half-x.result.quotient + 2 ^ 32) is c.requires.0 c.ranges.b.fits x_is,
      m53,
    )

pub returns-then-m-rest : goal.returns-then-m-rest
returns-then-m-rest c =
    let upper_le : (c.if-places-lt32.upper ≤ 32) × (c.if-places-lt32.upper ≤ c.args.places) × (c.args.places - c.if-places-lt32.upper ≤ 31) =
    let p = c.requires.3 in elim c.if-places-lt32.branch [
      | then-places-lt32 w ↦ parts w.if-places-lt32.true w.upper-is p
      | else-places-lt32 w ↦ rests w.if-places-lt32.false w.upper-is p
    ]
    in
    let a = c.args in
    rw (← add-sub_of_le upper_le.1)
    (joined_more a.a a.b (a.b / 2 ^ 11) (a.a / 2 ^ 11) c.if-places-lt32.upper (a.places - c.if-places-lt32.upper) c.digit-first.result.quotient c.digit-first.result.remainder c.digit-last.result.quotient
    c.digit-last.result.remainder (ends a.a c.requires.1) (ends a.b c.requires.2) c.digit-first.ensures.0 c.digit-last.ensures.0 c.wrapping_add_u64-quotient.result c.wrapping_add_u64.result
    c.wrapping_add_u64-quotient.ensures.value c.wrapping_add_u64.ensures.value c.if-m-rest.true c.digit-last.ensures.1)

pub returns-else-m-rest : goal.returns-else-m-rest
returns-else-m-rest c =
    let upper_le : (c.if-places-lt32.upper ≤ 32) × (c.if-places-lt32.upper ≤ c.args.places) × (c.args.places - c.if-places-lt32.upper ≤ 31) =
    let p = c.requires.3 in elim c.if-places-lt32.branch [
      | then-places-lt32 w ↦ parts w.if-places-lt32.true w.upper-is p
      | else-places-lt32 w ↦ rests w.if-places-lt32.false w.upper-is p
    ]
    in
    let a = c.args in
    rw (← add-sub_of_le upper_le.1)
    (joined_right a.a a.b (a.b / 2 ^ 11) (a.a / 2 ^ 11) c.if-places-lt32.upper (a.places - c.if-places-lt32.upper) c.digit-first.result.quotient c.digit-first.result.remainder c.digit-last.result.quotient
    c.digit-last.result.remainder (ends a.a c.requires.1) (ends a.b c.requires.2) c.digit-first.ensures.0 c.digit-last.ensures.0 c.wrapping_add_u64-quotient.result c.wrapping_add_u64-quotient.ensures.value
    c.if-m-rest.false)
