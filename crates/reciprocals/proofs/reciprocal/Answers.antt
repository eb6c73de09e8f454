-- `reciprocal` meets its contract.
use Rattle.std.proofs.Common.{◌≡◌, ℕ, ◌+◌, ◌-◌, ◌*◌, ◌/◌, ◌%◌, ◌^◌, ap, ◌∙◌, mod-lt, lit<}
use Rattle.reciprocals.specs.declared.Quotient.{Quotient}
use Rattle.reciprocals.proofs.Upper.{some_d, upper_is, whole_is}
use Rattle.reciprocals.proofs.reciprocal.Goals as goal

-- what the two calls give
abbrev number : ℕ → ℕ
number d = 2 ^ 96 - 1 - 2 ^ 32 * d

pub divide_half-lower-requires : goal.divide_half-lower-requires
divide_half-lower-requires c =
    let upper_quotient : c.upper_half-upper.result.quotient ≡ number c.args.d / c.args.d =
    ap (λ (q : Quotient). q.quotient) c.upper_half-upper.ensures
    in
    let upper_remainder : c.upper_half-upper.result.remainder ≡ number c.args.d % c.args.d =
    ap (λ (q : Quotient). q.remainder) c.upper_half-upper.ensures
    in
    let d = c.args.d in (
      rw (upper_remainder) (mod-lt (number d) (some_d d c.requires c.ranges.d.fits)),
      lit< {m = 2 ^ 32 - 1} {n = 2 ^ 32} tt,
      c.requires,
      rw (upper_quotient) (upper_is d c.requires c.ranges.d.fits),
    )

pub returns : goal.returns
returns c =
    let upper_quotient : c.upper_half-upper.result.quotient ≡ number c.args.d / c.args.d =
    ap (λ (q : Quotient). q.quotient) c.upper_half-upper.ensures
    in
    let upper_remainder : c.upper_half-upper.result.remainder ≡ number c.args.d % c.args.d =
    ap (λ (q : Quotient). q.remainder) c.upper_half-upper.ensures
    in
    let lower_quotient : c.divide_half-lower.result.quotient ≡ (number c.args.d % c.args.d * 2 ^ 32 + (2 ^ 32 - 1)) / c.args.d =
    ap (λ (q : Quotient). q.quotient) c.divide_half-lower.ensures
    ∙ ap (λ (n : ℕ). (n * 2 ^ 32 + (2 ^ 32 - 1)) / c.args.d) (upper_remainder)
    in
    rw (upper_quotient, lower_quotient) (whole_is c.args.d c.requires c.ranges.d.fits)
