-- `divide_half` meets its contract.
use Rattle.std.proofs.Common.{◌≡◌, ℕ, ◌+◌, ◌*◌, ◌%◌, ◌^◌, ◌<◌, refl, ap, ◌∙◌, inl, inr, lit≤, pow_pos}
use Rattle.reciprocals.specs.Reciprocal.{upper_of}
use Rattle.reciprocals.proofs.Found.{found, carried, half_word}
use Rattle.reciprocals.proofs.divide_half.Goals.{else-fraction-lo, then-fraction-lo}
use Rattle.reciprocals.proofs.divide_half.Goals as goal

pub returns : goal.returns
returns c =
    let fraction_is : c.wrapping_add_u64-fraction.result ≡ (c.args.hi * c.args.x % 2 ^ 64 + c.args.lo) % 2 ^ 64 =
    c.wrapping_add_u64-fraction.ensures.value ∙ ap (λ (m : ℕ). (m + c.args.lo) % 2 ^ 64) c.low.ensures
    in
    let a = c.args in
    let f = c.wrapping_add_u64-fraction.result in
    let k = c.if-fraction-lo in
    let r = c.wrapping_sub_u64-rest in
    let l : a.lo < 2 ^ 64 = c.ranges.lo.fits in
    let sum : a.hi * (2 ^ 32 + upper_of a.d) + a.lo ≡ k.whole * 2 ^ 64 + f =
    rw (← c.requires.3)
    (carried (a.hi * a.x) a.lo f (fraction_is) l k.whole
    (elim k.branch [
      | then-fraction-lo w ↦ inl (w.if-fraction-lo.true, w.whole-is ∙ rw c.high-whole.ensures)
      | else-fraction-lo w ↦ inr (w.if-fraction-lo.false, w.whole-is ∙ c.high-whole.ensures)
    ]))
    in
    c.corrected.ensures (a.hi * 2 ^ 32 + a.lo)
    (found (2 ^ 32) a.d (upper_of a.d) a.hi a.lo k.whole f c.requires.2 c.ranges.d.fits (pow_pos 32) (lit≤ {m = 2 ^ 32} {n = 2 ^ 64} tt) refl c.requires.0 c.requires.1 sum
    c.wrapping_add_u64-fraction.type_inv c.wrapping_add_u64.result c.low-2.result r.result
    c.wrapping_add_u64.ensures.value c.low-2.ensures (r.ensures.value ∙ half_word a.hi a.lo c.requires.1) r.type_inv)
