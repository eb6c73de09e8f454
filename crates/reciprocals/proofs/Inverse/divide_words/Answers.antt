-- `divide_words` meets its contract.
use Rattle.std.proofs.Common.{◌≡◌, ℕ, ◌+◌, ◌*◌, ◌%◌, ◌^◌, sym, ap, ◌∙◌, inl, inr, le_refl, pow_pos}
use lib.Arith.{digits_mod}
use Rattle.reciprocals.proofs.Found.{found, carried_up, plain_fits, carry_fits}
use Rattle.reciprocals.proofs.Inverse.divide_words.Goals.{else-fraction-lo, then-fraction-lo}
use Rattle.reciprocals.proofs.Inverse.divide_words.Goals as goal

pub overflow_add-whole : goal.overflow_add-whole
overflow_add-whole c =
    let a = c.args in
    record { fits = rw c.high.ensures (plain_fits a.self.divisor a.self.reciprocal a.hi a.lo c.args.self.top c.args.self.word c.args.self.is c.requires c.ranges.lo.fits) }

pub overflow_add-whole-then-fraction-lo : goal.overflow_add-whole-then-fraction-lo
overflow_add-whole-then-fraction-lo c =
    let fraction_is : c.wrapping_add_u64-fraction.result ≡ (c.args.hi * c.args.self.reciprocal % 2 ^ 64 + c.args.lo) % 2 ^ 64 =
    c.wrapping_add_u64-fraction.ensures.value ∙ ap (λ (m : ℕ). (m + c.args.lo) % 2 ^ 64) c.low.ensures
    in
    let a = c.args in
    record {
      fits =
          rw c.high.ensures
          (carry_fits a.self.divisor a.self.reciprocal a.hi a.lo c.args.self.top c.args.self.word c.args.self.is c.requires c.ranges.lo.fits c.wrapping_add_u64-fraction.result (fraction_is) c.if-fraction-lo.true);
    }

pub returns : goal.returns
returns c =
    let fraction_is : c.wrapping_add_u64-fraction.result ≡ (c.args.hi * c.args.self.reciprocal % 2 ^ 64 + c.args.lo) % 2 ^ 64 =
    c.wrapping_add_u64-fraction.ensures.value ∙ ap (λ (m : ℕ). (m + c.args.lo) % 2 ^ 64) c.low.ensures
    in
    let a = c.args in
    let f = c.wrapping_add_u64-fraction.result in
    let k = c.if-fraction-lo in
    let r = c.wrapping_sub_u64-rest in
    let sum =
    carried_up a.hi a.self.reciprocal a.lo f (fraction_is) c.ranges.lo.fits k.whole
    (elim k.branch [
      | then-fraction-lo w ↦ inl (w.if-fraction-lo.true, w.whole-is ∙ rw c.high.ensures)
      | else-fraction-lo w ↦ inr (w.if-fraction-lo.false, w.whole-is ∙ rw c.high.ensures)
    ])
    in
    c.corrected.ensures (a.hi * 2 ^ 64 + a.lo)
    (found (2 ^ 64) a.self.divisor a.self.reciprocal a.hi a.lo k.whole f c.args.self.top c.args.self.word (pow_pos 64) (le_refl (2 ^ 64)) c.args.self.is c.requires c.ranges.lo.fits sum
    c.wrapping_add_u64-fraction.type_inv c.wrapping_add_u64.result c.low-2.result r.result
    c.wrapping_add_u64.ensures.value c.low-2.ensures (r.ensures.value ∙ sym (digits_mod a.hi c.ranges.lo.fits)) r.type_inv)
