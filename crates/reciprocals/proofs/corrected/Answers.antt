-- `corrected` meets its contract: the two corrections, in each of the four ways.
use Rattle.std.proofs.Common.{◌≡◌, ◌+◌, ◌%◌, ◌^◌, ◌∙◌, arith}
use Rattle.reciprocals.proofs.Quotients.{many_right, many_wrong, few_right, few_wrong}
use Rattle.reciprocals.proofs.corrected.Goals.{else-fraction-rest, then-fraction-rest}
use Rattle.reciprocals.proofs.corrected.Goals as goal

pub returns-then-d-remainder : goal.returns-then-d-remainder
returns-then-d-remainder c n g =
    let a = c.args in
    let k = c.if-fraction-rest in
    let t = c.if-d-remainder.true in
    elim k.branch [
      | then-fraction-rest w ↦ let e : k.remainder ≡ (a.rest + a.d) % 2 ^ 64 = w.remainder-is ∙ w.wrapping_add_u64-remainder.ensures.value in
          rw (c.wrapping_add_u64-quotient-then-d-remainder.ensures.value, w.quotient-is, e) (many_wrong (2 ^ 64) n a.d a.whole a.fraction a.rest g w.if-fraction-rest.true (omega arith))
      | else-fraction-rest w ↦ let f : k.quotient ≡ (a.whole + 1) % 2 ^ 64 = w.quotient-is ∙ c.wrapping_add_u64-quotient.ensures.value in
          rw (c.wrapping_add_u64-quotient-then-d-remainder.ensures.value, f, w.remainder-is) (few_wrong (2 ^ 64) n a.d a.whole a.fraction a.rest g (omega arith) w.if-fraction-rest.false (omega arith))
    ]

pub returns-else-d-remainder : goal.returns-else-d-remainder
returns-else-d-remainder c n g =
    let a = c.args in
    let k = c.if-fraction-rest in
    let t = c.if-d-remainder.false in
    elim k.branch [
      | then-fraction-rest w ↦ let e : k.remainder ≡ (a.rest + a.d) % 2 ^ 64 = w.remainder-is ∙ w.wrapping_add_u64-remainder.ensures.value in
          rw (w.quotient-is, e) (many_right (2 ^ 64) n a.d a.whole a.fraction a.rest g w.if-fraction-rest.true (omega arith))
      | else-fraction-rest w ↦ let f : k.quotient ≡ (a.whole + 1) % 2 ^ 64 = w.quotient-is ∙ c.wrapping_add_u64-quotient.ensures.value in
          rw (f, w.remainder-is) (few_right (2 ^ 64) n a.d a.whole a.fraction a.rest g w.if-fraction-rest.false (omega arith))
    ]
