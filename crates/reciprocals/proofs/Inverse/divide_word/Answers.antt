-- `divide_word` meets its contract.
use Rattle.std.proofs.Common.{◌≡◌, ℕ, ◌+◌, ◌*◌, ◌/◌, ◌%◌, ◌^◌, ap, ◌∙◌, add-zero, pow_pos}
use Rattle.reciprocals.proofs.Found.{plain_fits, bare_many, bare_few}
use Rattle.reciprocals.proofs.Inverse.divide_word.Goals as goal

pub overflow_add-whole : goal.overflow_add-whole
overflow_add-whole c =
    let a = c.args in
    record { fits = rw c.high.ensures (plain_fits a.self.divisor a.self.reciprocal a.hi 0 c.args.self.top c.args.self.word c.args.self.is c.requires (pow_pos 64)) }

pub returns-then-fraction-rest : goal.returns-then-fraction-rest
returns-then-fraction-rest c =
    let next_is : c.wrapping_add_u64-next.result ≡ (c.args.hi * c.args.self.reciprocal / 2 ^ 64 + c.args.hi + 1) % 2 ^ 64 =
    c.wrapping_add_u64-next.ensures.value ∙ ap (λ (m : ℕ). (m + c.args.hi + 1) % 2 ^ 64) c.high.ensures
    in
    let a = c.args in
    let f = rw c.low-fraction.ensures at c.if-fraction-rest.true in
    rw (c.high.ensures, c.wrapping_add_u64.ensures.value, ← add-zero (a.hi * 2 ^ 64))
    (bare_many a.self.divisor a.self.reciprocal a.hi c.args.self.top c.args.self.word c.args.self.is c.requires c.wrapping_add_u64-next.result c.low.result c.wrapping_sub_u64-rest.result (next_is)
    c.low.ensures c.wrapping_sub_u64-rest.ensures.value c.wrapping_sub_u64-rest.type_inv f)

pub returns-else-fraction-rest : goal.returns-else-fraction-rest
returns-else-fraction-rest c =
    let next_is : c.wrapping_add_u64-next.result ≡ (c.args.hi * c.args.self.reciprocal / 2 ^ 64 + c.args.hi + 1) % 2 ^ 64 =
    c.wrapping_add_u64-next.ensures.value ∙ ap (λ (m : ℕ). (m + c.args.hi + 1) % 2 ^ 64) c.high.ensures
    in
    let a = c.args in
    let f = rw c.low-fraction.ensures at c.if-fraction-rest.false in
    rw (← add-zero (a.hi * 2 ^ 64))
    (bare_few a.self.divisor a.self.reciprocal a.hi c.args.self.top c.args.self.word c.args.self.is c.requires c.wrapping_add_u64-next.result c.low.result c.wrapping_sub_u64-rest.result (next_is)
    c.low.ensures c.wrapping_sub_u64-rest.ensures.value c.wrapping_sub_u64-rest.type_inv f)
