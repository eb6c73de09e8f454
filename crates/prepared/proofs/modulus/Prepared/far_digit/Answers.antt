-- `far_digit` meets its contract: the product loses whole divisors, and its left-over is shifted.
use Rattle.std.proofs.Common.{◌≡◌, ℕ, ◌+◌, ◌*◌, ◌/◌, ◌%◌, ◌^◌, ◌<◌, sym, ap, ◌∙◌, lt_of_lt_of_le, mul_comm, arith, lit<, pow_pos}
use native.Mathlib.Nat.{mul-add-mod_self_right}
use Rattle.digits.proofs.Common.{mod_times}
use Rattle.division.proofs.Digits.{shifted_le}
use Rattle.prepared.proofs.Shown.{shows_same}
use Rattle.prepared.proofs.modulus.Prepared.far_digit.Goals as goal

-- its halves, which the code joins
halves : (n hi lo : ℕ) → hi ≡ n / 2 ^ 64 → lo ≡ n % 2 ^ 64 → hi * 2 ^ 12 + lo / 2 ^ 52 ≡ n / 2 ^ 52
halves n hi lo eh el = omega arith

rest_small_go : (r m l : ℕ) → r < m + m → m < 2 ^ 53 → r + l % 2 ^ 52 < 2 ^ 55
rest_small_go r m l h w = omega arith

rest_is_go : (n w r l : ℕ) → w + r ≡ n / 2 ^ 52 * 2 ^ 52 → l ≡ n % 2 ^ 64 → w + (r + l % 2 ^ 52) ≡ n
rest_is_go n w r l e f = omega arith

pub digit-requires : goal.digit-requires
digit-requires c =
    let rest : ℕ =
    c.digit-first.result.remainder + c.low-lower.result % 2 ^ 52
    in
    let divisor : ℕ =
    c.args.self.significand
    in
    let rest_small : rest < 2 ^ 55 =
    rest_small_go c.digit-first.result.remainder divisor c.low-lower.result c.digit-first.ensures.1 c.args.self.word
    in
    let f = c.args.self in
    let l = rest_small in
    (omega arith, c.requires.3, lit< {m = 61} {n = 64} tt, shifted_le rest 55 c.args.shift 61 l c.requires.3, f.below, f.above, f.word)

-- a times what is the power modulo m
times-same : (a n p m : ℕ) → n % m ≡ p % m → a * n % m ≡ a * p % m
times-same a n p m e =
    rw (mul_comm a n, mul_comm a p) (sym (mod_times n a m) ∙ ap (λ (k : ℕ). k * a % m) e ∙ mod_times p a m)

pub returns : goal.returns
returns c =
    let divisor : ℕ =
    c.args.self.significand
    in
    let rest : ℕ =
    c.digit-first.result.remainder + c.low-lower.result % 2 ^ 52
    in
    let product : ℕ =
    c.args.a * c.args.power
    in
    let upper_is : c.high.result * 2 ^ 12 + c.low-lower.result / 2 ^ 52 ≡ product / 2 ^ 52 =
    halves product c.high.result c.low-lower.result c.high.ensures c.low-lower.ensures
    in
    let rest_is : c.digit-first.result.quotient * divisor + rest ≡ product =
    rest_is_go product (c.digit-first.result.quotient * divisor) c.digit-first.result.remainder c.low-lower.result
    (c.digit-first.ensures.0 ∙ ap (λ (k : ℕ). k * 2 ^ 52) upper_is) c.low-lower.ensures
    in
    let rest_same : rest % divisor ≡ product % divisor =
    sym (mul-add-mod_self_right c.digit-first.result.quotient divisor rest) ∙ ap (λ (k : ℕ). k % divisor) rest_is
    in
    let m = divisor in
    let some : 0 < m = lt_of_lt_of_le (pow_pos 52) c.args.self.top in (
      λ n e.
          shows_same (c.args.a * n) rest m c.args.shift c.digit.result.quotient c.digit.result.remainder some c.requires.2
          (times-same c.args.a n c.args.power m e ∙ sym rest_same) c.digit.ensures.0,
      c.digit.ensures.1,
    )
