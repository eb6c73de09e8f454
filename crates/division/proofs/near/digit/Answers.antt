-- `digit` meets its contract.
use Rattle.std.proofs.Common.{◌≡◌, ℕ, ◌+◌, ◌-◌, ◌*◌, ◌/◌, ◌%◌, ◌^◌, ◌<◌, ◌≤◌, refl, ap, ◌∙◌, add-sub_of_le, arith, pow_pos}
use Rattle.division.proofs.Digits.{near_le, near_lt, scaled, unwrapped}
use Rattle.division.proofs.near.digit.Goals as goal

left-under : (n p m : ℕ) → p ≤ n → n < p + m + m → n - p < m + m
left-under n p m l h = omega arith

small_word : (left m : ℕ) → left < m + m → m < 2 ^ 53 → left < 2 ^ 64
small_word left m l h = omega arith

pub returns : goal.returns
returns c =
    let a = c.args in
    let n = a.n * 2 ^ a.shift in
    let q = n * a.x / 2 ^ (64 + a.reach) in
    let eq : c.high.result / 2 ^ (a.reach + a.spare - a.shift) ≡ q =
    ap (λ (k : ℕ). k / 2 ^ (a.reach + a.spare - a.shift)) c.high.ensures ∙ scaled a.n a.x a.spare a.shift a.reach c.requires.0 c.requires.1
    in
    let le = near_le (2 ^ (64 + a.reach)) a.x a.m n c.requires.4 c.requires.5 c.requires.3 (pow_pos (64 + a.reach)) in
    let lt = near_lt (2 ^ (64 + a.reach)) a.x a.m n c.requires.4 c.requires.5 c.requires.3 (pow_pos (64 + a.reach)) in
    let left = n - q * a.m in
    let is : q * a.m + left ≡ n = add-sub_of_le le in
    let under : left < a.m + a.m = left-under n (q * a.m) a.m le lt in
    let t : c.low.result ≡ q * a.m % 2 ^ 64 = c.low.ensures ∙ ap (λ (k : ℕ). k * a.m % 2 ^ 64) eq in
    let r : c.wrapping_sub_u64.result ≡ left =
    unwrapped c.wrapping_sub_u64.result c.low.result (n % 2 ^ 64) (q * a.m) n left c.wrapping_sub_u64.ensures.value t refl is (small_word left a.m under c.requires.6)
    c.wrapping_sub_u64.type_inv
    in
    rw (eq, r) (is, under)
