-- What the code settles on is the remainder of the counts. Assumes nothing.
use Rattle.std.proofs.Common.{◌≡◌, ℕ, ◌+◌, ◌-◌, ◌*◌, ◌/◌, ◌%◌, ◌^◌, ◌<◌, Bool, true, false, cond, not, ℤ, pos, ◌+ℤ◌, sym, refl, ap, ◌∙◌, mod-lt, pos_of_ne-zero, mul-pos, arith, pow_pos}
use Rattle.digits.proofs.Common.{sub_scale}
use Rattle.definitions.specs.Class.{finite}
use Rattle.definitions.specs.Division.{rounds_up, finish_by}
use Rattle.definitions.specs.declared.Kind.{Kind}
use Rattle.definitions.specs.declared.Kind.TheVariants.{Truncated, Nearest}
use Rattle.division.specs.Divided.{divided_of}
use Rattle.operands.specs.Operand.{operand_of, normal_of}
use Rattle.operands.proofs.Normal.{normal_operand}
use Rattle.laws.proofs.Division.{up_scale}
use Rattle.pairs.specs.declared.Left.{Left}
use Rattle.pairs.specs.Pair.{left_of, settled_of}
use Rattle.pairs.proofs.Link.{link_div, link_mod}

-- the decision looks at the quotient's last digit only, which 32 bits keep
pub up_low : (κ : Kind) (q r m : ℕ) → rounds_up κ (q % 2 ^ 32) r m ≡ rounds_up κ q r m
up_low Truncated q r m = refl
up_low Nearest q r m = let e : q % 2 ^ 32 % 2 ≡ q % 2 = omega arith in rw e

module _ (κ : Kind) (s : ℤ) (neg : Bool) (n m a b k t : ℕ) (same : n * 2 ^ 63 ≡ a * 2 ^ k * 2 ^ t) (by : m * 2 ^ 63 ≡ b * 2 ^ t) (some : 0 < m) (word : b < 2 ^ 64) where
  divisor_pos : 0 < b
  divisor_pos = pos_of_ne-zero (λ e. let p = mul-pos some (pow_pos 63) in let z : m * 2 ^ 63 ≡ 0 = by ∙ rw e (omega arith) in omega arith)

  -- the same decision on the significands
  up_same : rounds_up κ (a * 2 ^ k / b % 2 ^ 32) (a * 2 ^ k % b) b ≡ rounds_up κ (n / m) (n % m) m
  up_same =
      up_low κ (a * 2 ^ k / b) (a * 2 ^ k % b) b
      ∙ ap (λ (q : ℕ). rounds_up κ q (a * 2 ^ k % b) b) (sym (link_div n m a b k t same by))
      ∙ sym (up_scale κ (n / m) (a * 2 ^ k % b) b (2 ^ t) (pow_pos t))
      ∙ (λ i. rounds_up κ (n / m) (sym (link_mod n m a b k t same by some divisor_pos) i) (sym by i))
      ∙ up_scale κ (n / m) (n % m) m (2 ^ 63) (pow_pos 63)

  rest_word : a * 2 ^ k % b < 2 ^ 64
  rest_word = let l = mod-lt (a * 2 ^ k) divisor_pos in omega arith

  low : n % m * 2 ^ 63 ≡ a * 2 ^ k % b * 2 ^ t
  low = link_mod n m a b k t same by some divisor_pos

  high : (b - a * 2 ^ k % b) * 2 ^ t ≡ (m - n % m) * 2 ^ 63
  high = sym (sub_scale b (a * 2 ^ k % b) (2 ^ t)) ∙ (λ i. sym by i - sym low i) ∙ sub_scale m (n % m) (2 ^ 63)

  pub settled : settled_of κ neg (divided_of a b k) b (s +ℤ pos t) ≡ left_of s (finish_by κ m (record { negative = neg; count = n }))
  unfolding finish_by
  settled = rw up_same (go (rounds_up κ (n / m) (n % m) m))
    where
      go : (up : Bool)
          → ◌≡◌ {A = Left} (cond up (record { value = normal_of (not neg) (b - a * 2 ^ k % b) (s +ℤ pos t); quotient = (a * 2 ^ k / b % 2 ^ 32 + 1) % 2 ^ 32 })
          (record { value = normal_of neg (a * 2 ^ k % b) (s +ℤ pos t); quotient = a * 2 ^ k / b % 2 ^ 32 }))
          (record { value = operand_of s (finite (record { negative = cond up (not neg) neg; count = cond up (m - n % m) (n % m) })); quotient = cond up (n / m + 1) (n / m) % 2 ^ 32 })
      go true =
          let e : (a * 2 ^ k / b % 2 ^ 32 + 1) % 2 ^ 32 ≡ (n / m + 1) % 2 ^ 32 = rw (link_div n m a b k t same by) (omega arith) in
          λ i. record { value = normal_operand s (not neg) (b - a * 2 ^ k % b) t (m - n % m) (omega arith) high i; quotient = e i }
      go false =
          λ i. record { value = normal_operand s neg (a * 2 ^ k % b) t (n % m) rest_word (sym low) i; quotient = ap (λ (q : ℕ). q % 2 ^ 32) (sym (link_div n m a b k t same by)) i }
