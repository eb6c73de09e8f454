-- `Prepared::new` meets its contract.
use Rattle.std.proofs.Common.{◌≡◌, ℕ, ◌+◌, ◌-◌, ◌*◌, ◌/◌, ◌%◌, ◌^◌, ◌<◌, ◌≤◌, refl, arith}
use Rattle.reciprocals.specs.Reciprocal.{reciprocal_of}
use Rattle.reciprocals.proofs.Quotients.{inverse, inverse_left}
use Rattle.prepared.proofs.Halved.{halved_below, halved_above}
use Rattle.prepared.proofs.modulus.Prepared.new.Goals as goal

-- b and its reciprocal v
module _ (b v : ℕ) (top : 2 ^ 63 ≤ b) (word : b < 2 ^ 64) (spare : b % 2 ^ 11 ≡ 0) (is : v ≡ reciprocal_of b) where
  some : 0 < b
  some = omega arith

  whole : b ≡ b / 2 ^ 11 * 2 ^ 11
  whole = omega arith

  sum : (2 ^ 64 + v) * b + ((2 ^ 64 * 2 ^ 64 - 1) % b + 1) ≡ 2 ^ 64 * 2 ^ 64
  sum = inverse (2 ^ 64) (2 ^ 64) b v word some (omega arith) is

  left : (2 ^ 64 * 2 ^ 64 - 1) % b + 1 ≤ b
  left = inverse_left (2 ^ 64) (2 ^ 64) b v word some (omega arith) is

  half : (2 ^ 64 + v) / 2 ≡ 2 ^ 63 + v / 2
  half = omega arith

  below : (2 ^ 63 + v / 2) * (b / 2 ^ 11) ≤ 2 ^ 116
  below = rw half at (halved_below (2 ^ 64 * 2 ^ 64) (2 ^ 116) (2 ^ 64 + v) b (b / 2 ^ 11) _ sum left whole refl)

  above : 2 ^ 116 ≤ (2 ^ 63 + v / 2) * (b / 2 ^ 11) + b / 2 ^ 11
  above = rw half at (halved_above (2 ^ 64 * 2 ^ 64) (2 ^ 116) (2 ^ 64 + v) b (b / 2 ^ 11) _ sum left whole refl)

pub invariant_of-result : goal.invariant_of-result
invariant_of-result c =
    let b = c.args.b in
    let v = c.reciprocal.result in
    let e = c.reciprocal.ensures in
    let w = c.ranges.b.fits in
    record {
      top = omega arith;
      word = omega arith;
      below = below b v c.requires.0 w c.requires.1 e;
      above = above b v c.requires.0 w c.requires.1 e;
    }
