-- The bytes of the points before a place, and of one more. Assumes nothing.
use mathlib.Core.Path.{◌≡◌, refl, sym, ap, ◌∙◌}
use mathlib.Core.List.{List, [], ◌∷◌, ◌++◌}
use Prim.Native.Nat.{ℕ, zero, suc, ◌*◌, ◌≤◌, ◌<◌}
use native.Mathlib.Omega.{arith}
use lib.ListN.{length, get_or, take}
use lib.Seq.{length-take-le, take_all}
use Rattle.definitions.specs.Bytes.{bytes_of}
use Rattle.definitions.specs.Stem.{point_length}
use Rattle.definitions.specs.StemWriter.{points_of, point_bytes}
use Rattle.laws.proofs.StemWriter.{length_points, length_pairs}

abbrev pub before : List ℕ → List ℕ → ℕ → List ℕ
before readings radii i = point_bytes (points_of (take i readings) (take i radii))

pub before_more : (readings radii : List ℕ) → length readings ≡ length radii → (i : ℕ) → i < length readings
    → before readings radii i ++ (bytes_of 8 (get_or readings i 0) ++ bytes_of 8 (get_or radii i 0)) ≡ before readings radii (suc i)
before_more [] radii e i h = absurd (omega arith)
before_more (x ∷ readings) [] e i h = absurd (omega (arith, e))
before_more (x ∷ readings) (r ∷ radii) e zero h = refl
before_more (x ∷ readings) (r ∷ radii) e (suc i) h =
    ap (λ (l : List ℕ). bytes_of 8 x ++ (bytes_of 8 r ++ l)) (before_more readings radii (omega (arith, e)) i (omega (arith, h)))

module _ (readings radii : List ℕ) (same : length readings ≡ length radii) where
  pub length_before : (i : ℕ) → i ≤ length readings → length (before readings radii i) ≡ point_length * i
  length_before i h =
      let xs : length (take i readings) ≡ i = length-take-le i readings h in
      let rs : length (take i radii) ≡ i = length-take-le i radii (omega (arith, same)) in
      length_points (points_of (take i readings) (take i radii)) ∙ ap (λ (n : ℕ). point_length * n) (length_pairs (take i readings) (take i radii) (xs ∙ sym rs) ∙ xs)

  pub before_all : before readings radii (length readings) ≡ point_bytes (points_of readings radii)
  before_all = rw (take_all (length readings) readings (omega arith), take_all (length readings) radii (omega (arith, same)))
