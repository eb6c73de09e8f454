-- What holds after the first i places of a list, and one place more. Assumes nothing.
use mathlib.Core.Path.{◌≡◌, refl, sym, ap, ◌∙◌}
use mathlib.Core.List.{List}
use Prim.Native.Nat.{ℕ, ◌+◌, ◌≤◌, ◌<◌, zero-le}
use native.Mathlib.Numerals.{add-one}
use native.Mathlib.Omega.{arith}
use lib.ListN.{length, get_or, set, take, length-set}
use lib.Seq.{take_all}
use Rattle.definitions.specs.Fold.{result_at, byte_at, bad_places}
use Rattle.definitions.specs.declared.Kind.{Kind}
use Rattle.places.specs.Places.{place_at}
use Rattle.fold.specs.Filled.{Filled}
use Rattle.places.specs.declared.Place.{Place}
use Rattle.fold.proofs.Front.{front, front_more, front_all, count_marked, count_unmarked}

module _ (κ : Kind) (y : ℕ) (xs results₀ quotients₀ : List ℕ) where
  pub record Passed (results quotients : List ℕ) (marked i : ℕ) : Type 0 where
    pub within : i ≤ length xs
    pub values : results ≡ front (result_at κ y) xs results₀ i
    pub bytes : quotients ≡ front (byte_at κ y) xs quotients₀ i
    pub count : marked ≡ bad_places (take i xs)
    pub few : marked ≤ i
    pub as_many_results : length results ≡ length xs
    pub as_many_quotients : length quotients ≡ length xs

  module _ (er : length results₀ ≡ length xs) (eq : length quotients₀ ≡ length xs) where
    pub none_passed : Passed results₀ quotients₀ 0 0
    unfolding bad_places
    none_passed = record { within = zero-le; values = refl; bytes = refl; count = refl; few = zero-le; as_many_results = er; as_many_quotients = eq }

    pub all_passed : (results quotients : List ℕ) (marked i : ℕ) → Passed results quotients marked i → i ≡ length xs → Filled κ y xs results quotients marked
    all_passed results quotients marked i p e =
        record {
          values = p.values ∙ front_all (result_at κ y) xs results₀ i e er;
          bytes = p.bytes ∙ front_all (byte_at κ y) xs quotients₀ i e eq;
          count = p.count ∙ ap bad_places (take_all i xs (let h = p.within in omega arith));
        }

    -- a place that is written, with its count
    module _ (results quotients : List ℕ) (marked i : ℕ) (p : Passed results quotients marked i) (h : i < length xs) (place : Place) (is : place ≡ place_at κ y (get_or xs i 0)) where
      more : (marked' : ℕ) → marked' ≡ bad_places (take (i + 1) xs) → marked' ≤ i + 1 → Passed (set results i place.value) (set quotients i place.byte) marked' (i + 1)
      more marked' count few =
          record {
            within = omega arith;
            values = rw (add-one i, is, p.values) (front_more (result_at κ y) xs results₀ i h er);
            bytes = rw (add-one i, is, p.bytes) (front_more (byte_at κ y) xs quotients₀ i h eq);
            count = count;
            few = few;
            as_many_results = simp length-set p.as_many_results;
            as_many_quotients = simp length-set p.as_many_quotients;
          }

      byte_is : place.byte ≡ byte_at κ y (get_or xs i 0)
      byte_is = ap (λ (q : Place). q.byte) is

      pub marked_more : place.byte ≡ 255 → Passed (set results i place.value) (set quotients i place.byte) (marked + 1) (i + 1)
      marked_more b = more (marked + 1) (count_marked κ y xs i marked h p.count (sym byte_is ∙ b)) (let f = p.few in omega arith)

      pub unmarked_more : (place.byte ≡ 255 → ⊥) → Passed (set results i place.value) (set quotients i place.byte) marked (i + 1)
      unmarked_more b = more marked (count_unmarked κ y xs i marked h p.count (λ e. b (byte_is ∙ e))) (let f = p.few in omega arith)
