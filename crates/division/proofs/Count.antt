-- The count of the divisions: its cases, and D / 11 + 2 over all of them. Assumes nothing.
use Rattle.std.proofs.Common.{◌≡◌, ℕ, ◌+◌, ◌-◌, ◌/◌, ◌%◌, ◌^◌, ◌<◌, ◌≤◌, Bool, true, false, cond, ◌&&◌, eqb, ltb, refl, ⊎_elim, arith, ltb-true, le-ltb, lt-ltb, eq-eqb, ne_eqb, eqb-true}
use borrow.Author.Tests.{eqb-false}
use Rattle.digits.proofs.Tests.{and_both}
use Rattle.reciprocals.proofs.Quotients.{side}
use Rattle.division.specs.Divisions.{squarings_of, turns_of, near_of, divisions_of}
use Rattle.division.proofs.Squares.{squarings_small}
use Rattle.division.proofs.Zeros.{trailing_mod, trailing_most, fewer_mod}
use lib.Count.{count_trailing_zeros}

-- what is near: each of its tests
pub near_all : (a b places : ℕ) → near_of a b places ≡ true → (a % 2 ^ 11 ≡ 0) × (b % 2 ^ 11 ≡ 0) × (places < 64)
near_all a b places e =
    let s = and_both (ltb places 64 && eqb (a % 2 ^ 11) 0) (eqb (b % 2 ^ 11) 0) e in
    let t = and_both (ltb places 64) (eqb (a % 2 ^ 11) 0) s.0 in
    (eqb-true (a % 2 ^ 11) 0 t.1, eqb-true (b % 2 ^ 11) 0 s.1, ltb-true places 64 t.0)

module _ (a b places : ℕ) (some : 0 < b) (word : b < 2 ^ 64) where
  pub counted_once : places ≤ count_trailing_zeros 64 b → 1 ≡ divisions_of a b places
  unfolding divisions_of
  counted_once h = rw (eq-eqb (b % 2 ^ places) 0 (trailing_mod b places h))

  more : count_trailing_zeros 64 b < places → eqb (b % 2 ^ places) 0 ≡ false
  more h = ne_eqb (b % 2 ^ places) 0 (λ (e : b % 2 ^ places ≡ 0). let l = trailing_most b places some word e in let z : ⊥ = omega arith in z)

  pub counted_near : count_trailing_zeros 64 b < places → near_of a b places ≡ true → 3 ≡ divisions_of a b places
  unfolding divisions_of
  counted_near h e = rw (more h, e)

  pub counted_turns : count_trailing_zeros 64 b < places → near_of a b places ≡ false → 1 + turns_of places ≡ divisions_of a b places
  unfolding divisions_of
  counted_turns h e = rw (more h, e)

-- the turns, by the places
module _ (places : ℕ) where
  pub turns_one : places < 64 → turns_of places ≡ 1
  unfolding turns_of
  turns_one h = rw (lt-ltb places 64 h)

  pub turns_two : 64 ≤ places → places < 128 → turns_of places ≡ 2
  unfolding turns_of
  turns_two l h = rw (le-ltb places 64 l, lt-ltb places 128 h)

  pub turns_far : 128 ≤ places → turns_of places ≡ 3 + squarings_of (places - places % 64 - 64)
  unfolding turns_of
  turns_far l = rw (le-ltb places 64 (omega arith), le-ltb places 128 l)

  turns_bounded : 1 + turns_of places ≤ places / 11 + 2
  turns_bounded =
      ⊎_elim
      (λ (h : places < 128). ⊎_elim (λ (g : places < 64). rw (turns_one g) (omega arith)) (λ (l : 64 ≤ places). rw (turns_two l h) (omega arith)) (side places 64))
      (λ (l : 128 ≤ places). let f = squarings_small (places - places % 64 - 64) (omega arith) in rw (turns_far l) (omega arith))
      (side places 128)

-- at most one division for every eleven places, and two
pub divisions_bounded : (a b places : ℕ) → divisions_of a b places ≤ places / 11 + 2
unfolding divisions_of
divisions_bounded a b places = go (eqb (b % 2 ^ places) 0) (near_of a b places) refl refl
  where
    go : (once near : Bool) → eqb (b % 2 ^ places) 0 ≡ once → near_of a b places ≡ near → cond once 1 (cond near 3 (1 + turns_of places)) ≤ places / 11 + 2
    go true near e f = omega arith
    go false false e f = turns_bounded places
    go false true e f =
        ⊎_elim (λ (h : 11 < places). omega arith) (λ (h : places ≤ 11). absurd (eqb-false (b % 2 ^ places) 0 e (fewer_mod b places 11 h (near_all a b places f).1))) (side 11 places)
