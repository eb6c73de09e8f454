-- `divide_turns` meets its contract.
use Rattle.std.proofs.Common.{◌≡◌, ℕ, ◌+◌, ◌-◌, ◌*◌, ◌%◌, ◌^◌, ◌<◌, ◌≤◌, sym, ap, ◌∙◌, lt_of_lt_of_le, mod-eq_of_lt, arith, pow_pos}
use Rattle.reciprocals.specs.Reciprocal.{quotient_of}
use Rattle.reciprocals.specs.declared.Quotient.{Quotient}
use Rattle.division.specs.Divisions.{turns_of}
use Rattle.division.specs.Divided.{low_of}
use Rattle.division.proofs.Count.{turns_one, turns_two, turns_far}
use Rattle.division.proofs.Places.{first_word, last_word}
use Rattle.division.proofs.Squares.{rest_is, squarings_few}
use Rattle.division.proofs.turns.divide_turns.Goals.{else-places-ge128, then-places-ge128}
use Rattle.division.proofs.turns.divide_turns.Goals as goal

pub returns-then-places-lt64 : goal.returns-then-places-lt64
returns-then-places-lt64 c =
    let a = c.args in
    let few : a.places < 64 = omega (arith, c.if-places-lt64.true) in
    let is = (rw c.new-inverse.ensures at c.divide_words-first.ensures) ∙ first_word a.a a.b a.places ∙ ap (λ (s : ℕ). quotient_of (a.a * 2 ^ s) a.b) (mod-eq_of_lt few) in record {
      divided = c.from.ensures ∙ ap low_of is;
      divisions = ap (λ (n : ℕ). 1 + n) (sym (turns_one a.places few));
    }

pub overflow_add-divisions : goal.overflow_add-divisions
overflow_add-divisions c =
    let few_squarings : c.power_of_two-between.result.divisions ≤ 26 =
    squarings_few c.power_of_two-between.ensures.divisions (omega (arith, c.ranges.places.fits))
    in
    record { fits = omega (arith, few_squarings) }

pub overflow_add-divisions-then-places-ge128 : goal.overflow_add-divisions-then-places-ge128
overflow_add-divisions-then-places-ge128 c =
    let few_squarings : c.power_of_two-between.result.divisions ≤ 26 =
    squarings_few c.power_of_two-between.ensures.divisions (omega (arith, c.ranges.places.fits))
    in
    record { fits = omega (arith, few_squarings) }

-- the places of the first turn and of the power are all but the last 64
with-power : (p : ℕ) → 128 ≤ p → p % 64 + (p - p % 64 - 64) ≡ p - 64
with-power p h = omega arith

with_none : (p : ℕ) → 64 ≤ p → p < 128 → p % 64 ≡ p - 64
with_none p l h = omega arith

pub returns : goal.returns
returns c =
    let a = c.args in
    let p = a.places in
    let more : 64 ≤ p = omega (arith, c.if-places-lt64.false) in
    let first = ap (λ (q : Quotient). q.remainder) ((rw c.new-inverse.ensures at c.divide_words-first.ensures) ∙ first_word a.a a.b p) in
    let rest : c.if-places-ge128.rest ≡ a.a * 2 ^ (p - 64) % a.b =
    elim c.if-places-ge128.branch [
      | then-places-ge128 w ↦ w.rest-is ∙ (rw c.new-inverse.ensures at w.multiplied-rest.ensures) ∙ rest_is a.a a.b (p % 64) (p - p % 64 - 64) w.power_of_two-between.result.value c.divide_words-first.result.remainder (rw c.new-inverse.ensures at w.power_of_two-between.ensures.power.1) first
          ∙ ap (λ (e : ℕ). a.a * 2 ^ e % a.b) (with-power p (omega (arith, w.if-places-ge128.true)))
      | else-places-ge128 w ↦ w.rest-is ∙ first ∙ ap (λ (e : ℕ). a.a * 2 ^ e % a.b) (with_none p more (omega (arith, w.if-places-ge128.false)))
    ]
    in
    let divisions : c.if-places-ge128.divisions ≡ 1 + turns_of p =
    elim c.if-places-ge128.branch [
      | then-places-ge128 w ↦ omega (arith, w.divisions-is, w.power_of_two-between.ensures.divisions, turns_far p (omega (arith, w.if-places-ge128.true)))
      | else-places-ge128 w ↦ omega (arith, w.divisions-is, turns_two p more (omega (arith, w.if-places-ge128.false)))
    ]
    in record {
      divided = c.from-2.ensures ∙ ap low_of (rw c.new-inverse.ensures at c.divide_word.ensures) ∙ last_word a.a a.b p c.if-places-ge128.rest (lt_of_lt_of_le (pow_pos 63) c.requires) more rest;
      divisions = divisions;
    }
