-- [2.13] Denormal patterns, by what they stand for: a nonzero value below the least that has the leading digit, or a pseudo-denormal. Assumes nothing.
use mathlib.Core.Path.{◌≡◌, refl, sym, ap, ◌∙◌}
use mathlib.Core.Bool.{Bool, true, false, not, ◌&&◌, ◌||◌}
use Prim.Native.Nat.{ℕ, zero, suc, ◌+◌, ◌*◌, ◌/◌, ◌%◌, ◌^◌, ◌≤◌, ◌<◌}
use native.Mathlib.Nat.{mul-one, le_trans, le-mul_of_pos_right}
use native.Mathlib.Omega.{arith}
use borrow.Author.Tests.{le-ltb, lt-ltb, leb-true, leb-false}
use lib.Dec.{leb, ltb, eqb, eqb-suc-zero}
use lib.Pow.{pow_pos}
use Rattle.digits.proofs.Tests.{and_true, and_false}
use Rattle.definitions.specs.Class.{Value, finite}
use Rattle.definitions.specs.Format.{Format, Regular, top_field, field_weight, sign_weight, leading, hidden_part, fields_class, class_of, ordinary}
use Rattle.definitions.specs.Facts.{denormal}
use Rattle.definitions.specs.declared.Layout.TheVariants.{Hidden}
use Rattle.laws.proofs.Layouts.{low_read}
use Rattle.laws.proofs.Fields.{Fields, low, high, finite_fields, fields_read}
use Rattle.laws.proofs.Pattern.{field_small, rest_small}
use Rattle.laws.proofs.RoundTrip.{same_count}
use Rattle.laws.proofs.Ordinary.{hidden_ordinary}

-- a value whose field is not 0 is not below the least that has the leading digit
fields_above_lem : (f : Format) {e t j s : ℕ} → Fields f e t j s → (e ≡ 0 → ⊥) → leading f ≤ s * 2 ^ j
fields_above_lem f (low h) z = absurd (z refl)
fields_above_lem f (high {j} {t} h w g) z = le_trans g (le-mul_of_pos_right (hidden_part f.layout (leading f) + t) (pow_pos j))

-- by the fields
by_fields : (f : Format) → Regular f → (n : Bool) (e t : ℕ) (v : Value) → fields_class f.layout f n e t ≡ finite v → e < top_field f + 1 → t < field_weight f
    → eqb e 0 && not (eqb t 0) ≡ not (eqb v.count 0) && (ltb v.count (leading f) || not (not (eqb e 0 && leb (leading f) t)))
by_fields f r n zero t v c small below =
    let k : t ≡ v.count = sym (mul-one t) ∙ same_count (record { negative = n; count = t * 2 ^ 0 }) v (sym (low_read f.layout f n t) ∙ c) in
    rw (← k) (go (leb (leading f) t) refl)
  where
    go : (b : Bool) → leb (leading f) t ≡ b → not (eqb t 0) ≡ not (eqb t 0) && (ltb t (leading f) || not (not b))
    go true e = rw (le-ltb t (leading f) (leb-true (leading f) t e)) (sym (and_true (not (eqb t 0))))
    go false e = rw (lt-ltb t (leading f) (leb-false (leading f) t e)) (sym (and_true (not (eqb t 0))))
by_fields f r n (suc j) t v c small below =
    let s = finite_fields f r n (suc j) t v c small below in
    let k = same_count (record { negative = n; count = s.significand * 2 ^ s.dropped }) v (sym (s.same ∙ fields_read f n s.fields) ∙ c) in
    let o = s.own (λ z. absurd (omega (arith, z))) in
    let l = fields_above_lem f s.fields (λ z. omega (arith, z, o)) in
    rw (eqb-suc-zero j, le-ltb v.count (leading f) (rw (← k) l)) (sym (and_false (not (eqb v.count 0))))

-- a finite pattern is denormal exactly if its value is not zero, and is below the least with a leading digit or has one beside the field 0
pub denormal_finite : (f : Format) → Regular f → (b : ℕ) (v : Value) → class_of f b ≡ finite v
    → denormal f b ≡ not (eqb v.count 0) && (ltb v.count (leading f) || not (ordinary f b))
unfolding denormal class_of ordinary
denormal_finite f r b v e =
    by_fields f r (leb (sign_weight f) b) (b / field_weight f % (top_field f + 1)) (b % field_weight f) v e (field_small f b) (rest_small f b)

-- in an interchange format: exactly if its value is not zero and below the smallest normal one
pub denormal_hidden : (f : Format) → Regular f → f.layout ≡ Hidden → (b : ℕ) (v : Value) → class_of f b ≡ finite v
    → denormal f b ≡ not (eqb v.count 0) && ltb v.count (leading f)
denormal_hidden f r h b v e = denormal_finite f r b v e ∙ rw (hidden_ordinary f h b) (ap (λ t. not (eqb v.count 0) && t) (or_false (ltb v.count (leading f))))
  where
    or_false : (t : Bool) → t || false ≡ t
    or_false true = refl
    or_false false = refl

-- and no other pattern is denormal: no infinity, no NaN, no unnormal
pub denormal_others : (f : Format) (b : ℕ) → ((v : Value) → class_of f b ≡ finite v → ⊥) → denormal f b ≡ false
unfolding denormal class_of
denormal_others f b never = go (b / field_weight f % (top_field f + 1)) refl
  where
    t : ℕ
    t = b % field_weight f

    n : Bool
    n = leb (sign_weight f) b

    go : (e : ℕ) → b / field_weight f % (top_field f + 1) ≡ e → eqb e 0 && not (eqb t 0) ≡ false
    go zero z = absurd (never (record { negative = n; count = t * 2 ^ 0 }) (ap (λ (e : ℕ). fields_class f.layout f n e t) z ∙ low_read f.layout f n t))
    go (suc j) z = rw (eqb-suc-zero j)
