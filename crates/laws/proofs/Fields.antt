-- The exponent field and the stored significand of a finite pattern, and the significand that they stand for. Assumes nothing.
use mathlib.Core.Path.{◌≡◌, refl, sym, ◌∙◌, subst}
use mathlib.Core.Bool.{Bool, true, false, not, cond, ◌&&◌}
use Prim.Native.Nat.{ℕ, zero, suc, ◌+◌, ◌-◌, ◌*◌, ◌≤◌, ◌<◌}
use native.Mathlib.Omega.{arith}
use borrow.Author.Tests.{ne_eqb, eq-eqb, lt-leb}
use lib.Dec.{T, eqb, leb, ltb, ltb→lt, nltb→le, eqb-suc-zero}
use lib.Arith.{lt_of_le-ne}
use lib.Pow.{pow_mono}
use Rattle.digits.proofs.Tests.{clash}
use Rattle.definitions.specs.Class.{Value, finite, infinite, nan}
use Rattle.definitions.specs.Format.{Format, Regular, NanStored, top_field, leading, field_weight, hidden_part, fields_class, body, quiet, infinity}
use Rattle.laws.proofs.Representable.{Placed, leading_twice}
use Rattle.laws.proofs.Layouts.{number, weight, hidden_le, hidden_infinity, quiet_is, low_read, high_read, top_read, pseudo_read, low_body, high_body, finite_high}

-- The field e and the stored significand t of an ordinary pattern, with the significand s and the number j of dropped digits that they
-- stand for: field 0 has no leading digit and drops none, and each other one has it.
pub data Fields (f : Format) : ℕ → ℕ → ℕ → ℕ → Type 0 where
  low : {t : ℕ} → t < leading f → Fields f 0 t 0 t
  high : {j t : ℕ} → suc j < top_field f → t < field_weight f → leading f ≤ hidden_part f.layout (leading f) + t
      → Fields f (suc j) t j (hidden_part f.layout (leading f) + t)

-- what they stand for
pub fields_read : (f : Format) (n : Bool) {e t j s : ℕ} → Fields f e t j s → fields_class f.layout f n e t ≡ number n j s
fields_read f n (low {t} h) = low_read f.layout f n t
fields_read f n (high {j} {t} h w g) = high_read f.layout f n j t h g

-- how they are written
pub fields_body : (f : Format) {e t j s : ℕ} → Fields f e t j s → body f f.layout j s ≡ e * field_weight f + t
fields_body f (low {t} h) = low_body f.layout f t h ∙ omega arith
fields_body f (high {j} {t} h w g) = high_body f.layout f j t refl g

pub fields_field : (f : Format) {e t j s : ℕ} → Fields f e t j s → e < top_field f + 1
fields_field f (low h) = omega arith
fields_field f (high h w g) = omega arith

pub fields_rest : (f : Format) → Regular f → {e t j s : ℕ} → Fields f e t j s → t < field_weight f
fields_rest f r (low h) = omega (arith, weight f.layout f r, hidden_le f.layout (leading f))
fields_rest f r (high h w g) = w

pub fields_placed : (f : Format) → Regular f → {e t j s : ℕ} → Fields f e t j s → Placed f j s
fields_placed f r (low h) = record { small = omega (arith, leading_twice f r); leads = λ l. refl; range = omega arith }
fields_placed f r (high h w g) =
    record { small = omega (arith, leading_twice f r, weight f.layout f r); leads = λ l. omega arith; range = omega arith }

-- and they are ordinary
pub fields_ordinary : (f : Format) {e t j s : ℕ} → Fields f e t j s → not (eqb e 0 && leb (leading f) t) ≡ true
fields_ordinary f (low {t} h) = rw (lt-leb (leading f) t h)
fields_ordinary f (high {j} h w g) = rw (eqb-suc-zero j)

-- the fields of a placed significand
pub record Stored (f : Format) (j s : ℕ) : Type 0 where
  pub field : ℕ
  pub rest : ℕ
  pub fields : Fields f field rest j s

pub placed_fields : (f : Format) → Regular f → {j s : ℕ} → Placed f j s → Stored f j s
placed_fields f r {j} {s} p = go (ltb s (leading f)) (ltb→lt s (leading f)) (nltb→le s (leading f))
  where
    go : (b : Bool) → (T b → s < leading f) → (T (not b) → leading f ≤ s) → Stored f j s
    go true a b = record { field = 0; rest = s; fields = subst (λ (i : ℕ). Fields f 0 s i s) (sym (p.leads (a tt))) (low (a tt)) }
    go false a b =
        let c = hidden_part f.layout (leading f) in
        let g = b tt in
        let d = p.small in
        let u = hidden_le f.layout (leading f) in
        let e : c + (s - c) ≡ s = omega arith in
        record {
          field = suc j;
          rest = s - c;
          fields =
              subst (λ (i : ℕ). Fields f (suc j) (s - c) j i) e
              (high (omega (arith, p.range)) (omega (arith, weight f.layout f r, leading_twice f r)) (omega arith));
        }

-- and the ordinary fields of a finite pattern: its own, but for a leading digit with the field 0, which the field 1 has too
pub record Significand (f : Format) (n : Bool) (e t : ℕ) : Type 0 where
  pub field : ℕ
  pub dropped : ℕ
  pub significand : ℕ
  pub fields : Fields f field t dropped significand
  pub same : fields_class f.layout f n e t ≡ fields_class f.layout f n field t
  pub own : (e ≡ 0 → t < leading f) → field ≡ e

not_finite : (b n : Bool) (t : ℕ) (v : Value) → cond b (infinite n) (nan n t) ≡ finite v → ⊥
not_finite true n t v e = clash (cc)
not_finite false n t v e = clash (cc)

zero_fields : (f : Format) → Regular f → (n : Bool) (t : ℕ) → t < field_weight f → Significand f n 0 t
zero_fields f r n t w = go (ltb t (leading f)) (ltb→lt t (leading f)) (nltb→le t (leading f))
  where
    go : (b : Bool) → (T b → t < leading f) → (T (not b) → leading f ≤ t) → Significand f n 0 t
    go true a b = record { field = 0; dropped = 0; significand = t; fields = low (a tt); same = refl; own = λ o. refl }
    go false a b =
        let top : 1 < top_field f = omega (arith, r.range) in
        let u = hidden_le f.layout (leading f) in
        record {
          field = 1;
          dropped = 0;
          significand = hidden_part f.layout (leading f) + t;
          fields = high top w (omega (arith, b tt));
          same = pseudo_read f.layout f n t top (b tt) w;
          own = λ o. absurd (omega (arith, o refl, b tt));
        }

pub finite_fields : (f : Format) → Regular f → (n : Bool) (e t : ℕ) (v : Value) → fields_class f.layout f n e t ≡ finite v → e < top_field f + 1
    → t < field_weight f → Significand f n e t
finite_fields f r n zero t v c h w = zero_fields f r n t w
finite_fields f r n (suc j) t v c h w =
    let g = finite_high f.layout f n j t v c in
    let top = top_read f.layout f n t g in
    let no : suc j ≡ top_field f → ⊥ = λ q. not_finite (eqb t (infinity f.layout (leading f))) n t v (sym top ∙ rw q at c) in
    record {
      field = suc j;
      dropped = j;
      significand = hidden_part f.layout (leading f) + t;
      fields = high (lt_of_le-ne (omega arith) no) w g;
      same = refl;
      own = λ o. refl;
    }

-- ---- the largest field: infinities, NaNs, and the house NaN
pub leading_two : (f : Format) → Regular f → 2 ≤ leading f
leading_two f r = pow_mono {i = 1} (omega arith)

pub infinity_rest : (f : Format) → Regular f → infinity f.layout (leading f) < field_weight f
infinity_rest f r = omega (arith, weight f.layout f r, hidden_infinity f.layout (leading f), leading_two f r)

pub quiet_rest : (f : Format) → Regular f → quiet f.layout (leading f) < field_weight f
quiet_rest f r =
    omega (arith, weight f.layout f r, hidden_infinity f.layout (leading f), quiet_is f.layout (leading f), leading_two f r)

pub infinity_read : (f : Format) (n : Bool) → fields_class f.layout f n (top_field f) (infinity f.layout (leading f)) ≡ infinite n
infinity_read f n =
    let i = infinity f.layout (leading f) in
    top_read f.layout f n i (omega (arith, hidden_infinity f.layout (leading f))) ∙ rw (eq-eqb i i refl)

pub nan_read : (f : Format) (n : Bool) (s : ℕ) → NanStored f s → fields_class f.layout f n (top_field f) s ≡ nan n s
nan_read f n s h = top_read f.layout f n s h.leads ∙ rw (ne_eqb s (infinity f.layout (leading f)) h.more)

pub quiet_stored : (f : Format) → Regular f → NanStored f (quiet f.layout (leading f))
quiet_stored f r =
    let a = hidden_infinity f.layout (leading f) in
    let b = quiet_is f.layout (leading f) in
    let two = leading_two f r in
    record { below = quiet_rest f r; leads = omega arith; more = λ e. omega arith }
