-- Which patterns are normal numbers, by their fields, and what they stand for. Assumes nothing.
use mathlib.Core.Path.{◌≡◌, refl, sym, ap, ◌∙◌}
use mathlib.Core.Bool.{Bool, true, false, not, ◌&&◌}
use Prim.Native.Nat.{ℕ, suc, ◌+◌, ◌-◌, ◌≤◌, ◌<◌}
use native.Mathlib.Omega.{arith}
use borrow.Author.Tests.{ltb-true, leb-true}
use lib.Dec.{ltb, leb, eqb}
use lib.IntN.{ℤ, pos, negsuc, ◌+ℤ◌}
use lib.Signed.{lt_z}
use Rattle.digits.proofs.Tests.{clash, and_both, and_false, not_zero}
use Rattle.definitions.specs.Format.{Format, top_field, leading, field_weight, hidden_part, fields_class, class_of}
use Rattle.definitions.specs.Facts.{denormal, told_denormal}
use Rattle.laws.proofs.Layouts.{number, high_read}
use Rattle.laws.proofs.Pattern.{rest_small}
use Rattle.shapes.specs.declared.fields.Fields.{Fields}
use Rattle.shapes.specs.Shape.{fields_in}
use Rattle.quick_scaling.specs.Normal.{normal, stays_normal}

-- the significand of a stored one
abbrev pub significand : Format → ℕ → ℕ
significand f t = hidden_part f.layout (leading f) + t

pub record Normal (f : Format) (s : Fields) : Type 0 where
  pub some : 0 < s.field
  pub top : s.field < top_field f
  pub leads : leading f ≤ significand f s.stored
  pub below : s.stored < field_weight f

pub normal_fields : (f : Format) (b : ℕ) → normal f b ≡ true → Normal f (fields_in f b)
normal_fields f b e =
    let s = fields_in f b in
    let lead = leb (leading f) (significand f s.stored) in
    let a = and_both (ltb 0 s.field && ltb s.field (top_field f)) lead e in
    let c = and_both (ltb 0 s.field) (ltb s.field (top_field f)) a.0 in
    record {
      some = ltb-true 0 s.field c.0;
      top = ltb-true s.field (top_field f) c.1;
      leads = leb-true (leading f) (significand f s.stored) a.1;
      below = rest_small f b;
    }

-- a field between the smallest and the largest
pub fields_normal : (f : Format) (n : Bool) (e t : ℕ) → 0 < e → e < top_field f → leading f ≤ significand f t
    → fields_class f.layout f n e t ≡ number n (e - 1) (significand f t)
fields_normal f n e t some top leads =
    let j : e ≡ suc (e - 1) = omega arith in
    ap (λ (i : ℕ). fields_class f.layout f n i t) j ∙ high_read f.layout f n (e - 1) t (omega arith) leads

module _ (f : Format) (b : ℕ) (given : Normal f (fields_in f b)) where
  pub class_normal : let s = fields_in f b in class_of f b ≡ number s.negative (s.field - 1) (significand f s.stored)
  unfolding class_of
  class_normal = let s = fields_in f b in fields_normal f s.negative s.field s.stored given.some given.top given.leads

  -- a call of any number tells that it is not denormal
  pub not_denormal : (n : ℕ) → false ≡ told_denormal f n b b
  unfolding denormal
  not_denormal n = rw (not_zero (fields_in f b).field given.some) (sym (and_false (not (eqb n 6))))

-- a number that stays normal: where its field is taken to is a normal number's field
pub record Stays (f : Format) (b : ℕ) (k : ℤ) : Type 0 where
  pub before : Normal f (fields_in f b)
  pub field : ℕ
  pub is : pos (fields_in f b).field +ℤ k ≡ pos field
  pub some : 0 < field
  pub top : field < top_field f

pub stays : (f : Format) (b : ℕ) (k : ℤ) → stays_normal f b k ≡ true → Stays f b k
stays f b k e =
    let z = pos (fields_in f b).field +ℤ k in
    let a = and_both (normal f b) (lt_z (pos 0) z && lt_z z (pos (top_field f))) e in
    let c = and_both (lt_z (pos 0) z) (lt_z z (pos (top_field f))) a.1 in
    go z refl c.0 c.1 (normal_fields f b a.0)
  where
    go : (z : ℤ) → pos (fields_in f b).field +ℤ k ≡ z → lt_z (pos 0) z ≡ true → lt_z z (pos (top_field f)) ≡ true → Normal f (fields_in f b) → Stays f b k
    go (pos d) is low top n = record { before = n; field = d; is = is; some = ltb-true 0 d low; top = ltb-true d (top_field f) top }
    go (negsuc j) is low top n = clash (cc)
