-- What a format holds is written and read back, and each finite pattern that is ordinary is the one that its value is written as. Assumes nothing.
use mathlib.Core.Path.{◌≡◌, refl, sym, ap, ◌∙◌, subst}
use mathlib.Core.Bool.{Bool, true, false, not, ◌&&◌}
use Prim.Native.Nat.{ℕ, ◌+◌, ◌-◌, ◌*◌, ◌/◌, ◌%◌, ◌^◌, ◌<◌}
use native.Mathlib.Nat.{zero-add}
use native.Mathlib.Omega.{arith}
use borrow.Author.Tests.{eq-eqb, ne_eqb, leb-false}
use lib.Dec.{leb, eqb}
use lib.Ieee.{size}
use Rattle.digits.proofs.Tests.{clash}
use Rattle.definitions.specs.Class.{Value, Class, unsupported, nan, infinite, finite}
use Rattle.definitions.specs.Format.{Format, Representable, NanStored, Holds, Regular, top_field, field_weight, sign_weight, patterns, class_of, with_sign, pattern_of, ordinary, house_nan, house, infinity, leading}
use Rattle.laws.proofs.Representable.{held_placed, held_count, placed_held, magnitude_placed}
use Rattle.laws.proofs.Layouts.{number, infinite_top, nan_top}
use Rattle.laws.proofs.Fields.{Fields, fields_read, fields_body, fields_field, fields_rest, fields_ordinary, fields_placed, placed_fields, finite_fields, infinity_rest, infinity_read, nan_read, quiet_stored}
use Rattle.laws.proofs.Pattern.{pack, pack_read, pack_ordinary, pack_small, packed, field_small, rest_small}

pub same_count : (u v : Value) → finite u ≡ finite v → u.count ≡ v.count
same_count u v e = cc

module _ (f : Format) (r : Regular f) where
  -- a value by its fields: how it is written, and how that is read
  written : (n : Bool) {e t j s : ℕ} → Fields f e t j s → pattern_of f (number n j s) ≡ pack f n e t
  unfolding pattern_of
  written n {j = j} {s = s} c = ap (with_sign f n) (magnitude_placed f r j s (fields_placed f r c) ∙ fields_body f c)

  read : (n : Bool) {e t j s : ℕ} → Fields f e t j s → class_of f (pack f n e t) ≡ number n j s
  read n {e} {t} c = pack_read f e t (fields_field f c) (fields_rest f r c) n ∙ fields_read f n c

  -- each value that the format holds is one by its fields
  by_fields : (P : Class → Type 0) (v : Value) → Representable f v.count → ((e t j s : ℕ) → Fields f e t j s → P (number v.negative j s)) → P (finite v)
  by_fields P v h all =
      let j = size v.count - f.precision in
      let c = placed_fields f r (held_placed f r v.count h) in
      subst (λ (n : ℕ). P (finite (record { negative = v.negative; count = n }))) (held_count f v.count h)
      (all c.field c.rest j (v.count / 2 ^ j) c.fields)

  pub read_written : (v : Value) → Representable f v.count → class_of f (pattern_of f (finite v)) ≡ finite v
  read_written v h =
      by_fields (λ c. class_of f (pattern_of f c) ≡ c) v h (λ e t j s c. ap (class_of f) (written v.negative c) ∙ read v.negative c)

  pub pattern_small : (v : Value) → Representable f v.count → pattern_of f (finite v) < patterns f
  pattern_small v h =
      by_fields (λ c. pattern_of f c < patterns f) v h
      (λ e t j s c. rw (written v.negative c) (pack_small f e t (fields_field f c) (fields_rest f r c) v.negative))

  pub pattern_ordinary : (v : Value) → Representable f v.count → ordinary f (pattern_of f (finite v)) ≡ true
  pattern_ordinary v h =
      by_fields (λ c. ordinary f (pattern_of f c) ≡ true) v h
      (λ e t j s c. ap (ordinary f) (written v.negative c) ∙ pack_ordinary f e t (fields_field f c) (fields_rest f r c) v.negative ∙ fields_ordinary f c)

  pub read_held : (b : ℕ) (v : Value) → class_of f b ≡ finite v → Representable f v.count
  unfolding class_of
  read_held b v e =
      let n = leb (sign_weight f) b in
      let c = finite_fields f r n (b / field_weight f % (top_field f + 1)) (b % field_weight f) v e (field_small f b) (rest_small f b) in
      subst (Representable f)
      (same_count (record { negative = n; count = c.significand * 2 ^ c.dropped }) v (sym (c.same ∙ fields_read f n c.fields) ∙ e))
      (placed_held f c.dropped c.significand (fields_placed f r c.fields))

  pub read_stored : (b : ℕ) (n : Bool) (s : ℕ) → class_of f b ≡ nan n s → NanStored f s
  unfolding class_of
  read_stored b n s e =
      let t = b % field_weight f in
      let k = nan_top f.layout f (leb (sign_weight f) b) n (b / field_weight f % (top_field f + 1)) t s e in
      subst (NanStored f) k.1 (record { below = rest_small f b; leads = k.3; more = k.4 })

  -- so that the class of every pattern is one that the format holds
  pub read_holds : (b : ℕ) → Holds f (class_of f b)
  read_holds b = go (class_of f b) refl
    where
      go : (c : Class) → class_of f b ≡ c → Holds f c
      go unsupported e = tt
      go (nan n s) e = read_stored b n s e
      go (infinite n) e = tt
      go (finite v) e = read_held b v e

  -- how the value of a finite pattern is written: with its own field if that is ordinary
  pub finite_written : (n : Bool) (e t : ℕ) (v : Value) → e < top_field f + 1 → t < field_weight f → class_of f (pack f n e t) ≡ finite v
      → (e ≡ 0 → t < leading f) → pattern_of f (finite v) ≡ pack f n e t
  finite_written n e t v small below k o =
      let q = sym (pack_read f e t small below n) ∙ k in
      let c = finite_fields f r n e t v q small below in
      ap (pattern_of f) (sym q ∙ c.same ∙ fields_read f n c.fields) ∙ written n c.fields ∙ ap (λ (i : ℕ). pack f n i t) (c.own o)

  pub written_read : (b : ℕ) (v : Value) → b < patterns f → ordinary f b ≡ true → class_of f b ≡ finite v → pattern_of f (finite v) ≡ b
  written_read b v h o e =
      let p = packed f b h in
      let q = sym (pack_ordinary f p.field p.rest p.small p.below p.negative) ∙ ap (ordinary f) p.is ∙ o in
      finite_written p.negative p.field p.rest v p.small p.below (ap (class_of f) p.is ∙ e) (λ z. leads p.field p.rest z q)
      ∙ p.is
    where
      leads : (e t : ℕ) → e ≡ 0 → not (eqb e 0 && leb (leading f) t) ≡ true → t < leading f
      leads e t z q = go (leb (leading f) t) refl
        where
          go : (b : Bool) → leb (leading f) t ≡ b → t < leading f
          go true a = let d = rw (eq-eqb e 0 z, a) at q in clash (cc)
          go false a = leb-false (leading f) t a

  -- infinities
  pub read_infinite : (n : Bool) → class_of f (pattern_of f (infinite n)) ≡ infinite n
  unfolding pattern_of
  read_infinite n = pack_read f (top_field f) (infinity f.layout (leading f)) (omega arith) (infinity_rest f r) n ∙ infinity_read f n

  pub written_infinite : (b : ℕ) (n : Bool) → b < patterns f → class_of f b ≡ infinite n → pattern_of f (infinite n) ≡ b
  unfolding pattern_of
  written_infinite b n h e =
      let p = packed f b h in
      let k = sym (pack_read f p.field p.rest p.small p.below p.negative) ∙ ap (class_of f) p.is ∙ e in
      let i = infinite_top f.layout f p.negative n p.field p.rest k in
      rw (i.0, i.1, i.2) at p.is

  top_ordinary : (t : ℕ) → not (eqb (top_field f) 0 && leb (leading f) t) ≡ true
  top_ordinary t = rw (ne_eqb (top_field f) 0 (omega arith))

  pub infinite_ordinary : (n : Bool) → ordinary f (pattern_of f (infinite n)) ≡ true
  unfolding pattern_of
  infinite_ordinary n = let i = infinity f.layout (leading f) in pack_ordinary f (top_field f) i (omega arith) (infinity_rest f r) n ∙ top_ordinary i

  pub infinite_small : (n : Bool) → pattern_of f (infinite n) < patterns f
  unfolding pattern_of
  infinite_small n = pack_small f (top_field f) (infinity f.layout (leading f)) (omega arith) (infinity_rest f r) n

  -- NaNs: each is read as it was written, and is written as it was read
  pub read_nan : (n : Bool) (s : ℕ) → NanStored f s → class_of f (pattern_of f (nan n s)) ≡ nan n s
  unfolding pattern_of
  read_nan n s h = pack_read f (top_field f) s (omega arith) h.below n ∙ nan_read f n s h

  pub written_nan : (b : ℕ) (n : Bool) (s : ℕ) → b < patterns f → class_of f b ≡ nan n s → pattern_of f (nan n s) ≡ b
  unfolding pattern_of
  written_nan b n s h e =
      let p = packed f b h in
      let k = sym (pack_read f p.field p.rest p.small p.below p.negative) ∙ ap (class_of f) p.is ∙ e in
      let i = nan_top f.layout f p.negative n p.field p.rest s k in
      rw (i.0, i.1, i.2) at p.is

  pub nan_ordinary : (n : Bool) (s : ℕ) → NanStored f s → ordinary f (pattern_of f (nan n s)) ≡ true
  unfolding pattern_of
  nan_ordinary n s h = pack_ordinary f (top_field f) s (omega arith) h.below n ∙ top_ordinary s

  pub nan_small : (n : Bool) (s : ℕ) → NanStored f s → pattern_of f (nan n s) < patterns f
  unfolding pattern_of
  nan_small n s h = pack_small f (top_field f) s (omega arith) h.below n

  -- the house NaN is one of them
  pub house_holds : Holds f (house f)
  house_holds = quiet_stored f r

  pub house_is : pattern_of f (house f) ≡ house_nan f
  unfolding pattern_of
  house_is = zero-add (house_nan f)

  pub read_house_nan : class_of f (house_nan f) ≡ house f
  read_house_nan = ap (class_of f) (sym house_is) ∙ read_nan false _ house_holds

  pub house_nan_small : house_nan f < patterns f
  house_nan_small = subst (λ (b : ℕ). b < patterns f) house_is (nan_small false _ house_holds)

  pub house_nan_ordinary : ordinary f (house_nan f) ≡ true
  house_nan_ordinary = ap (ordinary f) (sym house_is) ∙ nan_ordinary false _ house_holds
