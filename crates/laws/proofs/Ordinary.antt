-- [2.10] Ordinary patterns: every value is written as one, and the field 0 with a leading digit is the only other. Assumes nothing.
use mathlib.Core.Path.{◌≡◌, refl, sym, ap, ◌∙◌, subst}
use mathlib.Core.Bool.{Bool, true, false, not, cond, ◌&&◌}
use Prim.Native.Nat.{ℕ, ◌+◌, ◌-◌, ◌*◌, ◌%◌, ◌/◌, ◌^◌, ◌≤◌, ◌<◌}
use native.Mathlib.Nat.{mul-one}
use native.Mathlib.Omega.{arith}
use borrow.Author.Tests.{eqb-true, leb-true, lt-leb}
use lib.Dec.{leb, eqb}
use lib.Pow.{pow_pos}
use Rattle.digits.proofs.Tests.{clash}
use Rattle.definitions.specs.Class.{Value, Class, unsupported, nan, infinite, finite}
use Rattle.definitions.specs.Format.{Format, Regular, Holds, top_field, field_weight, leading, patterns, words, x87, class_of, pattern_of, ordinary, ordinary_of}
use Rattle.definitions.specs.Numbers.{is_unsupported}
use Rattle.definitions.specs.declared.Layout.TheVariants.{Hidden}
use Rattle.laws.proofs.Layouts.{number, hidden_weight, low_read, pseudo_read}
use Rattle.laws.proofs.Pattern.{pack, pack_read, pack_ordinary, Packed, packed, rest_small}
use Rattle.laws.proofs.Regular.{regular80}
use Rattle.laws.proofs.RoundTrip.{same_count, read_written, read_holds, read_infinite, read_nan, written_read, finite_written, written_infinite, pattern_ordinary, infinite_ordinary, nan_ordinary, house_nan_ordinary}

-- what a pattern that is taken stands for
abbrev pub Numeric : Class → Type 0
Numeric unsupported = ⊥
Numeric (nan n s) = ⊥
Numeric (infinite s) = Unit {0}
Numeric (finite v) = Unit {0}

-- a format that hides its leading digit has no other patterns
pub hidden_ordinary : (f : Format) → f.layout ≡ Hidden → (b : ℕ) → ordinary f b ≡ true
unfolding ordinary
hidden_ordinary f h b =
    let l : b % field_weight f < leading f = omega (arith, rest_small f b, hidden_weight f h) in
    rw (lt-leb (leading f) (b % field_weight f) l) (go (eqb (b / field_weight f % (top_field f + 1)) 0))
  where
    go : (z : Bool) → not (z && false) ≡ true
    go true = refl
    go false = refl

module _ (f : Format) (r : Regular f) where
  -- every class that the format holds is written in an ordinary pattern
  pub written_ordinary : (c : Class) → Holds f c → ordinary f (pattern_of f c) ≡ true
  unfolding pattern_of
  written_ordinary unsupported h = house_nan_ordinary f r
  written_ordinary (nan n s) h = nan_ordinary f r n s h
  written_ordinary (infinite n) h = infinite_ordinary f r n
  written_ordinary (finite v) h = pattern_ordinary f r v h

  -- so that the ordinary pattern of a pattern is one, whatever it is
  pub always_ordinary : (b : ℕ) → ordinary f (ordinary_of f b) ≡ true
  always_ordinary b = written_ordinary (class_of f b) (read_holds f r b)

  -- a pattern and its ordinary pattern stand for the same
  pub ordinary_same : (b : ℕ) → is_unsupported (class_of f b) ≡ false → class_of f (ordinary_of f b) ≡ class_of f b
  unfolding pattern_of
  ordinary_same b = go (class_of f b) (read_holds f r b)
    where
      go : (c : Class) → Holds f c → is_unsupported c ≡ false → class_of f (pattern_of f c) ≡ c
      go unsupported h u = clash (cc)
      go (nan n s) h u = read_nan f r n s h
      go (infinite n) h u = read_infinite f r n
      go (finite v) h u = read_written f r v h

  -- a number whose pattern is ordinary has that pattern and no other such one, and a pattern that is given back is ordinary
  pub ordinary_own : (b : ℕ) → b < patterns f → ordinary f b ≡ true → Numeric (class_of f b) → ordinary_of f b ≡ b
  ordinary_own b h o = go (class_of f b) refl
    where
      go : (c : Class) → class_of f b ≡ c → Numeric c → pattern_of f c ≡ b
      go unsupported e n = absurd n
      go (nan m s) e n = absurd n
      go (infinite s) e n = written_infinite f r b s h e
      go (finite v) e n = written_read f r b v h o e

  pub ordinary_one : (b c : ℕ) → b < patterns f → c < patterns f → ordinary f b ≡ true → ordinary f c ≡ true → Numeric (class_of f b)
      → class_of f b ≡ class_of f c → b ≡ c
  ordinary_one b c hb hc ob oc n e = sym (ordinary_own b hb ob n) ∙ ap (pattern_of f) e ∙ ordinary_own c hc oc (subst Numeric e n)

  pub kept_ordinary : (b : ℕ) → ordinary_of f b ≡ b → ordinary f b ≡ true
  kept_ordinary b e = subst (λ (c : ℕ). ordinary f c ≡ true) e (always_ordinary b)

  -- ---- a pattern that is not ordinary: its field is 0, and the same significand with the field 1 is the ordinary pattern of its value
  module _ (n : Bool) (t : ℕ) (leads : leading f ≤ t) (below : t < field_weight f) where
    top : 1 < top_field f
    top = omega (arith, r.range)

    pub pseudo_class : class_of f (pack f n 0 t) ≡ class_of f (pack f n 1 t)
    pseudo_class =
        pack_read f 0 t (omega arith) below n ∙ pseudo_read f.layout f n t top leads below
        ∙ sym (pack_read f 1 t (omega (arith, top)) below n)

    pub pseudo_value : class_of f (pack f n 0 t) ≡ number n 0 t
    pseudo_value = pack_read f 0 t (omega arith) below n ∙ low_read f.layout f n t

    pub pseudo_written : ordinary_of f (pack f n 0 t) ≡ pack f n 1 t
    pseudo_written =
        ap (pattern_of f) pseudo_value
        ∙ finite_written f r n 1 t (record { negative = n; count = t * 2 ^ 0 }) (omega (arith, top)) below (sym pseudo_class ∙ pseudo_value) (λ z. absurd (omega arith))

  -- which patterns these are
  pub record Pseudo (b : ℕ) : Type 0 where
    pub negative : Bool
    pub stored : ℕ
    pub leads : leading f ≤ stored
    pub below : stored < field_weight f
    pub is : pack f negative 0 stored ≡ b

  pub pseudo_pattern : (b : ℕ) → b < patterns f → ordinary f b ≡ false → Pseudo b
  pseudo_pattern b h o = go (packed f b h)
    where
      go : Packed f b → Pseudo b
      go p =
          let q = sym (pack_ordinary f p.field p.rest p.small p.below p.negative) ∙ ap (ordinary f) p.is ∙ o in
          by (eqb p.field 0) (leb (leading f) p.rest) refl refl q
        where
          by : (z l : Bool) → eqb p.field 0 ≡ z → leb (leading f) p.rest ≡ l → not (z && l) ≡ false → Pseudo b
          by true true a c d =
              record {
                negative = p.negative;
                stored = p.rest;
                leads = leb-true (leading f) p.rest c;
                below = p.below;
                is = ap (λ (e : ℕ). pack f p.negative e p.rest) (sym (eqb-true p.field 0 a)) ∙ p.is;
              }
          by true false a c d = clash (cc)
          by false l a c d = clash (cc)

  pub pseudo_ordinary : (b : ℕ) → b < patterns f → ordinary f b ≡ false → ordinary_of f b ≡ b + field_weight f
  pseudo_ordinary b h o =
      let p = pseudo_pattern b h o in
      let e = pseudo_written p.negative p.stored p.leads p.below in
      ap (ordinary_of f) (sym p.is) ∙ e ∙ omega (arith, p.is)

  -- a zero is ordinary
  pub zero_ordinary : (b : ℕ) (v : Value) → b < patterns f → class_of f b ≡ finite v → v.count ≡ 0 → ordinary f b ≡ true
  zero_ordinary b v h e z = go (ordinary f b) refl
    where
      go : (o : Bool) → ordinary f b ≡ o → o ≡ true
      go true q = refl
      go false q =
          let p = pseudo_pattern b h q in
          let i = sym e ∙ ap (class_of f) (sym p.is) ∙ pseudo_value p.negative p.stored p.leads p.below in
          let c = same_count v (record { negative = p.negative; count = p.stored * 2 ^ 0 }) i in
          absurd (omega (arith, c, p.leads, pow_pos (f.precision - 1)))

-- [2.4] of x87: the words with the field 0 and with the field 1, of either sign, beside a significand with its leading digit. `word` is the
-- word of a sign and a field.
abbrev pub word : Bool → ℕ → ℕ
word n e = cond n (0x8000 + e) e

word_packed : (n : Bool) (e s : ℕ) → pack x87 n e s ≡ words (word n e) s
word_packed true e s = omega arith
word_packed false e s = omega arith

pub pseudo_words : (n : Bool) (s : ℕ) → 2 ^ 63 ≤ s → s < 2 ^ 64
    → (class_of x87 (words (word n 0) s) ≡ class_of x87 (words (word n 1) s))
    × (class_of x87 (words (word n 0) s) ≡ finite (record { negative = n; count = s }))
    × (ordinary_of x87 (words (word n 0) s) ≡ words (word n 1) s)
pseudo_words n s leads below =
    rw (← word_packed n 0 s, ← word_packed n 1 s)
    (pseudo_class x87 regular80 n s leads below, pseudo_value x87 regular80 n s leads below ∙ rw (mul-one s), pseudo_written x87 regular80 n s leads below)
