-- A normal number beside another field: it is what the number is scaled to, and with the bias its significand. Assumes nothing.
use mathlib.Core.Path.{◌≡◌, sym, ap, ◌∙◌}
use mathlib.Core.Bool.{Bool}
use Prim.Native.Nat.{ℕ, suc, ◌+◌, ◌-◌, ◌*◌, ◌^◌, ◌≤◌, ◌<◌}
use native.Mathlib.Nat.{eq_of_mul-eq-mul_right, mul-pos, lt_of_lt_of_le}
use native.Mathlib.Omega.{arith}
use lib.IntN.{ℤ, pos, ◌+ℤ◌, ◌-ℤ◌}
use lib.Ieee.{size}
use lib.Pow.{pow_pos}
use Rattle.digits.proofs.Common.{shift_shift}
use Rattle.digits.proofs.Signed.{add_sub}
use Rattle.digits.proofs.Size.{size_shift, size_between}
use Rattle.definitions.specs.Class.{Value, finite}
use Rattle.definitions.specs.Format.{Format, Regular, Representable, top_field, leading, field_weight, exponent_of, pattern_of}
use Rattle.definitions.specs.Round.{round}
use Rattle.definitions.specs.Scale.{scale_value, scale_report, significand_of, split_report}
use Rattle.definitions.specs.declared.Rounding.TheVariants.{Exact}
use Rattle.laws.proofs.Gap.{cancel}
use Rattle.laws.proofs.Layouts.{weight}
use Rattle.laws.proofs.Pattern.{pack, pack_read}
use Rattle.laws.proofs.Range.{exponent_is}
use Rattle.laws.proofs.Representable.{leading_twice, shifted_held}
use Rattle.laws.proofs.Round.{round_multiple}
use Rattle.laws.proofs.RoundTrip.{finite_written}
use Rattle.laws.proofs.Scaling.{unchanged, scaled_report, bounded_round, scale_round, scale_finite, bounded_finite}
use Rattle.laws.proofs.Splitting.{one_place, split_finite, significand_sign, significand_count}
use Rattle.shapes.specs.Shape.{fields_in}
use Rattle.quick_scaling.proofs.Normal.{Normal, significand, fields_normal, class_normal}

-- the same number i places further up is the same, j places further up
exchange : (s a b i j : ℕ) → a + i ≡ b + j → s * 2 ^ a * 2 ^ i ≡ s * 2 ^ b * 2 ^ j
exchange s a b i j e = shift_shift s a i ∙ rw e (sym (shift_shift s b j))

-- a significand with its leading digit, beside any field
module _ (f : Format) (r : Regular f) (n : Bool) (t : ℕ) (below : t < field_weight f) (leads : leading f ≤ significand f t) where
  abbrev s : ℕ
  s = significand f t

  abbrev at : ℕ → Value
  at e = record { negative = n; count = s * 2 ^ (e - 1) }

  word : s < 2 ^ f.precision
  word = omega (arith, weight f.layout f r, leading_twice f r)

  some : 0 < s
  some = lt_of_lt_of_le (pow_pos (f.precision - 1)) leads

  at_some : (e : ℕ) → 0 < (at e).count
  at_some e = mul-pos some (pow_pos (e - 1))

  at_size : (e : ℕ) → size (at e).count ≡ f.precision + (e - 1)
  at_size e =
      let p : suc (f.precision - 1) ≡ f.precision = omega (arith, r.digits) in
      size_shift s (e - 1) some ∙ ap (λ (k : ℕ). k + (e - 1)) (size_between s (f.precision - 1) leads (rw p word) ∙ p)

  at_held : (e : ℕ) → e < top_field f → Representable f (at e).count
  at_held e top = shifted_held f (e - 1) s word (omega arith)

  written : (e : ℕ) → 0 < e → e < top_field f → pattern_of f (finite (at e)) ≡ pack f n e t
  written e low top =
      finite_written f r n e t (at e) (omega arith) below (pack_read f e t (omega arith) below n ∙ fields_normal f n e t low top leads)
      (λ z. absurd (omega arith))

  scaled : (e d : ℕ) → 0 < e → 0 < d → d < top_field f → scale_value f (at e) (pos d -ℤ pos e) ≡ record { class = finite (at d); says = Exact }
  scaled e d el dl top =
      scale_round f (at e) d e
      ∙ ap (bounded_round f n) (ap (λ (m : ℕ). round m e) (exchange s (e - 1) (d - 1) d e (omega arith)) ∙ round_multiple (at d).count e)
      ∙ bounded_finite f r n (at d).count Exact (at_held d top).range

  split : (e : ℕ) → 0 < e → e < top_field f → (significand_of f (at e)).count ≡ (at f.bias).count
  split e low top =
      let k = f.precision + (e - 1) - 1 in
      let j : size (at e).count - 1 ≡ k = omega (arith, at_size e) in
      let c = rw j at (significand_count f r (at e) (at_some e) (at_held e top)) in
      eq_of_mul-eq-mul_right (2 ^ k) (pow_pos k) (significand_of f (at e)).count (at f.bias).count
      (c ∙ exchange s (e - 1) (f.bias - 1) (one_place f) k (omega (arith, r.digits, r.range)))

  exponent : (e : ℕ) → 0 < e → exponent_of f (at e).count ≡ pos e -ℤ pos f.bias
  exponent e low =
      let p = f.precision - 2 in
      let a : size (at e).count - 1 ≡ p + e = omega (arith, at_size e, r.digits) in
      let b : one_place f ≡ p + f.bias = omega (arith, r.digits) in
      exponent_is f r (at e).count ∙ rw (a, b) (cancel (pos p) (pos e) (pos f.bias))

-- a pattern
module _ (f : Format) (r : Regular f) (b : ℕ) (given : Normal f (fields_in f b)) where
  pub scale_moved : (k : ℤ) (d : ℕ) → pos (fields_in f b).field +ℤ k ≡ pos d → 0 < d → d < top_field f
      → scale_report f b k ≡ unchanged (pack f (fields_in f b).negative d (fields_in f b).stored)
  scale_moved k d is low top =
      let x = fields_in f b in
      let v = at f r x.negative x.stored given.below given.leads in
      let by : k ≡ pos d -ℤ pos x.field = sym (add_sub (pos x.field) k) ∙ ap (λ (z : ℤ). z -ℤ pos x.field) is in
      scale_finite f b (v x.field) k (class_normal f b given) (at_some f r x.negative x.stored given.below given.leads x.field)
      ∙ ap (scaled_report f) (ap (scale_value f (v x.field)) by ∙ scaled f r x.negative x.stored given.below given.leads x.field d given.some low top)
      ∙ ap unchanged (written f r x.negative x.stored given.below given.leads d low top)

  pub split_moved : let x = fields_in f b in
      split_report f b ≡ record { number = 0; significand = pack f x.negative f.bias x.stored; exponent = pos x.field -ℤ pos f.bias }
  split_moved =
      let x = fields_in f b in
      let v = at f r x.negative x.stored given.below given.leads in
      let bias : 0 < f.bias = r.range in
      split_finite f b (v x.field) (class_normal f b given) (at_some f r x.negative x.stored given.below given.leads x.field)
      ∙ (λ i. record {
        number = 0;
        significand = (ap (λ (c : Value). pattern_of f (finite c)) own ∙ written f r x.negative x.stored given.below given.leads f.bias bias (omega arith)) i;
        exponent = exponent f r x.negative x.stored given.below given.leads x.field given.some i;
      })
    where
      own : let x = fields_in f b in
          let v = at f r x.negative x.stored given.below given.leads in significand_of f (v x.field) ≡ v f.bias
      own =
          let x = fields_in f b in
          let v = at f r x.negative x.stored given.below given.leads in
          λ i. record {
            negative = significand_sign f (v x.field) i;
            count = split f r x.negative x.stored given.below given.leads x.field given.some given.top i;
          }
