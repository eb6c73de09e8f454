-- What the fields of a pattern stand for, in the five cases that the code tells apart. Assumes nothing.
use mathlib.Core.Path.{◌≡◌, refl, sym, ap, ◌∙◌}
use Prim.Native.Nat.{ℕ, zero, suc, ◌+◌, ◌-◌, ◌*◌, ◌^◌, ◌≤◌, ◌<◌}
use mathlib.Core.Bool.{Bool}
use native.Mathlib.Nat.{mul_assoc}
use native.Mathlib.Omega.{arith}
use borrow.Author.Tests.{lt-leb, eq-eqb, ne_eqb}
use lib.Arith.{lt_of_le-ne}
use lib.Dec.{eqb-suc-zero}
use lib.IntN.{pos, ◌+ℤ◌}
use lib.Pow.{pow-add}
use Rattle.definitions.specs.Class.{unsupported}
use Rattle.definitions.specs.Format.{Format, top_field, leading, field_weight, hidden_part, infinity, fields_class, class_of}
use Rattle.definitions.specs.declared.Layout.{Layout}
use Rattle.definitions.specs.declared.Layout.TheVariants.{Hidden, Explicit}
use Rattle.laws.proofs.Layouts.{number, low_read, high_read, top_read, hidden_infinity}
use Rattle.laws.proofs.Pattern.{field_small, rest_small}
use Rattle.operands.specs.Operand.{operand_of, normal_of}
use Rattle.operands.specs.declared.Operand.TheVariants.{Unsupported, Nan, Infinite}
use Rattle.operands.proofs.Normal.{normal_operand}
use Rattle.shapes.specs.Shape.{Sound, fields_in}
use Rattle.shapes.specs.declared.fields.Fields.{Fields}
use Rattle.shapes.proofs.Weights.{significand_word}

-- a leading digit that a field above 0 lacks: only an explicit one can do so
unnormal_read : (l : Layout) (f : Format) (n : Bool) (j t : ℕ) → hidden_part l (leading f) + t < leading f → fields_class l f n (suc j) t ≡ unsupported
unnormal_read Hidden f n j t h = absurd (omega arith)
unnormal_read Explicit f n j t h = rw (eqb-suc-zero j, lt-leb (leading f) t (omega arith))

module _ (f : Format) (ok : Sound f) (b : ℕ) (r : Fields) (is : r ≡ fields_in f b) where
  class_is : class_of f b ≡ fields_class f.layout f r.negative r.field r.stored
  unfolding class_of
  class_is = rw is

  pub field_le : r.field ≤ top_field f
  field_le = rw is (omega (arith, field_small f b))

  pub stored_small : r.stored < field_weight f
  stored_small = rw is (rest_small f b)

  -- field 0, with a leading digit or without
  pub low : r.field ≡ 0 → normal_of r.negative r.stored (f.smallest +ℤ pos 63) ≡ operand_of f.smallest (class_of f b)
  low zeroth =
      rw (class_is, zeroth, low_read f.layout f r.negative r.stored)
      (normal_operand f.smallest r.negative r.stored 63 (r.stored * 2 ^ 0) (omega (arith, significand_word f ok r.stored stored_small)) (omega arith))

  -- another field: the significand with what the pattern leaves out of it
  module _ (h : ℕ) (left_out : h ≡ hidden_part f.layout (leading f)) (above : r.field ≡ 0 → ⊥) where
    abbrev s : ℕ
    s = h + r.stored

    whole : s ≡ hidden_part f.layout (leading f) + r.stored
    whole = ap (λ (i : ℕ). i + r.stored) left_out

    as_suc : r.field ≡ suc (r.field - 1)
    as_suc = go r.field above
      where
        go : (e : ℕ) → (e ≡ 0 → ⊥) → e ≡ suc (e - 1)
        go zero h = absurd (h refl)
        go (suc j) h = omega arith

    pub unnormal : s < leading f → Unsupported ≡ operand_of f.smallest (class_of f b)
    unfolding operand_of
    unnormal l = rw (class_is, as_suc, unnormal_read f.layout f r.negative (r.field - 1) r.stored (rw whole at l))

    module _ (leads : leading f ≤ s) where
      module _ (top : r.field ≡ top_field f) where
        pub infinite_top : s ≡ leading f → Infinite r.negative ≡ operand_of f.smallest (class_of f b)
        unfolding operand_of
        infinite_top e =
            rw (
              class_is,
              top,
              top_read f.layout f r.negative r.stored (rw whole at leads),
              eq-eqb r.stored (infinity f.layout (leading f)) (omega (arith, whole, hidden_infinity f.layout (leading f))),
            )

        pub nan_top : (s ≡ leading f → ⊥) → Nan r.negative r.stored ≡ operand_of f.smallest (class_of f b)
        unfolding operand_of
        nan_top k =
            rw (
              class_is,
              top,
              top_read f.layout f r.negative r.stored (rw whole at leads),
              ne_eqb r.stored (infinity f.layout (leading f)) (λ q. k (omega (arith, whole, hidden_infinity f.layout (leading f)))),
            )

      pub high : (r.field ≡ top_field f → ⊥) → normal_of r.negative s (f.smallest +ℤ pos (r.field - 1 + 63)) ≡ operand_of f.smallest (class_of f b)
      high k =
          let j = r.field - 1 in
          let m : s * 2 ^ (j + 63) ≡ s * 2 ^ j * 2 ^ 63 = ap (λ (p : ℕ). s * p) (pow-add 2 j 63) ∙ sym (mul_assoc s (2 ^ j) (2 ^ 63)) in
          let below : suc j < top_field f = rw (← as_suc) (lt_of_le-ne field_le k) in
          normal_operand f.smallest r.negative s (j + 63) (s * 2 ^ j) (rw whole (significand_word f ok r.stored stored_small)) m
          ∙ ap (operand_of f.smallest) (sym (class_is ∙ ap (λ (e : ℕ). fields_class f.layout f r.negative e r.stored) as_suc
          ∙ high_read f.layout f r.negative j r.stored below (rw whole at leads) ∙ ap (number r.negative j) (sym whole)))
