-- A pattern is denormal by its fields. Assumes nothing.
use mathlib.Core.Path.{◌≡◌}
use mathlib.Core.Bool.{false, not}
use Prim.Native.Nat.{ℕ}
use borrow.Author.Tests.{eq-eqb, ne_eqb}
use lib.Dec.{eqb}
use Rattle.definitions.specs.Format.{Format}
use Rattle.definitions.specs.Facts.{denormal}
use Rattle.shapes.specs.declared.fields.Fields.{Fields}
use Rattle.shapes.specs.Shape.{fields_in}

module _ (f : Format) (b : ℕ) (r : Fields) (is : r ≡ fields_in f b) where
  -- the stored significand is found, however the code writes it
  pub field_none : r.field ≡ 0 → (t : ℕ) → t ≡ r.stored → not (eqb t 0) ≡ denormal f b
  unfolding denormal
  field_none e t same = rw (same, is, eq-eqb _ 0 (rw is at e))

  pub field_some : (r.field ≡ 0 → ⊥) → false ≡ denormal f b
  unfolding denormal
  field_some h = rw (ne_eqb _ 0 (rw is at h))
