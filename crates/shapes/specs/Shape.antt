-- The formats that the code takes, and the fields of a pattern. Nothing to believe: these only name what the code asks for and makes.
use Rattle.std.specs.Prelude.{ℕ, ◌+◌, ◌/◌, ◌%◌, ◌^◌, ◌≤◌, ◌≡◌, Bool, cond, leb, ltb}
use Rattle.definitions.specs.Format.{Format, Regular, patterns, top_field, field_weight, sign_weight}
use Rattle.definitions.specs.declared.Layout.{Layout}
use Rattle.definitions.specs.declared.Layout.TheVariants.{Hidden, Explicit}
use Rattle.shapes.specs.declared.fields.Fields.{Fields}

-- how the two words of a pattern are filled: with a hidden leading digit all is in the low one, and an explicit significand fills it
abbrev pub Filled : Layout → Format → Type 0
Filled Hidden f = patterns f ≤ 2 ^ 64
Filled Explicit f = f.precision ≡ 64

-- a format that the code takes: regular, with significands of one word and exponents of x87's range
pub record Sound (f : Format) : Type 0 where
  pub regular : Regular f
  pub narrow : f.precision ≤ 64
  pub short : f.bias ≤ 16383
  pub filled : Filled f.layout f

-- the fields of what stands above the stored significand, and of a pattern
abbrev pub fields_above : ℕ → ℕ → ℕ → Fields
fields_above top above stored = record { negative = ltb top above; field = above % (top + 1); stored = stored }

abbrev pub fields_in : Format → ℕ → Fields
fields_in f b = record { negative = leb (sign_weight f) b; field = b / field_weight f % (top_field f + 1); stored = b % field_weight f }

-- an exponent field with the sign over it
abbrev pub above : Format → Bool → ℕ → ℕ
above f n e = cond n (top_field f + 1 + e) e
