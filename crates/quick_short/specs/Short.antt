-- Formats with short significands, and the normal numbers of their patterns. Nothing to believe: these only name the code's own values.
use Rattle.std.specs.Prelude.{ℕ, ◌+◌, ◌/◌, ◌%◌, ◌≤◌, ◌≡◌, Bool, ◌&&◌, ◌||◌, ltb, leb, refl}
use lib.Dec.{lit≤}
use Rattle.definitions.specs.Format.{Format, binary16, binary32, top_field, leading, field_weight}
use Rattle.definitions.specs.declared.Kind.{Kind}
use Rattle.definitions.specs.declared.Layout.TheVariants.{Hidden}
use Rattle.shapes.specs.Shape.{Sound}
use Rattle.shapes.proofs.Sounds.{sound16, sound32}
use Rattle.quick.specs.Common.{margin_of}

-- 24 digits at most, the leading one hidden
pub record Short (f : Format) : Type 0 where
  pub sound : Sound f
  pub few : f.precision ≤ 24
  pub hidden : f.layout ≡ Hidden

pub short16 : Short binary16
short16 = record { sound = sound16; few = lit≤ tt; hidden = refl }

pub short32 : Short binary32
short32 = record { sound = sound32; few = lit≤ tt; hidden = refl }

abbrev pub field_of : Format → ℕ → ℕ
field_of f b = b / field_weight f % (top_field f + 1)

-- of a normal number
abbrev pub significand_of : Format → ℕ → ℕ
significand_of f b = leading f + b % field_weight f

-- both normal, and the dividend's field not below the divisor's
abbrev pub common : Format → ℕ → ℕ → Bool
common f x y = ltb (field_of f x) (top_field f) && ltb 0 (field_of f y) && leb (field_of f y) (field_of f x)

-- both normal, and the dividend's field below the divisor's: so far that the quotient does not go up
abbrev pub kept : Format → Kind → ℕ → ℕ → Bool
kept f κ x y = ltb 0 (field_of f x) && ltb (field_of f x + margin_of κ) (field_of f y) && ltb (field_of f y) (top_field f)

-- either of them
abbrev pub quick : Format → Kind → ℕ → ℕ → Bool
quick f κ x y = common f x y || kept f κ x y
