-- Normal numbers, on patterns. Nothing to believe: these only name the code's own values.
use Rattle.std.specs.Prelude.{ℕ, ◌+◌, Bool, ◌&&◌, ltb, leb, ℤ, pos, ◌+ℤ◌}
use Rattle.std.specs.Int.Signed.{lt_z}
use Rattle.definitions.specs.Format.{Format, top_field, leading, hidden_part}
use Rattle.shapes.specs.Shape.{fields_in}

-- neither the field 0 nor the largest, and a leading digit
abbrev pub normal : Format → ℕ → Bool
normal f b =
    let s = fields_in f b in
    ltb 0 s.field && ltb s.field (top_field f) && leb (leading f) (hidden_part f.layout (leading f) + s.stored)

-- a normal number, and one when it is scaled by 2 ^ k: the field is then k further up
abbrev pub stays_normal : Format → ℕ → ℤ → Bool
stays_normal f b k = let e = pos (fields_in f b).field +ℤ k in normal f b && (lt_z (pos 0) e && lt_z e (pos (top_field f)))
