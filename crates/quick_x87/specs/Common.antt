-- Normal x87 numbers, on the words of their patterns. Nothing to believe: these only name the code's own values.
use Rattle.std.specs.Prelude.{ℕ, ◌%◌, ◌^◌, Bool, ◌&&◌, ltb, leb}

abbrev pub field_of : ℕ → ℕ
field_of word = word % 32768

-- a leading digit, and a field that is neither the first nor the last
abbrev pub normal : ℕ → ℕ → Bool
normal significand word = leb (2 ^ 63) significand && ltb 0 (field_of word) && ltb (field_of word) 32767

abbrev pub normals : ℕ → ℕ → ℕ → ℕ → Bool
normals x xw y yw = normal x xw && normal y yw
