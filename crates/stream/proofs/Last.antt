-- The last line of an input, which needs no newline. Assumes nothing.
use mathlib.Core.Path.{◌≡◌, refl}
use mathlib.Core.List.{List, [], ◌∷◌}
use Prim.Native.Nat.{ℕ}
use native.Mathlib.Omega.{arith}
use lib.ListN.{length}
use Rattle.digits.proofs.Tests.{clash}
use Rattle.definitions.specs.Line.{answered, last_written}

pub last_none : (line : List ℕ) → length line ≡ 0 → last_written line ≡ []
last_none [] e = refl
last_none (c ∷ line) e = clash (omega arith)

pub last_some : (line : List ℕ) → (length line ≡ 0 → ⊥) → last_written line ≡ answered line
last_some [] n = absurd (n refl)
last_some (c ∷ line) n = refl
