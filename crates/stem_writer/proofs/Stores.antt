-- Numbers stored behind each other are their bytes in a row. Assumes nothing.
use mathlib.Core.Path.{◌≡◌, ◌∙◌}
use mathlib.Core.List.{List, ◌++◌}
use Prim.Native.Nat.{ℕ, ◌+◌, ◌≤◌}
use lib.ListN.{length}
use lib.Seq.{sets, length-sets}
use Rattle.definitions.specs.Bytes.{bytes_of}
use Rattle.little_endian.specs.Stored.{stored}
use Rattle.little_endian.proofs.Joined.{stored_sets, sets_joined}

-- a row that is longer
pub sets_more : (room row more : List ℕ) (from at : ℕ) → from + length row ≡ at → sets (sets room from row) at more ≡ sets room from (row ++ more)
sets_more room row more from at is = rw (← is) (sets_joined room from row more)

-- by a number
pub stored_more : (room row : List ℕ) (from at k n : ℕ) → from + length row ≡ at → at + k ≤ length room
    → stored k at n (sets room from row) ≡ sets room from (row ++ bytes_of k n)
stored_more room row from at k n is fits =
    stored_sets k at n (sets room from row) (rw (length-sets room from row) fits) ∙ sets_more room row (bytes_of k n) from at is
