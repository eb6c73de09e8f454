-- The 20-byte answer block of the exported step and run. Definitions only.
use Rattle.std.specs.Prelude.{ℕ, cond, List, ◌∷◌, ◌++◌, eqb}
use Rattle.definitions.specs.Numbers.{accepted}
use Rattle.definitions.specs.declared.Kind.{Kind}
use Rattle.definitions.specs.declared.Kind.TheVariants.{Truncated, Nearest}
use Rattle.definitions.specs.Bytes.{bytes_of}
use Rattle.definitions.specs.Remainder.{shown}
use Rattle.definitions.specs.Reports.{Report}

-- [9.5] the kind that a number is
abbrev pub kind_of : ℕ → Kind
kind_of k = cond (eqb k 0) Truncated Nearest

-- [9.4] the block of a report. A pattern is its word times 2 ^ 64 plus its significand, so that its ten bytes are significand and word
-- in a row.
unfoldable pub block_of : Report ℕ → List ℕ
block_of r = bytes_of 10 r.value ++ (r.number ∷ shown r.quotient ∷ (bytes_of 4 r.steps ++ bytes_of 4 r.quotient))

-- [9.6] what the lent block holds later
unfoldable pub block_after : List ℕ → Report ℕ → List ℕ
unfolding block_of
block_after lent r = cond (accepted r.number) (block_of r) lent
