-- A list of bytes with k of them at a place written. Definitions only.
use Rattle.std.specs.Prelude.{ℕ, ◌+◌, List, ◌++◌, take, drop}
use Rattle.definitions.specs.Bytes.{bytes_of}

abbrev pub stored : ℕ → ℕ → ℕ → List ℕ → List ℕ
stored k at n bytes = take at bytes ++ (bytes_of k n ++ drop (at + k) bytes)
