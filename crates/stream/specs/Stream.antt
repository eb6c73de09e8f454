-- How the line program's output comes about piece by piece. Definitions only.
use Rattle.std.specs.Prelude.{ℕ, ◌+◌, ◌≤◌, ◌≡◌, length, take, drop}
use mathlib.Core.List.{List, [], ◌∷◌, ◌++◌, flatten}
use Rattle.definitions.specs.Line.{answered, written, begun, last_written, output_for}
use Rattle.stream.specs.declared.Pass.{Pass}
use Rattle.stream.specs.declared.Turn.{Turn}

-- What is kept of a line that has begun: of a line that is longer than any line with an answer, enough to know it by.
abbrev pub kept_bytes : ℕ
kept_bytes = 34

-- what is written where the input comes in pieces, each taken after what was kept
unfoldable pub in_pieces : List ℕ → List (List ℕ) → List ℕ
in_pieces line [] = last_written line
in_pieces line (p ∷ ps) = written [] (line ++ p) ++ in_pieces (take kept_bytes (begun [] (line ++ p))) ps

-- it does not matter where a read cuts the input
abbrev pub CutAnywhere : Type 0
CutAnywhere = (pieces : List (List ℕ)) → in_pieces [] pieces ≡ output_for (flatten pieces)

-- The first n bytes of a list are those told. The last two parts follow from the others: with them a caller lends that part with no proof of its own.
pub record BeginsWith (list told : List ℕ) (n : ℕ) : Type 0 where
  pub bytes : take n list ≡ told
  pub end : n ≡ length told
  pub inside : n ≤ length list
  pub part : n ≡ length (take n list)

-- `out` up to `next` is what it was up to `at`, and the answer of a line
pub record Put (line out out' : List ℕ) (at next : ℕ) : Type 0 where
  pub bytes : take next out' ≡ take at out ++ answered line
  pub end : next ≡ at + length (answered line)

-- the lines that end in an input answered, and where the line begins that has not ended
pub record Passed (input out' : List ℕ) (pass : Pass) : Type 0 where
  pub answers : BeginsWith out' (written [] input) pass.written
  pub rest : drop pass.begin input ≡ begun [] input
  pub inside : pass.begin ≤ length input

-- the same, and what is kept of the line that has begun
pub record Turned (input buffer' out' : List ℕ) (turn : Turn) : Type 0 where
  pub answers : BeginsWith out' (written [] input) turn.written
  pub rest : BeginsWith buffer' (take kept_bytes (begun [] input)) turn.kept
  pub short : turn.kept ≤ kept_bytes
