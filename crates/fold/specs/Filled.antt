-- What the places of an accepted list get, and what a call answers. Nothing to believe: these only name the code's own values.
use Rattle.std.specs.Prelude.{ℕ, ◌≡◌, List, map, Result, Ok, Err}
use Rattle.definitions.specs.Fold.{Folded, result_at, byte_at, bad_places}
use Rattle.definitions.specs.declared.Kind.{Kind}
use Rattle.definitions.specs.Answers.{refusal_number}
use Rattle.definitions.specs.declared.Refusal.{Refusal}

-- every place of both lists written, and the marked ones counted
pub record Filled (κ : Kind) (y : ℕ) (xs results quotients : List ℕ) (marked : ℕ) : Type 0 where
  pub values : results ≡ map (result_at κ y) xs
  pub bytes : quotients ≡ map (byte_at κ y) xs
  pub count : marked ≡ bad_places xs

-- what a call answers, how many are marked or a refusal, and the two lists that it leaves
abbrev pub fold_meaning : Result ℕ Refusal → List ℕ → List ℕ → Folded
fold_meaning (Ok m) results quotients = record { number = 0; results = results; quotients = quotients; marked = m }
fold_meaning (Err why) results quotients = record { number = refusal_number why; results = results; quotients = quotients; marked = 0 }
