-- The answer block, place by place, and what a lent block holds after a call. Assumes nothing.
use mathlib.Core.Path.{◌≡◌, refl, sym, ap, ◌∙◌}
use mathlib.Core.Bool.{Bool, true, false, cond}
use mathlib.Core.List.{List, [], ◌∷◌, ◌++◌}
use Prim.Native.Nat.{ℕ, ◌*◌, ◌/◌, ◌%◌, ◌^◌}
use native.Mathlib.Nat.{mod-lt, div-one, div-add-mod', div-div-eq-div-mul}
use lib.Dec.{lit<}
use lib.ListN.{length, get_or}
use lib.Pow.{mod-mod-pow}
use Rattle.definitions.specs.Format.{words}
use Rattle.definitions.specs.Numbers.{accepted}
use Rattle.definitions.specs.Bytes.{bytes_of, loaded}
use Rattle.definitions.specs.Remainder.{shown}
use Rattle.definitions.specs.Reports.{Report}
use Rattle.definitions.specs.Exports.{significand_in, word_in}
use Rattle.definitions.specs.Block.{block_of, block_after}
use Rattle.laws.proofs.Bytes.{bytes_joined, of_bytes_lem}

-- the byte i of n, the lowest being 0
abbrev pub byte : ℕ → ℕ → ℕ
byte i n = n / 2 ^ (8 * i) % 256

-- a pattern's ten bytes are those of its two numbers
value_bytes : (v : ℕ) → bytes_of 10 v ≡ bytes_of 8 (significand_in v) ++ bytes_of 2 (word_in v)
value_bytes v = ap (bytes_of 10) (sym (div-add-mod' v (2 ^ 64))) ∙ bytes_joined 8 2 (significand_in v) (word_in v) (mod-lt v (lit< tt))

-- [9.2] a pattern is its two numbers
pub two_words : (v : ℕ) → words (word_in v) (significand_in v) ≡ v
two_words v = div-add-mod' v (2 ^ 64)

-- [9.4] each of the 20 places: in place 11 what is shown of the quotient, in the last four all that is told of it
pub block_layout : (r : Report ℕ)
    → let s = significand_in r.value in
    let w = word_in r.value in
    block_of r
    ≡ byte 0 s ∷ byte 1 s ∷ byte 2 s ∷ byte 3 s ∷ byte 4 s ∷ byte 5 s ∷ byte 6 s ∷ byte 7 s
    ∷ byte 0 w ∷ byte 1 w
    ∷ r.number
    ∷ shown r.quotient
    ∷ byte 0 r.steps ∷ byte 1 r.steps ∷ byte 2 r.steps ∷ byte 3 r.steps
    ∷ byte 0 r.quotient ∷ byte 1 r.quotient ∷ byte 2 r.quotient ∷ byte 3 r.quotient
    ∷ []
unfolding block_of
block_layout r = ap (λ (bs : List ℕ). bs ++ (r.number ∷ shown r.quotient ∷ (bytes_of 4 r.steps ++ bytes_of 4 r.quotient))) (value_bytes r.value) ∙ simp (div-div-eq-div-mul, div-one)

-- [9.4] bytes 16 to 19 are the quotient, and byte 11 is what is shown of that number, whatever the call
pub block_quotient : (r : Report ℕ) → loaded 4 16 (block_of r) ≡ r.quotient % 2 ^ 32
unfolding block_of
block_quotient r = of_bytes_lem 4 r.quotient

pub block_octant : (r : Report ℕ) → get_or (block_of r) 11 0 ≡ shown (loaded 4 16 (block_of r))
unfolding block_of
block_octant r = sym (ap shown (of_bytes_lem 4 r.quotient) ∙ mod-mod-pow r.quotient 29 3)

module _ (lent : List ℕ) (r : Report ℕ) where
  -- [9.6] a refusal leaves the block
  pub block_refused : accepted r.number ≡ false → block_after lent r ≡ lent
  unfolding block_after
  block_refused e = rw e

  -- [9.6] an answer fills it
  pub block_accepted : accepted r.number ≡ true → block_after lent r ≡ block_of r
  unfolding block_after
  block_accepted e = rw e

  -- [9.3] which has 20 bytes before and after
  pub block_length_lem : length lent ≡ 20 → length (block_after lent r) ≡ 20
  unfolding block_after block_of
  block_length_lem e = go (accepted r.number)
    where
      go : (t : Bool) → length (cond t (block_of r) lent) ≡ 20
      go true = refl
      go false = e
