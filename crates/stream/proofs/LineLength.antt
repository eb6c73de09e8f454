-- How long a line of output is, and how it stands in an `Output`. Assumes nothing.
use mathlib.Core.Path.{◌≡◌, refl, sym, subst}
use mathlib.Core.Bool.{Bool, true, false, cond, ◌&&◌}
use mathlib.Core.Logic.{◌⊎◌, inl, inr, ⊎_elim}
use mathlib.Core.List.{List}
use Prim.Native.Nat.{ℕ, ◌+◌, ◌-◌, ◌*◌, ◌≤◌}
use native.Mathlib.Omega.{arith}
use borrow.Author.Tests.{eqb-true}
use lib.Dec.{eqb}
use lib.ListN.{length, get_or, take, drop, replicate, length-append, length-replicate}
use lib.Seq.{take_at}
use Rattle.digits.proofs.Tests.{and_both}
use Rattle.definitions.specs.declared.Kind.TheVariants.{Truncated}
use Rattle.definitions.specs.Format.{binary64}
use Rattle.definitions.specs.Remainder.{Remainder, remainder}
use Rattle.definitions.specs.Line.{all_hex, hex_value, well_formed, answer_line, bad_line, line_for, answered}
use Rattle.lines.specs.Output.{output_of}
use Rattle.lines.specs.declared.output.Output.{Output}

answer_length : (r : Remainder) → length (answer_line r) ≡ 20
unfolding answer_line
answer_length r = refl

well_formed_length : (l : List ℕ) → well_formed l ≡ true → length l ≡ 33
unfolding well_formed
well_formed_length l w =
    let spaced = (and_both (eqb (length l) 33 && all_hex (take 16 l) && eqb (get_or l 16 0) 32) (all_hex (drop 17 l)) w).0 in
    let first = (and_both (eqb (length l) 33 && all_hex (take 16 l)) (eqb (get_or l 16 0) 32) spaced).0 in
    eqb-true (length l) 33 (and_both (eqb (length l) 33) (all_hex (take 16 l)) first).0

-- an answer is longer than `bad line`, and a line that has one is long
either_length : (l : List ℕ) → ((length (line_for l) ≡ 20) × (length l ≡ 33)) ⊎ (length (line_for l) ≡ 8)
unfolding line_for
either_length l = go (well_formed l) (well_formed_length l)
  where
    r : Remainder
    r = remainder binary64 Truncated (hex_value 0 (take 16 l)) (hex_value 0 (drop 17 l))

    go : (t : Bool) → (t ≡ true → length l ≡ 33) → ((length (cond t (answer_line r) bad_line) ≡ 20) × (length l ≡ 33)) ⊎ (length (cond t (answer_line r) bad_line) ≡ 8)
    go true w = inl (answer_length r, w refl)
    go false w = inr refl

pub line_length : (l : List ℕ) → length (line_for l) ≤ 20
line_length l = ⊎_elim (λ e. omega arith) (λ e. omega arith) (either_length l)

-- no line of output is longer than nine times its line of input
pub answered_length : (l : List ℕ) → length (answered l) ≤ 9 * (length l + 1)
answered_length l = rw (length-append (line_for l)) (⊎_elim (λ e. omega arith) (λ e. omega arith) (either_length l))

-- the parts of an `Output` that holds the line of an answer
pub record Shows (o : Output) (l : List ℕ) : Type 0 where
  pub bytes : length o.bytes ≡ 20
  pub len : o.len ≡ length l
  pub short : length l ≤ 20
  pub line : take o.len o.bytes ≡ l

shown : (l : List ℕ) → length l ≤ 20 → Shows (output_of l) l
unfolding output_of
shown l h =
    record {
      bytes = rw (length-append l, length-replicate) (omega arith);
      len = refl;
      short = h;
      line = take_at l (replicate (20 - length l) 0) (length l) refl;
    }

pub shows : (l : List ℕ) (o : Output) → o ≡ output_of (line_for l) → Shows o (line_for l)
shows l o e = subst (λ (p : Output). Shows p (line_for l)) (sym e) (shown (line_for l) (line_length l))
