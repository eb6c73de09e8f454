-- Which lines are answered, by what the code finds on them. Assumes nothing.
use mathlib.Core.Path.{◌≡◌, refl, ap}
use mathlib.Core.Bool.{Bool, true, false, cond, ◌&&◌}
use mathlib.Core.List.{List}
use Prim.Native.Nat.{ℕ, ◌-◌}
use native.Mathlib.Omega.{arith}
use borrow.Author.Tests.{eq-eqb, ne_eqb}
use lib.ListN.{length, get_or, take, drop, length-take, length-drop}
use Rattle.std.proofs.Common.{Option, Some, None}
use Rattle.digits.proofs.Tests.{clash, and_true, and_false}
use Rattle.definitions.specs.declared.Kind.TheVariants.{Truncated}
use Rattle.definitions.specs.Format.{binary64}
use Rattle.definitions.specs.Remainder.{remainder}
use Rattle.definitions.specs.Line.{all_hex, hex_value, well_formed, answer_line, bad_line, line_for}
use Rattle.hexadecimal.specs.Field.{field_of}
use Rattle.lines.specs.Fields.{fields_of}
use Rattle.lines.proofs.Parts.{rest_whole}

bad : (l : List ℕ) → well_formed l ≡ false → line_for l ≡ bad_line
unfolding line_for
bad l w = rw w

bad_fields : (l : List ℕ) → well_formed l ≡ false → None ≡ fields_of l
unfolding fields_of
bad_fields l w = rw w

ill_length : (l : List ℕ) → (length l ≡ 33 → ⊥) → well_formed l ≡ false
unfolding well_formed
ill_length l n = simp (ne_eqb (length l) 33 n)

pub bad_length : (l : List ℕ) → (length l ≡ 33 → ⊥) → line_for l ≡ bad_line
bad_length l n = bad l (ill_length l n)

pub no_length : (l : List ℕ) → (length l ≡ 33 → ⊥) → None ≡ fields_of l
no_length l n = bad_fields l (ill_length l n)

pub no_space : (l : List ℕ) → (get_or l 16 0 ≡ 32 → ⊥) → None ≡ fields_of l
unfolding well_formed
no_space l n = bad_fields l (simp (ne_eqb (get_or l 16 0) 32 n, and_false))

-- what is told of a line of 33 bytes with a space between the fields, by what is told of each field
abbrev pub both : Option ℕ → Option ℕ → Option (ℕ × ℕ)
both None q = None
both (Some x) None = None
both (Some x) (Some y) = Some (x, y)

told_of : (x y : ℕ) (p q : Bool) → both (cond p (Some x) None) (cond q (Some y) None) ≡ cond (p && q) (Some (x, y)) None
told_of x y true true = refl
told_of x y true false = refl
told_of x y false true = refl
told_of x y false false = refl

pub told : (l : List ℕ) (o p : Option ℕ) → length l ≡ 33 → get_or l 16 0 ≡ 32 → o ≡ field_of (take 16 l)
    → p ≡ field_of (take (length l - 17) (drop 17 l)) → both o p ≡ fields_of l
unfolding fields_of well_formed field_of
told l o p e s fo fp =
    let first : length (take 16 l) ≡ 16 = rw (length-take 16 l) (omega arith) in
    let second : length (drop 17 l) ≡ 16 = rw (length-drop 17 l) (omega arith) in
    rw (fo, fp, rest_whole 17 l)
    (simp (eq-eqb _ _ e, eq-eqb _ _ s, eq-eqb _ _ first, eq-eqb _ _ second, and_true)
    (told_of (hex_value 0 (take 16 l)) (hex_value 0 (drop 17 l)) (all_hex (take 16 l)) (all_hex (drop 17 l))))

-- the line that answers what is told
module _ (l : List ℕ) where
  answer : ℕ × ℕ → List ℕ
  answer p = answer_line (remainder binary64 Truncated p.0 p.1)

  held : ℕ × ℕ
  held = (hex_value 0 (take 16 l), hex_value 0 (drop 17 l))

  pub answered : (x y : ℕ) → Some (x, y) ≡ fields_of l → line_for l ≡ answer_line (remainder binary64 Truncated x y)
  unfolding line_for fields_of answer held
  answered x y = go (well_formed l)
    where
      go : (t : Bool) → Some (x, y) ≡ cond t (Some held) None → cond t (answer held) bad_line ≡ answer (x, y)
      go true h = let same : held ≡ (x, y) = cc in ap answer same
      go false h = clash (cc)

  pub unanswered : None ≡ fields_of l → line_for l ≡ bad_line
  unfolding line_for fields_of answer held
  unanswered = go (well_formed l)
    where
      go : (t : Bool) → None ≡ cond t (Some held) None → cond t (answer held) bad_line ≡ bad_line
      go true h = clash (cc)
      go false h = refl
