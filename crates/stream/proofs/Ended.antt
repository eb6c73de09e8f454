-- The lines that end in an input answered one by one. Assumes nothing.
use mathlib.Core.Path.{◌≡◌, refl, sym, ap, ◌∙◌}
use mathlib.Core.List.{List, [], ◌∷◌, ◌++◌, append-nil}
use Prim.Native.Nat.{ℕ, ◌+◌, ◌-◌, ◌*◌, ◌≤◌, ◌<◌, zero-le}
use native.Mathlib.Numerals.{add-one}
use native.Mathlib.Omega.{arith}
use borrow.Author.Tests.{eq-eqb, ne_eqb}
use lib.ListN.{length, get_or, take, drop, length-append, length-drop}
use lib.Seq.{take_all, take-suc, length-take-le}
use Rattle.definitions.specs.Line.{newline, answered, written_at, begun_at, written, begun}
use Rattle.stream.specs.Stream.{Put, Passed}
use Rattle.stream.specs.declared.Pass.{Pass}
use Rattle.stream.proofs.Appended.{written_append, begun_append}
use Rattle.stream.proofs.Holding.{holding}
use Rattle.lines.proofs.Parts.{rest_whole, part_more}
use Rattle.stream.proofs.LineLength.{answered_length}

-- The first i bytes of an input taken: the line that has begun at `begin`, what was put into `out` up to `at`, and that there is room for all.
pub record SoFar (input out : List ℕ) (begin at i : ℕ) : Type 0 where
  pub order : begin ≤ i
  pub inside : i ≤ length input
  pub line : begun [] (take i input) ≡ take (i - begin) (drop begin input)
  pub bytes : take at out ≡ written [] (take i input)
  pub end : at ≡ length (written [] (take i input))
  pub room : at ≤ 9 * begin

pub none_yet : (input out : List ℕ) → SoFar input out 0 0 0
none_yet input out = record { order = zero-le; inside = zero-le; line = refl; bytes = refl; end = refl; room = zero-le }

module _ (input : List ℕ) (i : ℕ) (h : i < length input) where
  one_more : take (i + 1) input ≡ take i input ++ (get_or input i 0 ∷ [])
  one_more = rw add-one (take-suc input i 0 h)

  written_next : written [] (take (i + 1) input) ≡ written [] (take i input) ++ written_at (begun [] (take i input)) (get_or input i 0)
  written_next = ap (written []) one_more
      ∙ written_append [] (take i input) (get_or input i 0 ∷ [])
      ∙ ap (λ (l : List ℕ). written [] (take i input) ++ l) (append-nil (written_at (begun [] (take i input)) (get_or input i 0)))

  begun_next : begun [] (take (i + 1) input) ≡ begun_at (begun [] (take i input)) (get_or input i 0)
  begun_next = ap (begun []) one_more ∙ begun_append [] (take i input) (get_or input i 0 ∷ [])

  -- a newline
  pub line_ended : (out out' : List ℕ) (begin at at' : ℕ) → get_or input i 0 ≡ newline → SoFar input out begin at i
      → Put (take (i - begin) (drop begin input)) out out' at at' → SoFar input out' (i + 1) at' (i + 1)
  line_ended out out' begin at at' n s p =
      let line = take (i - begin) (drop begin input) in
      let told : written_at (begun [] (take i input)) (get_or input i 0) ≡ answered line = rw (eq-eqb (get_or input i 0) newline n, s.line) refl in
      let none : begun_at (begun [] (take i input)) (get_or input i 0) ≡ [] = rw (eq-eqb (get_or input i 0) newline n) refl in
      let all : written [] (take (i + 1) input) ≡ written [] (take i input) ++ answered line = written_next ∙ ap (λ (l : List ℕ). written [] (take i input) ++ l) told in
      let zero : i + 1 - (i + 1) ≡ 0 = omega arith in
      let long : length line ≡ i - begin = length-take-le (i - begin) (drop begin input) (rw (length-drop begin input) (omega arith)) in
      record {
        order = omega arith;
        inside = omega arith;
        line = rw zero (begun_next ∙ none);
        bytes = p.bytes ∙ ap (λ (l : List ℕ). l ++ answered line) s.bytes ∙ sym all;
        end = rw (all, length-append (written [] (take i input)) (answered line)) (omega (arith, p.end, s.end));
        room = omega (arith, p.end, s.room, s.order, answered_length line);
      }

  -- any other byte
  pub line_longer : (out : List ℕ) (begin at : ℕ) → (get_or input i 0 ≡ newline → ⊥) → SoFar input out begin at i → SoFar input out begin at (i + 1)
  line_longer out begin at n s =
      let told : written_at (begun [] (take i input)) (get_or input i 0) ≡ [] = rw (ne_eqb (get_or input i 0) newline n) refl in
      let longer : begun_at (begun [] (take i input)) (get_or input i 0) ≡ begun [] (take i input) ++ (get_or input i 0 ∷ []) = rw (ne_eqb (get_or input i 0) newline n) refl in
      let all : written [] (take (i + 1) input) ≡ written [] (take i input) = written_next ∙ ap (λ (l : List ℕ). written [] (take i input) ++ l) told ∙ append-nil (written [] (take i input)) in
      record {
        order = omega (arith, s.order);
        inside = omega arith;
        line = begun_next ∙ longer ∙ ap (λ (l : List ℕ). l ++ (get_or input i 0 ∷ [])) s.line ∙ rw add-one (sym (part_more input begin i s.order h));
        bytes = s.bytes ∙ sym all;
        end = s.end ∙ ap length (sym all);
        room = s.room;
      }

pub all_passed : (input out : List ℕ) (pass : Pass) (i : ℕ) → length input ≤ i → SoFar input out pass.begin pass.written i → Passed input out pass
all_passed input out pass i h s =
    let whole = take_all i input h in
    let all : i ≡ length input = omega (arith, s.inside) in
    record {
      answers =
          holding out (written [] input) pass.written (s.bytes ∙ ap (written []) whole) (s.end ∙ ap (λ (l : List ℕ). length (written [] l)) whole);
      rest = sym (rest_whole pass.begin input) ∙ ap (λ (n : ℕ). take (n - pass.begin) (drop pass.begin input)) (sym all) ∙ sym s.line ∙ ap (begun []) whole;
      inside = omega (arith, s.order);
    }
