-- `digits_line` meets its contract: one digit more is put, and at the end all digits and the spaces stand.
use mathlib.Core.Path.{◌≡◌, refl, sym, ap, subst, ◌∙◌}
use mathlib.Core.List.{List, [], ◌∷◌, ◌++◌, append-nil}
use Prim.Native.Nat.{ℕ, ◌+◌, ◌-◌, ◌*◌}
use native.Mathlib.Numerals.{add-one}
use native.Mathlib.Omega.{arith}
use lib.ListN.{take, drop, take-append-drop, length-set}
use lib.Seq.{take-suc-set, drop-set-lt}
use Rattle.definitions.specs.Line.{hex_digits}
use Rattle.hexadecimal.proofs.HexDigits.{digit_put}
use Rattle.lines.specs.Output.{output_of}
use Rattle.lines.proofs.output.digits_line.Goals as goal

pub loop-k-preserved : goal.loop-k-preserved
loop-k-preserved c =
    let l = c.loop-k in
    let place : 60 - 4 * l.k ≡ 4 * (16 - l.k - 1) = omega arith in
    let left : 16 - (l.k + 1) ≡ 16 - l.k - 1 = omega arith in
    let digit = c.upper_hex.result in (
      length-set _ _ _ ∙ l.invariant.0,
      rw (left, add-one, take-suc-set l.bytes l.k digit (omega (arith, l.invariant.0)), c.upper_hex.ensures, place)
          (digit_put (take l.k l.bytes) c.args.value (16 - l.k) (omega arith) ∙ l.invariant.1),
      drop-set-lt 16 l.bytes l.k digit (omega arith) ∙ l.invariant.2,
    )

pub returns : goal.returns
unfolding output_of
returns c =
    let l = c.loop-k in
    let v = c.args.value in
    let done : l.k ≡ 16 = omega arith in
    let digits : take 16 l.bytes ≡ hex_digits 16 v =
    sym (append-nil (take 16 l.bytes)) ∙ subst (λ (k : ℕ). take k l.bytes ++ hex_digits (16 - k) v ≡ hex_digits 16 v) done l.invariant.1 in
    let whole : l.bytes ≡ hex_digits 16 v ++ (32 ∷ 32 ∷ 32 ∷ 32 ∷ []) =
    sym (take-append-drop 16 l.bytes)
    ∙ ap (λ (o : List ℕ). o ++ drop 16 l.bytes) digits
    ∙ ap (λ (r : List ℕ). hex_digits 16 v ++ r) l.invariant.2
    in
    rw whole refl
