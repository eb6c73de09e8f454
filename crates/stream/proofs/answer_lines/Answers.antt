-- `answer_lines` meets its contract: the lines that ended are answered, and what is left is kept.
use mathlib.Core.Path.{◌≡◌, sym, ap, ◌∙◌}
use mathlib.Core.List.{List, []}
use Prim.Native.Nat.{ℕ, ◌+◌, ◌-◌, min}
use native.Mathlib.Omega.{arith}
use lib.ListN.{length, take, drop, length-take, length-drop}
use lib.Seq.{length-take-le, take-take}
use Rattle.std.proofs.lemmas.List.{take_min, drop-take}
use Rattle.definitions.specs.Line.{begun}
use Rattle.stream.specs.Stream.{kept_bytes}
use Rattle.stream.proofs.Holding.{holding}
use Rattle.stream.proofs.answer_lines.Goals as goal

pub returns : goal.returns
returns c =
    let pass = c.answer_ended-pass in
    let kept = c.keep-kept in
    let buffer = c.args.buffer.now in
    let filled = c.args.filled in
    let begin = pass.result.begin in
    let rest : List ℕ = drop begin (take filled buffer) in
    let whole : length (take filled buffer) ≡ filled = length-take-le filled buffer c.requires.0 in
    let long : length rest ≡ filled - begin = length-drop begin (take filled buffer) ∙ ap (λ (n : ℕ). n - begin) whole in
    let end : filled ≡ begin + (filled - begin) = omega (arith, pass.ensures.inside, whole) in
    let part : rest ≡ take (filled - begin) (drop begin buffer) =
    ap (λ (n : ℕ). drop begin (take n buffer)) end ∙ drop-take begin (filled - begin) buffer in
    let count : kept.result ≡ min kept_bytes (length rest) = kept.ensures.0 ∙ ap (min kept_bytes) (sym long) in
    record {
      answers = pass.ensures.answers;
      rest =
          holding _ _ kept.result
          (kept.ensures.1
          ∙ sym (take-take kept.result (filled - begin) (drop begin buffer) (omega (arith, kept.ensures.0)))
          ∙ ap (take kept.result) (sym part)
          ∙ ap (λ (n : ℕ). take n rest) count
          ∙ take_min kept_bytes rest
          ∙ ap (take kept_bytes) pass.ensures.rest)
          (count ∙ ap (λ (l : List ℕ). min kept_bytes (length l)) pass.ensures.rest ∙ sym (length-take kept_bytes (begun [] (take filled buffer))));
      short = omega (arith, kept.ensures.0);
    }
