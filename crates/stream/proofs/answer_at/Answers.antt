-- `answer_at` meets its contract: the bytes of the answer are copied, and its newline is put after them.
use mathlib.Core.Path.{sym, ap, ◌∙◌}
use mathlib.Core.List.{List, [], ◌∷◌, ◌++◌}
use Prim.Native.Nat.{ℕ, ◌+◌, ◌-◌}
use native.Mathlib.Omega.{arith}
use lib.ListN.{take, length-append}
use lib.Seq.{length-paste}
use Rattle.std.proofs.lemmas.Slice.{put_mid-paste}
use Rattle.definitions.specs.Line.{line_for, newline}
use Rattle.stream.proofs.LineLength.{shows}
use Rattle.stream.proofs.Placed.{ended}
use Rattle.stream.proofs.answer_at.Goals as goal

pub overflow_add-end : goal.overflow_add-end
overflow_add-end c =
    let o = shows c.args.line.now c.answer_line-answer.result c.answer_line-answer.ensures in omega arith

pub bounds-out-end : goal.bounds-out-end
bounds-out-end c =
    let a = c.args in
    let result = c.answer_line-answer.result in
    let o = shows a.line.now result c.answer_line-answer.ensures in
    rw (
      put_mid-paste a.at (a.at + 20 - a.at) a.out.now c.copy_from_slice.new.self result.bytes 20 c.copy_from_slice.ensures.after (omega arith) (sym o.bytes),
      length-paste a.out.now a.at result.bytes 20 (omega arith) (omega arith),
    )
    (omega arith)

pub overflow_add-result : goal.overflow_add-result
overflow_add-result c =
    let o = shows c.args.line.now c.answer_line-answer.result c.answer_line-answer.ensures in omega arith

pub returns : goal.returns
returns c =
    let a = c.args in
    let result = c.answer_line-answer.result in
    let o = shows a.line.now result c.answer_line-answer.ensures in
    let long = length-append (line_for a.line.now) (newline ∷ []) in
    record {
      bytes =
          rw (put_mid-paste a.at (a.at + 20 - a.at) a.out.now c.copy_from_slice.new.self result.bytes 20 c.copy_from_slice.ensures.after (omega arith) (sym o.bytes))
          (ended a.out.now a.at result.bytes result.len 20 newline (omega arith) (omega arith) (omega arith))
          ∙ ap (λ (s : List ℕ). take a.at a.out.now ++ (s ++ (newline ∷ []))) o.line;
      end = omega arith;
    }
