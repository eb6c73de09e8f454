-- The remainder of two x87 patterns meets its contract: two normal numbers by their own ways, and any two patterns by the general one.
use mathlib.Core.Path.{sym, ◌∙◌}
use native.Mathlib.Omega.{arith}
use Rattle.definitions.specs.Format.{x87, words}
use Rattle.quick.proofs.Normals.{Normal}
use Rattle.quick_x87.proofs.Parts.{both}
use Rattle.remainder.proofs.OfPatterns.{normals_told}
use Rattle.remainder.proofs.patterns.X87Remainder.remainder.Goals.{After-is_below}
use Rattle.remainder.proofs.patterns.X87Remainder.remainder.Goals as goal

both_normal : (c : After-is_below) → Normal x87 (words c.args.self.word c.args.self.significand) × Normal x87 (words c.args.divisor.word c.args.divisor.significand)
both_normal c =
    let p = both _ _ _ _ (omega arith) (omega arith) (omega arith) (omega arith) (sym c.are_normal.ensures ∙ c.if-not-are_normal.false) in
    (p.0.normal, p.1.normal)

pub returns-then-is_kept : goal.returns-then-is_kept
returns-then-is_kept c =
    let n = both_normal (goal.at.returns-then-is_kept c).After-is_below in
    let t = c.told in
    let k = normals_told x87 c.args.kind _ _ n.0 n.1 c.remainder_kept.result t.result t.ensures.answer t.ensures.denormal c.remainder_kept.ensures in
    record { answer = k.0; denormal = k.1 }

pub returns : goal.returns
returns c =
    let n = both_normal (goal.at.returns c).After-is_below in
    let t = c.told-2 in
    let k = normals_told x87 c.args.kind _ _ n.0 n.1 c.remainder_common.result t.result t.ensures.answer t.ensures.denormal c.remainder_common.ensures in
    record { answer = k.0; denormal = k.1 }
