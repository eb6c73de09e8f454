-- `signed_of` meets its contract: the remainder's bits fit an i32, and get the sign of both operands.
use Rattle.std.proofs.lemmas.Result.{err_from_is_err_and}
use mathlib.Core.Path.{◌∙◌}
use mir.Syntax.{w32}
use mir.ValLaws.{to_z-of_z}
use Rattle.remquo.proofs.OfOperands.{bits_few, finished, refused}
use borrow.Author.Rules.{rules}
use Rattle.remquo.proofs.signed.signed_of.Goals as goal

pub returns-in_err-residue : goal.returns-in_err-residue
returns-in_err-residue g c =
    let p = err_from_is_err_and c.from_residual.result c.from_residual.ensures.1 in
    rw (p.1, p.2) (refused g.F.Format.format c.args.kind _ _ c.remainder_of.result c.remainder_of.ensures _ c.in_err-residue.was)

pub with_sign-requires : goal.with_sign-requires
with_sign-requires g c = bits_few g.F.Format.format c.args.kind _ _ c.remainder_of.result c.remainder_of.ensures _ c.in_ok-residue.was

pub returns : goal.returns
returns g c =
    let s = g.F.Format.format.smallest in
    finished g.F.Format.format c.args.kind _ _ c.remainder_of.result c.remainder_of.ensures _ c.in_ok-residue.was _
    (to_z-of_z w32 _ (search rules) ∙ c.with_sign.ensures ∙ rw (c.is_negative.ensures s, c.is_negative-2.ensures s, c.operand-dividend.ensures.is, c.operand-divisor.ensures.is))
