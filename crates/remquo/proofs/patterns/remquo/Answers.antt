-- `remquo` meets its contract: the operands are those of the patterns.
use Rattle.remquo.proofs.OfOperands.{patterns_signed, patterns_denormal}
use Rattle.remquo.proofs.patterns.remquo.Goals as goal

pub returns : goal.returns
returns g c =
    let f = g.F.Format.format in
    let a = c.args in record {
      answer = patterns_signed f g.met.F.Format.sound _ _ _ _ c.unpack.ensures c.unpack-2.ensures a.kind c.signed_of.result c.signed_of.ensures;
      denormal = patterns_denormal f a.kind (g.F.Format.bits a.x) (g.F.Format.bits a.y) c.any_denormal.result c.any_denormal.ensures;
    }
