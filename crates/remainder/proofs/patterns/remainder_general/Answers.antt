-- `remainder_general` meets its contract: the operands are those of the patterns.
use Rattle.remainder.proofs.OfPatterns.{patterns_remainder, patterns_denormal}
use Rattle.remainder.proofs.patterns.remainder_general.Goals as goal

pub returns : goal.returns
returns g c =
    let f = g.F.Format.format in
    let a = c.args in record {
      answer = patterns_remainder f g.met.F.Format.sound _ _ _ _ c.unpack.ensures c.unpack-2.ensures a.kind c.remainder_of.result c.remainder_of.ensures;
      denormal = patterns_denormal f a.kind (g.F.Format.bits a.x) (g.F.Format.bits a.y) c.any_denormal.result c.any_denormal.ensures;
    }
