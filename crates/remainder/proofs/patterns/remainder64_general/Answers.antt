-- `remainder64_general` meets its contract: the operands are those of the patterns.
use Rattle.definitions.specs.Format.{binary64}
use Rattle.shapes.proofs.Sounds.{sound64}
use Rattle.remainder.proofs.OfPatterns.{patterns_remainder, patterns_denormal, patterns_divisions}
use Rattle.remainder.proofs.patterns.remainder64_general.Goals as goal

pub returns : goal.returns
returns c =
    let r = c.remainder_counted-counted in
    let x = c.unpack.ensures in
    let y = c.unpack-2.ensures in record {
      answer = patterns_remainder binary64 sound64 _ _ _ _ x y _ r.result.value r.ensures.answer;
      denormal = patterns_denormal binary64 _ _ _ c.any_denormal-denormal.result c.any_denormal-denormal.ensures;
      divisions = patterns_divisions binary64 sound64 _ _ _ _ x y _ r.ensures.divisions;
    }
