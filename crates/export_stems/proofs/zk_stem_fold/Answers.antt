-- `zk_stem_fold` meets its contract: a refusal leaves the reading.
use mathlib.Core.Path.{refl, sym, ◌∙◌}
use Rattle.definitions.specs.Stem.{handing}
use Rattle.stems.proofs.Opened.{refusal_some}
use Rattle.export_stems.proofs.Refusing.{kept}
use Rattle.export_stems.proofs.zk_stem_fold.Goals as goal

pub returns-in-Err : goal.returns-in-Err
returns-in-Err c =
    let a = c.args in
    let number = c.into.ensures ∙ c.in-Err.ensures.number in
    record {
      number = number;
      reading = kept (handing a.kind a.period a.origin) c.into.result _ a.reading.now refl (sym number) (λ z. refusal_some c.in-Err.refusal (sym c.into.ensures ∙ z));
    }
