-- What a file's number says of it. Assumes nothing.
use mathlib.Core.Path.{◌≡◌, refl, sym, ap, ◌∙◌}
use mathlib.Core.Bool.{Bool, true, false}
use mathlib.Core.List.{List}
use Prim.Native.Nat.{ℕ}
use native.Mathlib.Omega.{arith}
use lib.Dec.{eqb}
use Rattle.std.specs.Prelude.{Ok, Err}
use borrow.Author.Tests.{ne_eqb, eqb-true, eqb-false}
use Rattle.definitions.specs.Numbers.{first}
use Rattle.definitions.specs.Stem.{judging, stem, refused}
use Rattle.digits.proofs.Tests.{clash}
use Rattle.laws.proofs.Stem.{stem_opened}
use Rattle.gauges.specs.declared.Gauge.{Gauge}
use Rattle.gauges.specs.declared.StemRefusal.{StemRefusal}
use Rattle.gauges.specs.declared.StemRefusal.TheVariants.{UnequalLists, BadMark, BadVersion, BadKind, BadCount, BadLength, BadGauge, ShortRoom}
use Rattle.gauges.specs.Refused.{number_of}
use Rattle.stems.specs.Opened.{answer_of}

-- no refusal's number is that of a call that succeeds
pub refusal_some : (e : StemRefusal) → number_of e ≡ 0 → ⊥
refusal_some UnequalLists z = omega arith
refusal_some BadMark z = omega arith
refusal_some BadVersion z = omega arith
refusal_some BadKind z = omega arith
refusal_some BadCount z = omega arith
refusal_some BadLength z = omega arith
refusal_some BadGauge z = omega arith
refusal_some ShortRoom z = omega arith

module _ (file : List ℕ) where
  pub stem_refused : (first (judging file) ≡ 0 → ⊥) → stem file ≡ refused (first (judging file))
  unfolding stem
  stem_refused h = rw (ne_eqb (first (judging file)) 0 h)

  pub refused_for : (e : StemRefusal) → number_of e ≡ first (judging file) → stem file ≡ refused (number_of e)
  refused_for e is = stem_refused (λ z. refusal_some e (is ∙ z)) ∙ ap refused (sym is)

  -- and what is answered of it tells which of the two it was
  pub told_opened : (g : Gauge) → answer_of (stem file) ≡ Ok g → first (judging file) ≡ 0
  told_opened g e = go (eqb (first (judging file)) 0) refl
    where
      go : (t : Bool) → eqb (first (judging file)) 0 ≡ t → first (judging file) ≡ 0
      go true z = eqb-true _ 0 z
      go false z = let r = sym (ap answer_of (stem_refused (eqb-false _ 0 z))) ∙ e in clash (cc)

  pub told_refused : (n : ℕ) → answer_of (stem file) ≡ Err n → (first (judging file) ≡ n) × (n ≡ 0 → ⊥)
  told_refused n e = go (eqb (first (judging file)) 0) refl
    where
      go : (t : Bool) → eqb (first (judging file)) 0 ≡ t → (first (judging file) ≡ n) × (n ≡ 0 → ⊥)
      go true z = let r = sym (ap answer_of (stem_opened file (eqb-true _ 0 z))) ∙ e in clash (cc)
      go false z =
          let r = sym (ap answer_of (stem_refused (eqb-false _ 0 z))) ∙ e in
          let is : first (judging file) ≡ n = cc in
          (is, λ y. eqb-false _ 0 z (is ∙ y))
