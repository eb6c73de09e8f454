-- `split_of` meets its contract: what is refused, and a value's two parts.
use mathlib.Core.Path.{◌≡◌, refl, subst}
use native.Mathlib.Omega.{arith}
use Rattle.digits.proofs.Signed.{small_back}
use Rattle.definitions.specs.Numbers.{first}
use Rattle.definitions.specs.Format.{Format}
use Rattle.definitions.specs.Answers.{split_meaning}
use Rattle.operands.specs.Operand.{class_in, value_in}
use Rattle.definitions.specs.declared.Refusal.TheVariants.{Unsupported, Nan, Infinite, ZeroSplit}
use Rattle.operands.specs.declared.Operand.{Operand}
use Rattle.operands.specs.declared.Operand.TheVariants.{Finite}
use Rattle.operands.specs.declared.Unpacked.{Unpacked}
use Rattle.shapes.specs.Shape.{Sound}
use Rattle.packing.specs.Stands.{Stands}
use Rattle.packing.proofs.Standing.{stands_unpacked}
use Rattle.packing.proofs.Places.{Placed, placed}
use Rattle.scaling.proofs.Parts.{parts_stand, parts_report}
use Rattle.scaling.proofs.Refusals.{split_refused}
use Rattle.scaling.proofs.split.split_of.Goals as goal

-- an operand that is a value
value : (f : Format) → Sound f → (x : Operand) → Stands f x → (u : Unpacked) → x ≡ Finite u → Placed f (value_in f.smallest u) u
value f ok x stands u is = placed f ok u (stands_unpacked f ok u (subst (Stands f) is stands))

pub new-requires : goal.new-requires
new-requires g c =
    let f = g.F.Format.format in
    let ok = g.met.F.Format.sound in
    let u = c.in-Finite.value in
    parts_stand f ok (value_in f.smallest u) u (value f ok c.operand.result c.operand.ensures.stands u c.in-Finite.is)

pub returns-in-Unsupported : goal.returns-in-Unsupported
unfolding class_in first
returns-in-Unsupported g c =
    split_refused g.F.Format.format _ c.refused.result Unsupported c.refused.ensures.why c.refused.ensures.value refl (rw (← c.operand.ensures.is, c.in-Unsupported.is))

pub returns-in-Nan : goal.returns-in-Nan
unfolding class_in first
returns-in-Nan g c =
    split_refused g.F.Format.format _ c.refused-in-Nan.result Nan c.refused-in-Nan.ensures.why c.refused-in-Nan.ensures.value refl (rw (← c.operand.ensures.is, c.in-Nan.is))

pub returns-in-Infinite : goal.returns-in-Infinite
unfolding class_in first
returns-in-Infinite g c =
    split_refused g.F.Format.format _ c.refused-in-Infinite.result Infinite c.refused-in-Infinite.ensures.why c.refused-in-Infinite.ensures.value refl (rw (← c.operand.ensures.is, c.in-Infinite.is))

pub returns-in-Zero : goal.returns-in-Zero
unfolding class_in first
returns-in-Zero g c =
    split_refused g.F.Format.format _ c.refused-in-Zero.result ZeroSplit c.refused-in-Zero.ensures.why c.refused-in-Zero.ensures.value refl (rw (← c.operand.ensures.is, c.in-Zero.is))

pub returns-in-Finite : goal.returns-in-Finite
unfolding split_meaning class_in
returns-in-Finite g c =
    let f = g.F.Format.format in
    let ok = g.met.F.Format.sound in
    let u = c.in-Finite.value in
    let v = value f ok c.operand.result c.operand.ensures.stands u c.in-Finite.is in
    rw (c.pack.ensures, c.new.ensures, ← c.operand.ensures.is, c.in-Finite.is)
    (parts_report f ok (value_in f.smallest u) u v _ (small_back u.exponent (omega (arith, v.small))))
