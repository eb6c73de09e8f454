-- `scale_of` meets its contract: what is refused, what stays, and a value scaled and packed.
use mathlib.Core.Path.{◌≡◌, refl, subst}
use mathlib.Core.Bool.{Bool}
use mathlib.Core.Logic.{◌⊎◌, inl, inr}
use lib.IntN.{ℤ}
use mir.Syntax.{w32}
use mir.ValLaws.{to_z-of_z}
use Rattle.definitions.specs.Numbers.{first}
use Rattle.definitions.specs.Format.{Format, pattern_of}
use Rattle.definitions.specs.Scale.{scale_class, scale_of}
use Rattle.definitions.specs.declared.Refusal.TheVariants.{Unsupported, Nan}
use Rattle.definitions.specs.declared.Rounding.TheVariants.{Exact}
use Rattle.definitions.specs.Answers.{scale_meaning}
use Rattle.operands.specs.Operand.{class_in, value_in}
use Rattle.operands.specs.declared.Operand.{Operand}
use Rattle.operands.specs.declared.Operand.TheVariants.{Infinite, Zero, Finite}
use Rattle.operands.specs.declared.Unpacked.{Unpacked}
use Rattle.shapes.specs.Shape.{Sound}
use Rattle.packing.specs.Stands.{Stands, StandsValue}
use Rattle.packing.proofs.Standing.{stands_unpacked}
use Rattle.packing.proofs.Places.{Placed, placed}
use Rattle.powers.proofs.Scaled.{scaled_stands, scaled_report_lem}
use Rattle.scaling.proofs.Refusals.{scale_refused}
use Rattle.scaling.proofs.scale.scale_of.Goals as goal

-- an infinity and a zero stay as they are
stays : (f : Format) (k : ℤ) (o : Operand) → ((n : Bool) × (o ≡ Infinite n)) ⊎ ((n : Bool) × (o ≡ Zero n))
    → record { number = 0; value = pattern_of f (class_in f.smallest o); says = Exact } ≡ scale_of f (class_in f.smallest o) k
unfolding scale_of scale_class class_in first
stays f k o (inl h) = rw h.1
stays f k o (inr h) = rw h.1

-- an operand that is a value
module _ (f : Format) (ok : Sound f) (x : Operand) (stands : Stands f x) (u : Unpacked) (is : x ≡ Finite u) where
  value-stands : StandsValue f (Finite u)
  value-stands = stands_unpacked f ok u (subst (Stands f) is stands)

  value : Placed f (value_in f.smallest u) u
  value = placed f ok u value-stands

pub scale_value-scaled-requires : goal.scale_value-scaled-requires
scale_value-scaled-requires g c = value-stands g.F.Format.format g.met.F.Format.sound c.operand.result c.operand.ensures.stands c.in-Finite.value c.in-Finite.is

pub new-requires : goal.new-requires
new-requires g c =
    let f = g.F.Format.format in
    let ok = g.met.F.Format.sound in
    let u = c.in-Finite.value in
    let scaled = rw (to_z-of_z w32 c.args.power c.ranges.power) at c.scale_value-scaled.ensures in
    scaled_stands f ok (value_in f.smallest u) u (value f ok c.operand.result c.operand.ensures.stands u c.in-Finite.is) c.args.power c.scale_value-scaled.result scaled

pub returns-in-Unsupported : goal.returns-in-Unsupported
unfolding class_in first
returns-in-Unsupported g c =
    scale_refused g.F.Format.format _ c.refused.result Unsupported c.refused.ensures.why c.refused.ensures.value refl c.args.power (rw (← c.operand.ensures.is, c.in-Unsupported.is))

pub returns-in-Nan : goal.returns-in-Nan
unfolding class_in first
returns-in-Nan g c =
    scale_refused g.F.Format.format _ c.refused-in-Nan.result Nan c.refused-in-Nan.ensures.why c.refused-in-Nan.ensures.value refl c.args.power (rw (← c.operand.ensures.is, c.in-Nan.is))

pub returns-in-Infinite : goal.returns-in-Infinite
unfolding scale_meaning
returns-in-Infinite g c = rw (c.pack.ensures, ← c.operand.ensures.is) (stays g.F.Format.format c.args.power c.operand.result c.in-Infinite.is)

pub returns-in-Finite : goal.returns-in-Finite
unfolding scale_meaning class_in
returns-in-Finite g c =
    let f = g.F.Format.format in
    let ok = g.met.F.Format.sound in
    let u = c.in-Finite.value in
    let scaled = rw (to_z-of_z w32 c.args.power c.ranges.power) at c.scale_value-scaled.ensures in
    rw (c.pack-in-Finite.ensures, c.new.ensures, ← c.operand.ensures.is, c.in-Finite.is)
    (scaled_report_lem f ok (value_in f.smallest u) u (value f ok c.operand.result c.operand.ensures.stands u c.in-Finite.is) c.args.power c.scale_value-scaled.result scaled)
