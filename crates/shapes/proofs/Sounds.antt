-- The four formats are ones that the code takes. Assumes nothing.
use mathlib.Core.Path.{refl}
use lib.Dec.{lit≤}
use Rattle.definitions.specs.Format.{binary16, binary32, binary64, x87}
use Rattle.laws.proofs.Regular.{regular16, regular32, regular64, regular80}
use Rattle.shapes.specs.Shape.{Sound}

pub sound16 : Sound binary16
sound16 = record { regular = regular16; narrow = lit≤ tt; short = lit≤ tt; filled = lit≤ tt }

pub sound32 : Sound binary32
sound32 = record { regular = regular32; narrow = lit≤ tt; short = lit≤ tt; filled = lit≤ tt }

pub sound64 : Sound binary64
sound64 = record { regular = regular64; narrow = lit≤ tt; short = lit≤ tt; filled = lit≤ tt }

pub sound80 : Sound x87
sound80 = record { regular = regular80; narrow = lit≤ tt; short = lit≤ tt; filled = refl }
