-- Each of the four formats is one that the laws speak of, and its largest gap is as the scope says. Assumes nothing.
use mathlib.Core.Path.{◌≡◌, refl}
use lib.Dec.{lit≤}
use Rattle.definitions.specs.Format.{Regular, binary16, binary32, binary64, x87, largest_gap}

pub regular16 : Regular binary16
regular16 = record { digits = lit≤ tt; range = lit≤ tt; place = refl }

pub regular32 : Regular binary32
regular32 = record { digits = lit≤ tt; range = lit≤ tt; place = refl }

pub regular64 : Regular binary64
regular64 = record { digits = lit≤ tt; range = lit≤ tt; place = refl }

pub regular80 : Regular x87
regular80 = record { digits = lit≤ tt; range = lit≤ tt; place = refl }

-- the table's last column
pub gaps : (largest_gap binary16 ≡ 39) × (largest_gap binary32 ≡ 276) × (largest_gap binary64 ≡ 2097) × (largest_gap x87 ≡ 32828)
gaps = (refl, refl, refl, refl)
