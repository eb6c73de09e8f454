-- What the first bytes of a list are, with the facts that lending them asks. Assumes nothing.
use mathlib.Core.Path.{◌≡◌, sym, ap, ◌∙◌}
use mathlib.Core.List.{List}
use Prim.Native.Nat.{ℕ}
use native.Mathlib.Omega.{arith}
use lib.ListN.{length, take, length-take}
use Rattle.stream.specs.Stream.{BeginsWith}

pub holding : (list told : List ℕ) (n : ℕ) → take n list ≡ told → n ≡ length told → BeginsWith list told n
holding list told n e c =
    let part : n ≡ length (take n list) = c ∙ sym (ap length e) in
    record { bytes = e; end = c; inside = omega (arith, length-take n list); part = part }
