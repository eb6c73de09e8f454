-- Points taken out of a part one by one are its points. Assumes nothing.
use mathlib.Core.Path.{◌≡◌, sym, ap, ◌∙◌}
use mathlib.Core.List.{List}
use Prim.Native.Nat.{ℕ, ◌/◌, ◌<◌}
use native.Mathlib.Nat.{zero-add}
use lib.ListN.{length, get_or}
use Rattle.definitions.specs.Stem.{point_length, point_at}
use Rattle.definitions.specs.StemWriter.{points_of, points_from, points_in}
use Rattle.laws.proofs.StemWriter.{places_list}

-- the lists hold the points before a place
abbrev pub Taken : List ℕ → List ℕ → List ℕ → ℕ → Type 0
Taken part readings radii i = (k : ℕ) → k < i → point_at part k ≡ record { reading = get_or readings k 0; radius = get_or radii k 0 }

pub taken_all : (part readings radii : List ℕ) → length readings ≡ length part / point_length → length radii ≡ length part / point_length → Taken part readings radii (length readings)
    → points_in part ≡ points_of readings radii
taken_all part readings radii x r t =
    ap (λ (n : ℕ). points_from 0 n part) (sym x) ∙ places_list 0 part readings radii (x ∙ sym r) (λ k h. rw (zero-add k) (t k h))
