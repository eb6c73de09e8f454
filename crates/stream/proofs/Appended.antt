-- One input after another. Assumes nothing.
use mathlib.Core.Path.{◌≡◌, refl, sym, ap, ◌∙◌}
use mathlib.Core.List.{List, [], ◌∷◌, ◌++◌, append_assoc}
use Prim.Native.Nat.{ℕ}
use Rattle.definitions.specs.Line.{written_at, begun_at, written, begun}

pub written_append : (line a b : List ℕ) → written line (a ++ b) ≡ written line a ++ written (begun line a) b
written_append line [] b = refl
written_append line (c ∷ a) b =
    ap (λ (l : List ℕ). written_at line c ++ l) (written_append (begun_at line c) a b)
    ∙ sym (append_assoc (written_at line c) (written (begun_at line c) a) (written (begun (begun_at line c) a) b))

pub begun_append : (line a b : List ℕ) → begun line (a ++ b) ≡ begun (begun line a) b
begun_append line [] b = refl
begun_append line (c ∷ a) b = begun_append (begun_at line c) a b
