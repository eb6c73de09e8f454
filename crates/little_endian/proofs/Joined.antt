-- Bytes that are stored at a place, as stores one after another. Assumes nothing.
use mathlib.Core.Path.{◌≡◌, sym, ap, ◌∙◌}
use mathlib.Core.List.{List, [], ◌∷◌, ◌++◌, append_assoc}
use Prim.Native.Nat.{ℕ, suc, ◌+◌, ◌≤◌}
use native.Mathlib.Nat.{add-zero, add-suc, suc-add}
use lib.ListN.{length, set, take, drop}
use lib.Seq.{sets, sets-eq}
use Rattle.definitions.specs.Bytes.{bytes_of}
use Rattle.laws.proofs.Bytes.{length_bytes}
use Rattle.little_endian.specs.Stored.{stored}

-- a number's bytes in their place are stores one after another
pub stored_sets : (k at n : ℕ) (l : List ℕ) → at + k ≤ length l → stored k at n l ≡ sets l at (bytes_of k n)
stored_sets k at n l h =
    let b = bytes_of k n in
    let e : length b ≡ k = length_bytes k n in
    sym (sets-eq b l at (rw e h) ∙ append_assoc (take at l) b (drop (at + length b) l) ∙ ap (λ (m : ℕ). take at l ++ (b ++ drop (at + m) l)) e)

-- and a row of stores behind another is one row
pub sets_joined : (l : List ℕ) (at : ℕ) (vs ws : List ℕ) → sets (sets l at vs) (at + length vs) ws ≡ sets l at (vs ++ ws)
sets_joined l at [] ws = rw (add-zero at)
sets_joined l at (v ∷ vs) ws = rw (add-suc at (length vs), ← suc-add at (length vs)) (sets_joined (set l at v) (suc at) vs ws)
