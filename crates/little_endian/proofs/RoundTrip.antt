-- What is stored at a place is loaded from it, and storing what was loaded changes nothing. Assumes nothing.
use mathlib.Core.Path.{◌≡◌, ap, ◌∙◌}
use mathlib.Core.List.{List, ◌++◌}
use Prim.Native.Nat.{ℕ, ◌+◌, ◌%◌, ◌^◌, ◌≤◌}
use native.Mathlib.Omega.{arith}
use lib.ListN.{length, take, drop, length-drop, take-append-drop}
use lib.Seq.{take_at, drop_at, drop-drop, length-take-le}
use Rattle.definitions.specs.Bytes.{bytes_of, of_bytes, loaded}
use Rattle.laws.proofs.Bytes.{AreBytes, length_bytes, of_bytes_lem, bytes_of_lem, take_bytes, drop_bytes}
use Rattle.little_endian.specs.Stored.{stored}

module _ (k at : ℕ) (l : List ℕ) (fits : at + k ≤ length l) where
  pub loaded_stored : (n : ℕ) → loaded k at (stored k at n l) ≡ n % 256 ^ k
  loaded_stored n =
      let rest = drop (at + k) l in
      ap (λ (r : List ℕ). of_bytes (take k r)) (drop_at (take at l) (bytes_of k n ++ rest) at (length-take-le at l (omega arith)))
      ∙ ap of_bytes (take_at (bytes_of k n) rest k (length_bytes k n))
      ∙ of_bytes_lem k n

  pub stored_loaded : AreBytes l → stored k at (loaded k at l) l ≡ l
  stored_loaded h =
      let d = drop at l in
      let e : length (take k d) ≡ k = length-take-le k d (rw (length-drop at l) (omega arith)) in
      rw (bytes_of_lem k (take k d) e (take_bytes k d (drop_bytes at l h)), ← drop-drop k at l, take-append-drop k d, take-append-drop at l)
