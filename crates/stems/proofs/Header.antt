-- Bytes that are read one by one are the fields of a header. Assumes nothing.
use mathlib.Core.Path.{◌≡◌, refl, sym, ap, ◌∙◌}
use mathlib.Core.Bool.{Bool, true, false, ◌&&◌}
use mathlib.Core.List.{List, [], ◌∷◌}
use Prim.Native.Nat.{ℕ, suc, ◌+◌, ◌*◌, ◌<◌, ◌≤◌}
use native.Mathlib.Omega.{arith}
use lib.Dec.{eqb}
use lib.ListN.{length, get_or, drop}
use lib.Seq.{drop-cons}
use borrow.Author.Tests.{eq-eqb, ne_eqb, eqb-true, eqb-false}
use Rattle.std.specs.List.{starts_with}
use Rattle.definitions.specs.Bytes.{of_bytes, loaded}
use Rattle.definitions.specs.Stem.{header_length, mark, file_mark}
use Rattle.laws.proofs.Bytes.{AreBytes}

pub byte_at : (l : List ℕ) (i : ℕ) → i < length l → loaded 1 i l ≡ get_or l i 0
byte_at l i h = rw (drop-cons l i 0 h) (omega arith)

-- three bytes are the number of three others only if each is the other's
module _ (a b c : ℕ) (ha : a < 256) (hb : b < 256) (hc : c < 256) where
  abbrev number : ℕ
  number = a + 256 * (b + 256 * (c + 256 * 0))

  letters : (eqb 0x53 a && (eqb 0x54 b && (eqb 0x4D c && true))) ≡ eqb number (of_bytes mark)
  letters = go (eqb 0x53 a) (eqb 0x54 b) (eqb 0x4D c) refl refl refl
    where
      go : (t u v : Bool) → eqb 0x53 a ≡ t → eqb 0x54 b ≡ u → eqb 0x4D c ≡ v → (t && (u && (v && true))) ≡ eqb number (of_bytes mark)
      go true true true p q r = sym (eq-eqb number (of_bytes mark) (omega (arith, eqb-true 0x53 a p, eqb-true 0x54 b q, eqb-true 0x4D c r)))
      go true true false p q r = sym (ne_eqb number (of_bytes mark) (λ e. eqb-false 0x4D c r (omega arith)))
      go true false v p q r = sym (ne_eqb number (of_bytes mark) (λ e. eqb-false 0x54 b q (omega arith)))
      go false u v p q r = sym (ne_eqb number (of_bytes mark) (λ e. eqb-false 0x53 a p (omega arith)))

pub mark_told : (l : List ℕ) → header_length ≤ length l → AreBytes l → starts_with eqb l mark ≡ eqb (file_mark l) (of_bytes mark)
mark_told [] h bytes = absurd (omega arith)
mark_told (a ∷ []) h bytes = absurd (omega arith)
mark_told (a ∷ b ∷ []) h bytes = absurd (omega arith)
mark_told (a ∷ b ∷ c ∷ l) h bytes = letters a b c (bytes 0) (bytes 1) (bytes 2)
