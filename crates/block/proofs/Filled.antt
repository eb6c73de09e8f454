-- What the stores leave in a block of 20 bytes is the definition's. Assumes nothing.
use mathlib.Core.Path.{◌≡◌, sym, ap, ◌∙◌}
use mathlib.Core.List.{List, [], ◌∷◌, ◌++◌, append-nil}
use Prim.Native.Nat.{ℕ, ◌+◌, ◌*◌, ◌^◌, ◌≤◌, ◌<◌}
use native.Mathlib.Nat.{zero-add}
use native.Mathlib.Omega.{arith}
use lib.ListN.{length, set, drop}
use lib.Seq.{sets, length-sets, sets-eq, drop-length}
use Rattle.definitions.specs.Bytes.{bytes_of}
use Rattle.definitions.specs.Remainder.{shown}
use Rattle.definitions.specs.Block.{block_of}
use Rattle.definitions.specs.Reports.{block_length}
use Rattle.laws.proofs.Bytes.{bytes_joined}
use Rattle.little_endian.specs.Stored.{stored}
use Rattle.little_endian.proofs.Joined.{stored_sets, sets_joined}

-- storing vs from 0 on into a list as long as vs leaves vs
all_stored : (vs l : List ℕ) → length l ≡ length vs → sets l 0 vs ≡ vs
all_stored vs l e =
    let n : 0 + length vs ≡ length l = omega arith in
    sets-eq vs l 0 (omega arith)
    ∙ ap (λ (n : ℕ). vs ++ drop n l) n
    ∙ ap (λ (r : List ℕ). vs ++ r) (drop-length l)
    ∙ append-nil vs

-- bytes behind bytes that begin the list
behind : (k n : ℕ) (l vs : List ℕ) → length vs + k ≤ length l → stored k (length vs) n (sets l 0 vs) ≡ sets l 0 (vs ++ bytes_of k n)
behind k n l vs h =
    stored_sets k (length vs) n (sets l 0 vs) (rw (length-sets l 0 vs) h)
    ∙ ap (λ (i : ℕ). sets (sets l 0 vs) i (bytes_of k n)) (sym (zero-add (length vs)))
    ∙ sets_joined l 0 vs (bytes_of k n)

-- the value's significand, its word, two bytes more, the steps and the quotient
pub filled : (s w n q b t : ℕ) → s < 2 ^ 64 → b ≡ shown q → (l l₁ l₂ l₃ l₄ : List ℕ) → length l ≡ block_length → l₁ ≡ stored 8 0 s l → l₂ ≡ stored 2 8 w l₁ → l₃ ≡ stored 4 12 t (set (set l₂ 10 n) 11 b) → l₄ ≡ stored 4 16 q l₃
    → l₄ ≡ block_of (record { number = n; value = w * 2 ^ 64 + s; quotient = q; steps = t })
unfolding block_of
filled s w n q b t h eb l l₁ l₂ l₃ l₄ e e₁ e₂ e₃ e₄ =
    let value = bytes_of 8 s ++ bytes_of 2 w in
    let head = value ++ (n ∷ b ∷ []) in
    let word : l₂ ≡ sets l 0 value = e₂ ∙ ap (stored 2 8 w) (e₁ ∙ behind 8 s l [] (omega arith)) ∙ behind 2 w l (bytes_of 8 s) (omega arith) in
    let counted : l₃ ≡ sets l 0 (head ++ bytes_of 4 t) =
    e₃
    ∙ ap (λ (r : List ℕ). stored 4 12 t (set (set r 10 n) 11 b)) word
    ∙ ap (stored 4 12 t) (sets_joined l 0 value (n ∷ b ∷ []))
    ∙ behind 4 t l head (omega arith) in
    e₄
    ∙ ap (stored 4 16 q) counted
    ∙ behind 4 q l (head ++ bytes_of 4 t) (omega arith)
    ∙ all_stored (head ++ bytes_of 4 t ++ bytes_of 4 q) l e
    ∙ ap (λ (c : ℕ). value ++ (n ∷ c ∷ (bytes_of 4 t ++ bytes_of 4 q))) eb
    ∙ ap (λ (v : List ℕ). v ++ (n ∷ shown q ∷ (bytes_of 4 t ++ bytes_of 4 q))) (sym (bytes_joined 8 2 s w h))
