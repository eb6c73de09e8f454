-- A line copied to a place of a list, and its newline after it. Assumes nothing.
use mathlib.Core.Path.{◌≡◌, sym, ap, ◌∙◌}
use mathlib.Core.List.{List, [], ◌∷◌, ◌++◌, append_assoc}
use Prim.Native.Nat.{ℕ, ◌+◌, ◌≤◌, ◌<◌}
use native.Mathlib.Numerals.{add-one}
use native.Mathlib.Omega.{arith}
use lib.ListN.{length, set, take, drop}
use lib.Seq.{paste, length-paste, length_paste_head, length-take-le, take-append-le, take-append-add, take-take, take-suc-set}

-- a shorter start of a copy
take_copy : (d : List ℕ) (at : ℕ) (s : List ℕ) (m n : ℕ) → at ≤ length d → m ≤ n → n ≤ length s
    → take (at + m) (paste d at s n) ≡ take at d ++ take m s
take_copy d at s m n hd hm hn =
    let e = length_paste_head d at s n hd hn in
    let a = length-take-le at d hd in
    take-append-le (at + m) (take at d ++ take n s) (drop (at + n) d) (omega arith)
    ∙ ap (λ (k : ℕ). take (k + m) (take at d ++ take n s)) (sym a)
    ∙ take-append-add (take at d) (take n s) m
    ∙ ap (λ (l : List ℕ). take at d ++ l) (take-take m n s hm)

pub ended : (d : List ℕ) (at : ℕ) (s : List ℕ) (m n c : ℕ) → at + n < length d → m ≤ n → n ≤ length s
    → take (at + m + 1) (set (paste d at s n) (at + m) c) ≡ take at d ++ (take m s ++ (c ∷ []))
ended d at s m n c hd hm hn =
    let e = length-paste d at s n (omega arith) hn in
    rw add-one
    (take-suc-set (paste d at s n) (at + m) c (omega arith)
    ∙ ap (λ (l : List ℕ). l ++ (c ∷ [])) (take_copy d at s m n (omega arith) hm hn)
    ∙ append_assoc (take at d) (take m s) (c ∷ []))
