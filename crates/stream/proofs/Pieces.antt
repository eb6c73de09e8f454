-- It does not matter where the reads cut an input. Assumes nothing.
use mathlib.Core.Path.{◌≡◌, refl, sym, ap, ◌∙◌}
use mathlib.Core.Bool.{Bool, true, false, cond, not}
use mathlib.Core.Logic.{◌⊎◌, inl, inr, ⊎_elim}
use mathlib.Core.List.{List, [], ◌∷◌, ◌++◌, append-nil, append_assoc, flatten}
use Prim.Native.Nat.{ℕ, ◌≤◌, ◌<◌, min}
use native.Mathlib.Nat.{le_refl}
use native.Mathlib.Omega.{arith}
use lib.Dec.{T, leb, leb→le, nleb→lt, eqb}
use lib.ListN.{length, take, drop, length-append, length-take, take-append-drop}
use lib.Seq.{take_all, take-append-le}
use Rattle.digits.proofs.Tests.{clash}
use Rattle.definitions.specs.Line.{line_for, newline, answered, written_at, begun_at, written, begun, last_written, output_for}
use Rattle.stream.specs.Stream.{kept_bytes, in_pieces, CutAnywhere}
use Rattle.stream.proofs.Appended.{written_append, begun_append}
use Rattle.std.proofs.lemmas.List.{take-take}
use Rattle.lines.proofs.WellFormed.{bad_length}
use Rattle.stream.proofs.Last.{last_some}

-- Two lines that agree as far as a line is kept are the same line, or both too long.
module _ (a b : List ℕ) (e : take kept_bytes a ≡ take kept_bytes b) where
  alike : (a ≡ b) ⊎ ((kept_bytes ≤ length a) × (kept_bytes ≤ length b))
  alike = go (leb (length a) 33) (leb→le (length a) 33) (nleb→lt (length a) 33)
    where
      same : min kept_bytes (length a) ≡ min kept_bytes (length b)
      same = sym (length-take kept_bytes a) ∙ ap length e ∙ length-take kept_bytes b

      go : (t : Bool) → (T t → length a ≤ 33) → (T (not t) → 33 < length a) → (a ≡ b) ⊎ ((kept_bytes ≤ length a) × (kept_bytes ≤ length b))
      go true h g = let s = h tt in inl (sym (take_all kept_bytes a (omega arith)) ∙ e ∙ take_all kept_bytes b (omega (arith, same)))
      go false h g = let s = g tt in inr (omega arith, omega (arith, same))

  alike_line : line_for a ≡ line_for b
  alike_line =
      ⊎_elim (λ h. ap line_for h)
      (λ h. bad_length a (λ n. omega arith) ∙ sym (bad_length b (λ n. omega arith)))
      alike

  alike_longer : (c : ℕ) → take kept_bytes (a ++ (c ∷ [])) ≡ take kept_bytes (b ++ (c ∷ []))
  alike_longer c =
      ⊎_elim (λ h. ap (λ (l : List ℕ). take kept_bytes (l ++ (c ∷ []))) h)
      (λ h. take-append-le kept_bytes a (c ∷ []) h.0 ∙ e ∙ sym (take-append-le kept_bytes b (c ∷ []) h.1))
      alike

  alike_at : (c : ℕ) → (written_at a c ≡ written_at b c) × (take kept_bytes (begun_at a c) ≡ take kept_bytes (begun_at b c))
  alike_at c = go (eqb c newline)
    where
      go : (t : Bool) → (cond t (answered a) [] ≡ cond t (answered b) []) × (take kept_bytes (cond t [] (a ++ (c ∷ []))) ≡ take kept_bytes (cond t [] (b ++ (c ∷ []))))
      go true = (ap (λ (l : List ℕ). l ++ (newline ∷ [])) alike_line, refl)
      go false = (refl, alike_longer c)

  alike_last : last_written a ≡ last_written b
  alike_last =
      ⊎_elim (λ h. ap last_written h)
      (λ h. last_some a (λ n. omega arith) ∙ ap (λ (l : List ℕ). l ++ (newline ∷ [])) alike_line ∙ sym (last_some b (λ n. omega arith)))
      alike

alike_all : (a b input : List ℕ) → take kept_bytes a ≡ take kept_bytes b
    → (written a input ≡ written b input) × (take kept_bytes (begun a input) ≡ take kept_bytes (begun b input))
alike_all a b [] e = (refl, e)
alike_all a b (c ∷ input) e =
    let now = alike_at a b e c in
    let later = alike_all (begun_at a c) (begun_at b c) input now.1 in
    (ap (λ (l : List ℕ). l ++ written (begun_at a c) input) now.0 ∙ ap (λ (l : List ℕ). written_at b c ++ l) later.0, later.1)

-- a line that has begun holds no newline: nothing is written for it, and it has begun
begun_line : (line a : List ℕ) → written line a ≡ [] → begun line a ≡ line ++ a
begun_line line [] w = sym (append-nil line)
begun_line line (c ∷ a) w = go (eqb c newline) (begun_line (line ++ (c ∷ [])) a) w
  where
    go : (t : Bool) → (written (line ++ (c ∷ [])) a ≡ [] → begun (line ++ (c ∷ [])) a ≡ (line ++ (c ∷ [])) ++ a)
        → cond t (answered line) [] ++ written (cond t [] (line ++ (c ∷ []))) a ≡ [] → begun (cond t [] (line ++ (c ∷ []))) a ≡ line ++ (c ∷ a)
    go true f e =
        clash (omega (arith, ap length e, length-append (answered line) (written [] a), length-append (line_for line) (newline ∷ [])))
    go false f e = f e ∙ append_assoc line (c ∷ []) a

-- after a line that has begun another has begun, and a start of it has
quiet_at : (line : List ℕ) (c : ℕ) → written [] line ≡ [] → written [] (begun_at line c) ≡ []
quiet_at line c w = go (eqb c newline) refl
  where
    go : (t : Bool) → eqb c newline ≡ t → written [] (cond t [] (line ++ (c ∷ []))) ≡ []
    go true q = refl
    go false q =
        written_append [] line (c ∷ [])
        ∙ ap (λ (l : List ℕ). l ++ written (begun [] line) (c ∷ [])) w
        ∙ ap (λ (t : Bool). cond t (answered (begun [] line)) [] ++ []) q

quiet : (line input : List ℕ) → written [] line ≡ [] → written [] (begun line input) ≡ []
quiet line [] w = w
quiet line (c ∷ input) w = quiet (begun_at line c) input (quiet_at line c w)

none_first : (a b : List ℕ) → a ++ b ≡ [] → a ≡ []
none_first [] b e = refl
none_first (c ∷ a) b e = clash (omega (arith, ap length e))

quiet_start : (n : ℕ) (line : List ℕ) → written [] line ≡ [] → written [] (take n line) ≡ []
quiet_start n line w =
    none_first (written [] (take n line)) (written (begun [] (take n line)) (drop n line))
    (sym (written_append [] (take n line) (drop n line)) ∙ ap (written []) (take-append-drop n line) ∙ w)

-- what is written in pieces after a line that has begun
in_pieces_lem : (line : List ℕ) (pieces : List (List ℕ)) → written [] line ≡ []
    → in_pieces line pieces ≡ written line (flatten pieces) ++ last_written (begun line (flatten pieces))
unfolding in_pieces flatten
in_pieces_lem line [] w = refl
in_pieces_lem line (p ∷ ps) w =
    let rest = flatten ps in
    let here : begun [] line ≡ line = begun_line [] line w in
    let told : written [] (line ++ p) ≡ written line p =
    written_append [] line p ∙ ap (λ (l : List ℕ). l ++ written (begun [] line) p) w ∙ ap (λ (l : List ℕ). written l p) here in
    let left : begun [] (line ++ p) ≡ begun line p = begun_append [] line p ∙ ap (λ (l : List ℕ). begun l p) here in
    let k = take kept_bytes (begun line p) in
    let e : take kept_bytes k ≡ take kept_bytes (begun line p) = take-take kept_bytes kept_bytes (begun line p) (le_refl kept_bytes) in
    let same = alike_all k (begun line p) rest e in
    let later = in_pieces_lem k ps (quiet_start kept_bytes (begun line p) (quiet line p w)) in
    ap (λ (l : List ℕ). l ++ in_pieces (take kept_bytes (begun [] (line ++ p))) ps) told
    ∙ ap (λ (l : List ℕ). written line p ++ in_pieces (take kept_bytes l) ps) left
    ∙ ap (λ (l : List ℕ). written line p ++ l) later
    ∙ ap (λ (l : List ℕ). written line p ++ (l ++ last_written (begun k rest))) same.0
    ∙ ap (λ (l : List ℕ). written line p ++ (written (begun line p) rest ++ l)) (alike_last (begun k rest) (begun (begun line p) rest) same.1)
    ∙ sym (append_assoc (written line p) (written (begun line p) rest) (last_written (begun (begun line p) rest)))
    ∙ ap (λ (l : List ℕ). l ++ last_written (begun (begun line p) rest)) (sym (written_append line p rest))
    ∙ ap (λ (l : List ℕ). written line (p ++ rest) ++ last_written l) (sym (begun_append line p rest))

pub cut_anywhere : CutAnywhere
unfolding output_for
cut_anywhere pieces = in_pieces_lem [] pieces refl
