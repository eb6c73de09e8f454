-- The line program in other words than its definitions: an input line by line, which lines have an answer and of which operands,
-- and an answer read back. Assumes nothing.
use mathlib.Core.Path.{◌≡◌, refl, sym, ap, ◌∙◌, subst}
use mathlib.Core.Bool.{Bool, true, false, cond, not, ◌&&◌}
use mathlib.Core.Logic.{◌⊎◌, inl, inr}
use mathlib.Core.List.{List, [], ◌∷◌, ◌++◌, append-nil, append_assoc}
use Prim.Native.Nat.{ℕ, zero, suc, ◌+◌, ◌*◌, ◌/◌, ◌%◌, ◌^◌, ◌≤◌, ◌<◌}
use native.Mathlib.Nat.{pow-suc, add-mul, mul_assoc, mul_comm, one-le-pow}
use native.Mathlib.Omega.{arith}
use borrow.Author.Tests.{eqb-true, eq-eqb, le-leb, lt-leb}
use lib.Arith.{mod-mul}
use lib.Dec.{T, leb, eqb, ltb, ltb→lt, nltb→le, lit<}
use lib.ListN.{length, get_or, take, drop, length-append, length-take, length-drop, get_or-append}
use lib.Seq.{split_at, take_at, drop_at, get_or_at, drop-drop}
use Rattle.digits.proofs.Tests.{clash, and_both}
use Rattle.definitions.specs.declared.Kind.TheVariants.{Truncated}
use Rattle.definitions.specs.Format.{binary64}
use Rattle.definitions.specs.Remainder.{Remainder, remainder, shown}
use Rattle.definitions.specs.Line.{is_hex, digit_of, all_hex, hex_value, well_formed, upper_hex, hex_digits, answer_line, bad_line, line_for}
use Rattle.definitions.specs.Line.{newline, written, begun, last_written, output_for}

-- ---- an input line by line: three laws

-- no byte is a newline
abbrev pub Unbroken : List ℕ → Type 0
Unbroken [] = Unit {0}
Unbroken (c ∷ l) = (eqb c newline ≡ false) × Unbroken l

-- what is written for an input after a line that has begun
abbrev after : List ℕ → List ℕ → List ℕ
after line input = written line input ++ last_written (begun line input)

-- bytes without a newline only make that line longer
one_more : (line : List ℕ) (c : ℕ) (input : List ℕ) → eqb c newline ≡ false → after line (c ∷ input) ≡ after (line ++ (c ∷ [])) input
one_more line c input e = simp e

after_more : (line a b : List ℕ) → Unbroken a → after line (a ++ b) ≡ after (line ++ a) b
after_more line [] b u = rw append-nil
after_more line (c ∷ a) b u = one_more line c (a ++ b) u.0 ∙ after_more (line ++ (c ∷ [])) a b u.1 ∙ rw append_assoc

-- [10.4] a line that ends, and a last one that does not
pub output_line : (a b : List ℕ) → Unbroken a → output_for (a ++ (newline ∷ b)) ≡ line_for a ++ (newline ∷ output_for b)
unfolding output_for
output_line a b u = after_more [] a (newline ∷ b) u ∙ simp append_assoc

pub output_last : (c : ℕ) (a : List ℕ) → Unbroken (c ∷ a) → output_for (c ∷ a) ≡ line_for (c ∷ a) ++ (newline ∷ [])
unfolding output_for
output_last c a u = ap output_for (sym (append-nil (c ∷ a))) ∙ after_more [] (c ∷ a) [] u

-- [10.5] an empty input
pub output_none : output_for [] ≡ []
unfolding output_for
output_none = refl

-- they determine it: whatever else meets them writes the same
pub record LineByLine (f : List ℕ → List ℕ) : Type 0 where
  pub line : (a b : List ℕ) → Unbroken a → f (a ++ (newline ∷ b)) ≡ line_for a ++ (newline ∷ f b)
  pub last : (c : ℕ) (a : List ℕ) → Unbroken (c ∷ a) → f (c ∷ a) ≡ line_for (c ∷ a) ++ (newline ∷ [])
  pub none : f [] ≡ []

unbroken_more : (a : List ℕ) (c : ℕ) → Unbroken a → eqb c newline ≡ false → Unbroken (a ++ (c ∷ []))
unbroken_more [] c u e = (e, tt)
unbroken_more (d ∷ a) c u e = (u.0, unbroken_more a c u.1 e)

module _ (f : List ℕ → List ℕ) (h : LineByLine f) where
  abbrev Same : List ℕ → Type 0
  Same input = f input ≡ output_for input

  same_end : (a : List ℕ) → Unbroken a → Same a
  same_end [] u = h.none ∙ sym output_none
  same_end (c ∷ a) u = h.last c a u ∙ sym (output_last c a u)

  same_line : (a b : List ℕ) → Unbroken a → Same b → Same (a ++ (newline ∷ b))
  same_line a b u e = h.line a b u ∙ ap (λ (l : List ℕ). line_for a ++ (newline ∷ l)) e ∙ sym (output_line a b u)

  same_after : (a b : List ℕ) → Unbroken a → Same (a ++ b)
  same_after a [] u = rw append-nil (same_end a u)
  same_after a (c ∷ b) u = go (eqb c newline) refl (same_after [] b tt) (λ e. same_after (a ++ (c ∷ [])) b (unbroken_more a c u e))
    where
      go : (t : Bool) → eqb c newline ≡ t → Same b → (eqb c newline ≡ false → Same ((a ++ (c ∷ [])) ++ b)) → Same (a ++ (c ∷ b))
      go true e ends more = rw (eqb-true c newline e) (same_line a b u ends)
      go false e ends more = rw append_assoc at (more e)

  pub output_only : (input : List ℕ) → f input ≡ output_for input
  output_only input = same_after [] input tt

-- ---- one line: two laws that determine it, whether it has these parts or not

-- all digits, one by one
each_hex : (l : List ℕ) → all_hex l ≡ true → (i : ℕ) → i < length l → is_hex (get_or l i 0) ≡ true
each_hex [] h i p = clash (omega arith)
each_hex (c ∷ l) h zero p = (and_both (is_hex c) (all_hex l) h).0
each_hex (c ∷ l) h (suc i) p = each_hex l (and_both (is_hex c) (all_hex l) h).1 i (omega arith)

hex_each : (l : List ℕ) → ((i : ℕ) → i < length l → is_hex (get_or l i 0) ≡ true) → all_hex l ≡ true
hex_each [] h = refl
hex_each (c ∷ l) h = rw (h 0 (omega arith)) (hex_each l (λ i p. h (suc i) (omega arith)))

-- 16 hex digits, a space, 16 hex digits
pub record Parts (line : List ℕ) : Type 0 where
  pub first : List ℕ
  pub second : List ℕ
  pub joined : line ≡ first ++ (32 ∷ second)
  pub first_length : length first ≡ 16
  pub second_length : length second ≡ 16
  pub first_hex : (i : ℕ) → i < 16 → is_hex (get_or first i 0) ≡ true
  pub second_hex : (i : ℕ) → i < 16 → is_hex (get_or second i 0) ≡ true

pub well_formed_lem : (line : List ℕ) → well_formed line ≡ true → Parts line
unfolding well_formed
well_formed_lem l w =
    let second = and_both (eqb (length l) 33 && all_hex (take 16 l) && eqb (get_or l 16 0) 32) (all_hex (drop 17 l)) w in
    let space = and_both (eqb (length l) 33 && all_hex (take 16 l)) (eqb (get_or l 16 0) 32) second.0 in
    let first = and_both (eqb (length l) 33) (all_hex (take 16 l)) space.0 in
    let long = eqb-true (length l) 33 first.0 in
    let la : length (take 16 l) ≡ 16 = rw (length-take 16 l) (omega arith) in
    let lb : length (drop 17 l) ≡ 16 = rw (length-drop 17 l) (omega arith) in
    record {
      first = take 16 l;
      second = drop 17 l;
      joined = split_at l 16 0 (omega arith) ∙ ap (λ (c : ℕ). take 16 l ++ (c ∷ drop 17 l)) (eqb-true (get_or l 16 0) 32 space.1);
      first_length = la;
      second_length = lb;
      first_hex = λ i h. each_hex (take 16 l) first.1 i (rw la h);
      second_hex = λ i h. each_hex (drop 17 l) second.1 i (rw lb h);
    }

-- back: a line put together, taken apart by places
module _ (a b : List ℕ) (la : length a ≡ 16) where
  second_part : drop 17 (a ++ (32 ∷ b)) ≡ b
  second_part = sym (drop-drop 1 16 (a ++ (32 ∷ b))) ∙ ap (drop 1) (drop_at a (32 ∷ b) 16 la)

  joined_well_formed : length b ≡ 16 → all_hex a ≡ true → all_hex b ≡ true → well_formed (a ++ (32 ∷ b)) ≡ true
  unfolding well_formed
  joined_well_formed lb ha hb =
      let long : length (a ++ (32 ∷ b)) ≡ 33 = rw (length-append a) (omega arith) in
      simp (eq-eqb _ 33 long, take_at a (32 ∷ b) 16 la, get_or_at a 32 b 0 16 la, second_part, ha, hb)

pub parts_well_formed : (line : List ℕ) → Parts line → well_formed line ≡ true
parts_well_formed line p =
    rw p.joined
    (joined_well_formed p.first p.second p.first_length p.second_length
    (hex_each p.first (λ i h. p.first_hex i (rw p.first_length at h)))
    (hex_each p.second (λ i h. p.second_hex i (rw p.second_length at h))))

-- [10.1] the operands are what the two parts stand for
pub parts_line : (line : List ℕ) (p : Parts line)
    → line_for line ≡ answer_line (remainder binary64 Truncated (hex_value 0 p.first) (hex_value 0 p.second))
unfolding line_for
parts_line line p =
    rw (parts_well_formed line p)
    (rw (p.joined, take_at p.first (32 ∷ p.second) 16 p.first_length, second_part p.first p.second p.first_length) refl)

-- [10.3] any other line
pub other_line : (line : List ℕ) → well_formed line ≡ false → line_for line ≡ bad_line
unfolding line_for
other_line line w = rw w

pub no_parts_line : (line : List ℕ) → (Parts line → ⊥) → line_for line ≡ bad_line
no_parts_line line n = go (well_formed line) refl
  where
    go : (t : Bool) → well_formed line ≡ t → line_for line ≡ bad_line
    go true w = absurd (n (well_formed_lem line w))
    go false w = other_line line w

-- ---- hex digits written and read back

-- a figure or an upper-case letter from A to F
abbrev pub Upper : ℕ → Type 0
Upper c = ((48 ≤ c) × (c ≤ 57)) ⊎ ((65 ≤ c) × (c ≤ 70))

-- a digit d written as the byte c
record Written (d c : ℕ) : Type 0 where
  upper : Upper c
  hex : is_hex c ≡ true
  back : digit_of c ≡ d

digit_written : (d : ℕ) → d < 16 → Written d (upper_hex d)
digit_written d h = go (ltb d 10) (ltb→lt d 10) (nltb→le d 10)
  where
    go : (t : Bool) → (T t → d < 10) → (T (not t) → 10 ≤ d) → Written d (cond t (48 + d) (55 + d))
    go true l g =
        let l = l tt in
        let low : leb 48 (48 + d) ≡ true = le-leb 48 (48 + d) (omega arith) in
        let high : leb (48 + d) 57 ≡ true = le-leb (48 + d) 57 (omega arith) in
        record { upper = inl (omega arith, omega arith); hex = rw (low, high); back = rw high (omega arith) }
    go false l g =
        let g = g tt in
        let no : leb (55 + d) 57 ≡ false = lt-leb (55 + d) 57 (omega arith) in
        let low : leb 65 (55 + d) ≡ true = le-leb 65 (55 + d) (omega arith) in
        let high : leb (55 + d) 70 ≡ true = le-leb (55 + d) 70 (omega arith) in
        let up : leb 48 (55 + d) ≡ true = le-leb 48 (55 + d) (omega arith) in
        record { upper = inr (omega arith, omega arith); hex = rw (up, no, low, high); back = rw (no, high) (omega arith) }

-- the k low digits of a number
all_hex_lem : (k n i : ℕ) → i < k → is_hex (get_or (hex_digits k n) i 0) ≡ true
all_hex_lem zero n i h = clash (omega arith)
all_hex_lem (suc k) n zero h = (digit_written (n / 16 ^ k % 16) (omega arith)).hex
all_hex_lem (suc k) n (suc i) h = all_hex_lem k n i (omega arith)

all_upper : (k n i : ℕ) → i < k → Upper (get_or (hex_digits k n) i 0)
all_upper zero n i h = clash (omega arith)
all_upper (suc k) n zero h = (digit_written (n / 16 ^ k % 16) (omega arith)).upper
all_upper (suc k) n (suc i) h = all_upper k n i (omega arith)

hex_back : (k m n : ℕ) → hex_value m (hex_digits k n) ≡ m * 16 ^ k + n % 16 ^ k
hex_back zero m n = omega arith
hex_back (suc k) m n =
    let d = n / 16 ^ k % 16 in
    let low = mod-mul n {m = 16} {c = 16 ^ k} (lit< tt) (one-le-pow k 16 (lit< tt)) in
    ap (λ (e : ℕ). hex_value (m * 16 + e) (hex_digits k n)) (digit_written d (omega arith)).back
    ∙ hex_back k (m * 16 + d) n
    ∙ rw (pow-suc 16 k, mul_comm (16 ^ k) 16, low, add-mul (m * 16) d (16 ^ k), mul_assoc m 16 (16 ^ k)) (omega arith)

pattern_back : (n : ℕ) → n < 2 ^ 64 → hex_value 0 (hex_digits 16 n) ≡ n
pattern_back n h = hex_back 16 0 n ∙ omega arith

-- [10.1] two patterns, in upper case
abbrev written_parts : (x y : ℕ) → Parts (hex_digits 16 x ++ (32 ∷ hex_digits 16 y))
written_parts x y =
    record {
      first = hex_digits 16 x;
      second = hex_digits 16 y;
      joined = refl;
      first_length = refl;
      second_length = refl;
      first_hex = all_hex_lem 16 x;
      second_hex = all_hex_lem 16 y;
    }

pub good_line : (x y : ℕ) → x < 2 ^ 64 → y < 2 ^ 64
    → line_for (hex_digits 16 x ++ (32 ∷ hex_digits 16 y)) ≡ answer_line (remainder binary64 Truncated x y)
good_line x y hx hy =
    parts_line (hex_digits 16 x ++ (32 ∷ hex_digits 16 y)) (written_parts x y)
    ∙ ap (λ (u : ℕ). answer_line (remainder binary64 Truncated u (hex_value 0 (hex_digits 16 y)))) (pattern_back x hx)
    ∙ ap (λ (v : ℕ). answer_line (remainder binary64 Truncated x v)) (pattern_back y hy)

-- [10.2] an answer: 16 digits, which are the value's (a remainder's is that small: `remainder_small`), then what is shown of the quotient, and the number
pub answer_back : (r : Remainder) → r.value < 2 ^ 64 → hex_value 0 (take 16 (answer_line r)) ≡ r.value
unfolding answer_line
answer_back r h = pattern_back r.value h

pub answer_upper : (r : Remainder) (i : ℕ) → i < 16 → Upper (get_or (answer_line r) i 0)
unfolding answer_line
answer_upper r i h =
    let a = hex_digits 16 r.value in
    subst Upper (sym (get_or-append a (drop 16 (answer_line r)) 0 i h)) (all_upper 16 r.value i h)

pub answer_rest : (r : Remainder) → drop 16 (answer_line r) ≡ 32 ∷ (48 + shown r.quotient) ∷ 32 ∷ (48 + r.number) ∷ []
unfolding answer_line
answer_rest r = refl

-- which has one digit for the quotient
pub answer_digit : (r : Remainder) → shown r.quotient ≤ 9
answer_digit r = omega arith
