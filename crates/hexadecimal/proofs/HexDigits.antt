-- Laws of hex digits, read and written. Assumes nothing.
use mathlib.Core.Path.{◌≡◌, refl, sym, ap, ◌∙◌}
use mathlib.Core.Bool.{Bool, true, false, cond, ◌&&◌}
use mathlib.Core.List.{List, [], ◌∷◌, ◌++◌, append_assoc}
use Rattle.std.proofs.Common.{Some, None, pow-add}
use Rattle.std.specs.Bool.{then_some}
use Prim.Native.Nat.{ℕ, zero, suc, ◌+◌, ◌-◌, ◌*◌, ◌/◌, ◌%◌, ◌^◌, ◌≤◌, ◌<◌}
use native.Mathlib.Nat.{pow-suc, pow-le-pow_right, le_trans}
use native.Mathlib.Omega.{arith}
use lib.Dec.{lit<}
use lib.ListN.{length, get_or, drop, drop_of_length-le}
use lib.Seq.{drop-cons}
use borrow.Author.Tests.{eq-eqb, ne_eqb}
use Rattle.hexadecimal.specs.Field.{field_of}
use Rattle.definitions.specs.Line.{is_hex, digit_of, all_hex, hex_value, upper_hex, hex_digits}
use Rattle.digits.proofs.Tests.{clash, and_false}

-- one more digit read
pub read_more : (l : List ℕ) (n i : ℕ) → i < length l
    → hex_value n (drop i l) ≡ hex_value (n * 16 + digit_of (get_or l i 0)) (drop (suc i) l)
read_more l n i h = rw (drop-cons l i 0 h)

pub all_more : (l : List ℕ) (i : ℕ) (t : Bool) → i < length l
    → (t && is_hex (get_or l i 0)) && all_hex (drop (suc i) l) ≡ t && all_hex (drop i l)
all_more l i true h = rw (drop-cons l i 0 h) refl
all_more l i false h = refl

-- a number of at most 16 digits, with one more digit
pub value_more : (n d i : ℕ) → n < 16 ^ i → d ≤ 15 → n * 16 + d < 16 ^ suc i
value_more n d i h k = rw (pow-suc 16 i) (omega arith)

pub value_fits : (n d i : ℕ) → i < 16 → n < 16 ^ i → d ≤ 15 → n * 16 + d < 2 ^ 64
value_fits n d i h m k = le_trans (value_more n d i m k) (pow-le-pow_right (lit< tt) h)

-- a place of hex digits in bits
hex_place : (k : ℕ) → 2 ^ (4 * k) ≡ 16 ^ k
hex_place zero = refl
hex_place (suc k) =
    let more : 4 * suc k ≡ 4 * k + 4 = omega arith in
    rw more (pow-add 2 (4 * k) 4 ∙ ap (λ (p : ℕ). p * 16) (hex_place k) ∙ sym (pow-suc 16 k))

-- one more digit put, of those that are left
pub digit_put : (o : List ℕ) (n k : ℕ) → 0 < k → o ++ (upper_hex (n / 2 ^ (4 * (k - 1)) % 16) ∷ []) ++ hex_digits (k - 1) n ≡ o ++ hex_digits k n
digit_put o n zero h = clash (omega arith)
digit_put o n (suc k) h =
    let less : suc k - 1 ≡ k = omega arith in
    rw (less, hex_place k) (append_assoc o (upper_hex (n / 16 ^ k % 16) ∷ []) (hex_digits k n))

-- what is told once all digits are read
pub field_told : (l : List ℕ) (n i : ℕ) (t : Bool) → length l ≡ 16 → length l ≤ i → t && all_hex (drop i l) ≡ all_hex l
    → (t ≡ true → hex_value n (drop i l) ≡ hex_value 0 l) → then_some t n ≡ field_of l
unfolding field_of
field_told l n i t e h = rw (drop_of_length-le l {i = i} h, eq-eqb (length l) 16 e) (go t)
  where
    go : (t : Bool) → t && true ≡ all_hex l → (t ≡ true → n ≡ hex_value 0 l) → then_some t n ≡ cond (all_hex l) (Some (hex_value 0 l)) None
    go true a v = rw (sym a) (ap Some (v refl))
    go false a v = rw (sym a) refl

-- where they are known to be digits
pub field_read : (l : List ℕ) (n i : ℕ) → length l ≡ 16 → length l ≤ i → all_hex l ≡ true → hex_value n (drop i l) ≡ hex_value 0 l → Some n ≡ field_of l
field_read l n i e h a v = field_told l n i true e h (rw (drop_of_length-le l {i = i} h) (sym a)) (λ t. v)

-- what is told of another length, and of another byte
pub no_field : (l : List ℕ) → (length l ≡ 16 → ⊥) → None ≡ field_of l
unfolding field_of
no_field l h = rw (ne_eqb (length l) 16 h) refl

pub no_digits : (l : List ℕ) → all_hex l ≡ false → None ≡ field_of l
unfolding field_of
no_digits l h = rw (h, and_false) refl
