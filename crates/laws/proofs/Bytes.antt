-- Numbers as bytes: a number of k bytes and a list of k bytes are the same, and bytes in a row are a number by its digits. Assumes nothing.
use mathlib.Core.Path.{◌≡◌, refl, ap, ◌∙◌}
use mathlib.Core.List.{List, [], ◌∷◌, ◌++◌}
use Prim.Native.Nat.{ℕ, zero, suc, ◌+◌, ◌*◌, ◌/◌, ◌%◌, ◌^◌, ◌<◌}
use native.Mathlib.Nat.{zero-add, suc-add, mul_assoc, mul_comm, pow-suc, one-le-pow}
use native.Mathlib.Omega.{arith}
use lib.Arith.{mod-mul}
use lib.Dec.{lit<}
use lib.ListN.{length, get_or, take, drop}
use Rattle.definitions.specs.Bytes.{bytes_of, of_bytes}

-- every element is a byte, as owning a slice of bytes tells it; past the end stands 0
abbrev pub AreBytes : List ℕ → Type 0
AreBytes bs = (i : ℕ) → get_or bs i 0 < 256

pub length_bytes : (k n : ℕ) → length (bytes_of k n) ≡ k
length_bytes zero n = refl
length_bytes (suc k) n = ap suc (length_bytes k (n / 256))

-- ---- both round trips

pub of_bytes_lem : (k n : ℕ) → of_bytes (bytes_of k n) ≡ n % 256 ^ k
of_bytes_lem zero n = omega arith
of_bytes_lem (suc k) n =
    rw (of_bytes_lem k (n / 256), pow-suc 256 k, mod-mul n {m = 256 ^ k} {c = 256} (one-le-pow k 256 (lit< tt)) (lit< tt)) (omega arith)

-- one byte, and those above it
bytes_up : (k n b : ℕ) → b < 256 → bytes_of (suc k) (b + 256 * n) ≡ b ∷ bytes_of k n
bytes_up k n b h =
    let low : (b + 256 * n) % 256 ≡ b = omega arith in
    let high : (b + 256 * n) / 256 ≡ n = omega arith in
    rw (low, high)

pub bytes_of_lem : (k : ℕ) (bs : List ℕ) → length bs ≡ k → AreBytes bs → bytes_of k (of_bytes bs) ≡ bs
bytes_of_lem k [] e h = rw (← e)
bytes_of_lem k (b ∷ bs) e h =
    rw (← e) (bytes_up (length bs) (of_bytes bs) b (h 0) ∙ ap (λ (l : List ℕ). b ∷ l) (bytes_of_lem (length bs) bs refl (λ i. h (suc i))))

-- ---- bytes in a row

-- the bytes of a number of k low bytes and others above them
pub bytes_joined : (k j s w : ℕ) → s < 256 ^ k → bytes_of (k + j) (w * 256 ^ k + s) ≡ bytes_of k s ++ bytes_of j w
bytes_joined zero j s w h = let e : w * 1 + s ≡ w = omega arith in rw (zero-add j, e)
bytes_joined (suc k) j s w h =
    let n = w * 256 ^ k + s / 256 in
    let e : w * 256 ^ suc k + s ≡ s % 256 + 256 * n = rw (pow-suc 256 k, ← mul_assoc w (256 ^ k) 256) (omega arith) in
    rw (suc-add k j, e, bytes_up (k + j) n (s % 256) (omega arith)) (ap (λ (l : List ℕ). s % 256 ∷ l) (bytes_joined k j (s / 256) w (omega (arith, pow-suc 256 k))))

-- and the number that they are
pub number_joined : (bs cs : List ℕ) → of_bytes (bs ++ cs) ≡ of_bytes bs + 256 ^ length bs * of_bytes cs
number_joined [] cs = omega arith
number_joined (b ∷ bs) cs =
    rw (number_joined bs cs, pow-suc 256 (length bs), mul_comm (256 ^ length bs) 256, mul_assoc 256 (256 ^ length bs) (of_bytes cs)) (omega arith)

-- ---- a part of bytes is bytes

pub take_bytes : (k : ℕ) (l : List ℕ) → AreBytes l → AreBytes (take k l)
take_bytes zero l h i = lit< tt
take_bytes (suc k) [] h i = lit< tt
take_bytes (suc k) (b ∷ l) h zero = h 0
take_bytes (suc k) (b ∷ l) h (suc i) = take_bytes k l (λ j. h (suc j)) i

pub drop_bytes : (k : ℕ) (l : List ℕ) → AreBytes l → AreBytes (drop k l)
drop_bytes zero l h = h
drop_bytes (suc k) [] h = h
drop_bytes (suc k) (b ∷ l) h = drop_bytes k l (λ i. h (suc i))
