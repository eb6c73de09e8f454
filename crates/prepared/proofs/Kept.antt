-- Powers of two modulo a divisor, kept in a table. Assumes nothing.
use Rattle.std.proofs.Common.{◌≡◌, ℕ, ◌+◌, ◌-◌, ◌*◌, ◌%◌, ◌^◌, ◌<◌, ◌≤◌, List, get_or, set, replicate, sym, refl, ap, ◌∙◌, ⊎_elim, eq-or-lt_of_le, ne_of_lt, arith, get_or-set_other, get_or-set_same, pow-add}
use Rattle.digits.proofs.Common.{mod_times}
use Rattle.prepared.specs.Prepared.{Power, Powers}

-- the power of no places is 1
pub started : (m : ℕ) → 2 ^ 52 ≤ m → Powers m 1 (replicate 36 1)
started m top = record { room = refl; some = omega arith; fits = omega arith; at = λ j l. first j (omega arith) }
  where
    first : (j : ℕ) → j ≡ 0 → Power m j (get_or (replicate 36 1) j 0)
    first j z = rw z (omega arith, refl)

-- 58 places more
next_is : (m n k p : ℕ) → 0 < n → k % m ≡ 2 ^ (58 * (n - 1)) % m → p % m ≡ k * 2 ^ 58 % m → p % m ≡ 2 ^ (58 * n) % m
next_is m n k p some is e =
    let f : 58 * (n - 1) + 58 ≡ 58 * n = omega arith in
    e ∙ sym (mod_times k (2 ^ 58) m) ∙ ap (λ (i : ℕ). i * 2 ^ 58 % m) is ∙ mod_times (2 ^ (58 * (n - 1))) (2 ^ 58) m
    ∙ ap (λ (i : ℕ). i % m) (sym (pow-add 2 (58 * (n - 1)) 58) ∙ ap (λ (i : ℕ). 2 ^ i) f)

pub stored : (table : List ℕ) (m n p : ℕ) → Powers m n table → n < 36 → p < m + m → p % m ≡ get_or table (n - 1) 0 * 2 ^ 58 % m
    → (j : ℕ) → j < n + 1 → Power m j (get_or (set table n p) j 0)
stored table m n p t h small e j l =
    ⊎_elim
    (λ (q : j ≡ n).
    rw (q, get_or-set_same table n p 0 (let r = t.room in omega arith))
    (small, next_is m n (get_or table (n - 1) 0) p t.some (t.at (n - 1) (let s = t.some in omega arith)).1 e))
    (λ (q : j < n). rw (get_or-set_other table n j p 0 (ne_of_lt q)) (t.at j q))
    (eq-or-lt_of_le (let r : j ≤ n = omega arith in r))
