-- A pattern is its sign, its exponent field and its stored significand, whatever the layout. Assumes nothing.
use mathlib.Core.Path.{◌≡◌}
use mathlib.Core.Bool.{Bool, true, false, not, cond, ◌&&◌}
use Prim.Native.Nat.{ℕ, ◌+◌, ◌-◌, ◌*◌, ◌/◌, ◌%◌, ◌≤◌, ◌<◌}
use native.Mathlib.Nat.{le-add_right, mod-lt, mul_comm, div-lt_iff_lt-mul, div-add-mod'}
use native.Mathlib.Omega.{arith}
use borrow.Author.Tests.{le-leb, lt-leb}
use lib.Dec.{T, leb, leb→le, nleb→lt, eqb}
use lib.Arith.{digits_lt, digits_div, digits_mod}
use Rattle.definitions.specs.Format.{Format, top_field, field_weight, sign_weight, patterns, leading, fields_class, class_of, with_sign, ordinary}
use Rattle.laws.proofs.Layouts.{weight_pos}

-- a sign, a field and a stored significand as one number
abbrev pub pack : Format → Bool → ℕ → ℕ → ℕ
pack f n e t = with_sign f n (e * field_weight f + t)

module _ (f : Format) (e t : ℕ) (small : e < top_field f + 1) (rest : t < field_weight f) where
  pub as_digits : (n : Bool) → pack f n e t ≡ (cond n 1 0 * (top_field f + 1) + e) * field_weight f + t
  as_digits true = omega arith
  as_digits false = omega arith

  pub pack_small : (n : Bool) → pack f n e t < patterns f
  pack_small true = omega (arith, digits_lt small rest)
  pack_small false = omega (arith, digits_lt small rest)

  sign_back : (n : Bool) → leb (sign_weight f) (pack f n e t) ≡ n
  sign_back true = le-leb (sign_weight f) (pack f true e t) (le-add_right (sign_weight f) (e * field_weight f + t))
  sign_back false = lt-leb (sign_weight f) (pack f false e t) (omega (arith, digits_lt small rest))

  field_back : (n : Bool) → pack f n e t / field_weight f % (top_field f + 1) ≡ e
  field_back n = rw (as_digits n, digits_div (cond n 1 0 * (top_field f + 1) + e) rest) (digits_mod (cond n 1 0) small)

  rest_back : (n : Bool) → pack f n e t % field_weight f ≡ t
  rest_back n = rw (as_digits n) (digits_mod (cond n 1 0 * (top_field f + 1) + e) rest)

  -- it is read as what was packed
  pub pack_read : (n : Bool) → class_of f (pack f n e t) ≡ fields_class f.layout f n e t
  unfolding class_of
  pack_read n = rw (sign_back n, field_back n, rest_back n)

  -- and is ordinary by its field and its stored significand
  pub pack_ordinary : (n : Bool) → ordinary f (pack f n e t) ≡ not (eqb e 0 && leb (leading f) t)
  unfolding ordinary
  pack_ordinary n = rw (field_back n, rest_back n)

-- and every pattern is packed
pub record Packed (f : Format) (b : ℕ) : Type 0 where
  pub negative : Bool
  pub field : ℕ
  pub rest : ℕ
  pub small : field < top_field f + 1
  pub below : rest < field_weight f
  pub is : pack f negative field rest ≡ b

pub packed : (f : Format) (b : ℕ) → b < patterns f → Packed f b
packed f b h = go (leb (sign_weight f) b) (leb→le (sign_weight f) b) (nleb→lt (sign_weight f) b)
  where
    w : 0 < field_weight f
    w = weight_pos f.layout f.precision

    -- the two fields of c, which has no sign
    parts : (n : Bool) (c : ℕ) → c < sign_weight f → with_sign f n c ≡ b → Packed f b
    parts n c l e =
        record {
          negative = n;
          field = c / field_weight f;
          rest = c % field_weight f;
          small = (div-lt_iff_lt-mul w).1 (rw (mul_comm (top_field f + 1) (field_weight f)) l);
          below = mod-lt c w;
          is = rw (div-add-mod' c (field_weight f)) e;
        }

    go : (t : Bool) → (T t → sign_weight f ≤ b) → (T (not t) → b < sign_weight f) → Packed f b
    go true p q = parts true (b - sign_weight f) (omega (arith, p tt)) (omega (arith, p tt))
    go false p q = parts false b (q tt) (omega arith)

-- what is read at any number has fields of their sizes
pub field_small : (f : Format) (b : ℕ) → b / field_weight f % (top_field f + 1) < top_field f + 1
field_small f b = mod-lt (b / field_weight f) (omega arith)

pub rest_small : (f : Format) (b : ℕ) → b % field_weight f < field_weight f
rest_small f b = mod-lt b (weight_pos f.layout f.precision)
