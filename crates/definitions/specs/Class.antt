-- What a bit pattern stands for. Every finite value of a format is a sign and a whole number of the format's smallest place,
-- so that nothing here is a fraction and nothing rounds. Definitions only.
use Rattle.std.specs.Prelude.{ℕ, Bool, true, false, not, cond, eqb, ℤ, pos, neg_ℤ, ◌-ℤ◌}
use Rattle.std.specs.Bool.{beq}
use Rattle.std.specs.Float.Ieee.{size}

-- [2.1] a finite value: its sign, and its count of the smallest place
pub record Value : Type 0 where
  pub negative : Bool
  pub count : ℕ

-- [1.2] what any bit pattern stands for. A NaN keeps its pattern: its sign, and its significand as it is stored
pub data Class : Type 0 where
  unsupported : Class
  nan : (negative : Bool) (stored : ℕ) → Class
  infinite : Bool → Class
  finite : Value → Class

-- a value as a signed whole number
abbrev pub signed : Bool → ℕ → ℤ
signed true n = neg_ℤ (pos n)
signed false n = pos n

abbrev pub value_of : Value → ℤ
value_of v = signed v.negative v.count

-- [3.3] the sign that two values have together
abbrev pub combined : Bool → Bool → Bool
combined s t = not (beq s t)

-- [2.8] the gap D of the counts n and m
-- `size n` is how many binary digits n has, so the leading one of n is size n - 1 places above the smallest place, which cancels.
unfoldable pub gap : ℕ → ℕ → ℤ
gap n m = cond (eqb n 0) (pos 0) (pos (size n) -ℤ pos (size m))
