-- [4.7, 4.10] The parts of a chain add up to the whole quotient taken, all with one sign, and the first dividend is the value plus the
-- divisor times them: of one step, of a run, and of chains put together. Assumes nothing.
use mathlib.Core.Path.{◌≡◌, refl, sym, ap, ◌∙◌}
use mathlib.Core.Bool.{Bool, true, false, cond}
use mathlib.Core.List.{List, [], ◌∷◌, ◌++◌}
use Prim.Native.Nat.{ℕ, zero, suc, ◌+◌, ◌*◌, ◌<◌}
use native.Mathlib.Omega.{arith}
use lib.IntN.{ℤ, pos, nat_abs, ◌+ℤ◌, ◌*ℤ◌, +ℤ_idl, +ℤ_idr, +ℤ_assoc, *ℤ-zero}
use Rattle.definitions.specs.Class.{Value, signed, value_of, combined}
use Rattle.definitions.specs.declared.Kind.{Kind}
use Rattle.definitions.specs.Division.{Outcome, by, finish}
use Rattle.definitions.specs.Steps.{cut_at, step, followed, run, Link, chain, signed_part, parts_sum}
use Rattle.laws.proofs.Division.{signed_mul, signed_add, rule}
use Rattle.chains.proofs.Step.{step_cases, cut_sum, step_sign}

-- x is the value v and the divisor y times p
abbrev pub Exact : Value → Value → Value → ℤ → Type 0
Exact y x v p = value_of x ≡ value_of v +ℤ value_of y *ℤ p

-- the quotient taken of x by y, with its sign
abbrev pub signed_whole : Value → Value → Outcome → ℤ
signed_whole y x r = signed (combined x.negative y.negative) r.whole

-- an outcome to x by y, exact with its own part
abbrev pub ExactReply : Value → Value → Outcome → Type 0
ExactReply y x r = Exact y x r.value (signed_whole y x r)

-- [4.3] of a partial step
pub cut_exact : (j : ℕ) (y x : Value) → ExactReply y x (cut_at j y.count x)
unfolding cut_at
cut_exact j y x =
    let s = x.negative in
    let r = cut_at j y.count x in
    ap (signed s) (cut_sum j y.count x) ∙ signed_add s r.value.count (y.count * r.whole)
    ∙ ap (λ (z : ℤ). signed s r.value.count +ℤ z) (sym (signed_mul s y.negative y.count r.whole))

pub step_exact : (κ : Kind) (n : ℕ) (y x : Value) → 0 < y.count → ExactReply y x (step κ n (by y.count) x)
unfolding finish
step_exact κ n y x p =
    step_cases (ExactReply y x) κ n y.count x (λ e. rule κ y.count y.negative x p) (λ e q l j i. cut_exact j y x)

-- an outcome that is exact, and whose steps have parts of the sum p
pub record Accounts (y x : Value) (r : Outcome) (p : ℤ) : Type 0 where
  pub exact : ExactReply y x r
  pub parts : p ≡ signed_whole y x r

pub accounts_exact : {y x : Value} {r : Outcome} {p : ℤ} → Accounts y x r p → Exact y x r.value p
accounts_exact h = rw h.parts h.exact

abs_signed : (s : Bool) (n : ℕ) → nat_abs (signed s n) ≡ n
abs_signed true zero = refl
abs_signed true (suc n) = refl
abs_signed false n = refl

pub accounts_whole : {y x : Value} {r : Outcome} {p : ℤ} → Accounts y x r p → nat_abs p ≡ r.whole
accounts_whole {y} {x} {r} h = ap nat_abs h.parts ∙ abs_signed (combined x.negative y.negative) r.whole

-- nothing is taken yet
signed_zero : (s : Bool) → signed s 0 ≡ pos 0
signed_zero true = refl
signed_zero false = refl

pub accounts_none : (y x : Value) → Accounts y x (record { done = false; value = x; whole = 0; steps = 0 }) (pos 0)
accounts_none y x =
    let z = signed_zero (combined x.negative y.negative) in
    record { exact = rw (z, *ℤ-zero (value_of y)) (sym (+ℤ_idr (value_of x))); parts = sym z }

-- one outcome after another that has left the sign as it was
times_add : (y x : Value) (a b : ℕ) → let c = combined x.negative y.negative in
    value_of y *ℤ signed c b +ℤ value_of y *ℤ signed c a ≡ value_of y *ℤ signed c (a + b)
times_add y x a b =
    let s = x.negative in
    let t = y.negative in
    let m = y.count in
    let e : m * (a + b) ≡ m * b + m * a = omega arith in
    (λ i. signed_mul s t m b i +ℤ signed_mul s t m a i) ∙ sym (signed_mul s t m (a + b) ∙ ap (signed s) e ∙ signed_add s (m * b) (m * a))

pub accounts_followed : (y x : Value) (r s : Outcome) (p q : ℤ) → r.value.negative ≡ x.negative → Accounts y x r p → Accounts y r.value s q
    → Accounts y x (followed r s) (p +ℤ q)
accounts_followed y x r s p q e f g =
    let u = value_of s.value in
    let a = value_of y *ℤ signed_whole y x r in
    let b = value_of y *ℤ signed_whole y r.value s in
    record {
      exact = f.exact ∙ ap (λ (z : ℤ). z +ℤ a) g.exact ∙ +ℤ_assoc u b a ∙ ap (λ (z : ℤ). u +ℤ z) (rw e (times_add y x r.whole s.whole));
      parts = rw (f.parts, g.parts, e) (sym (signed_add (combined x.negative y.negative) r.whole s.whole));
    }

-- over the chain of a run
pub chain_accounts : (κ : Kind) (n b : ℕ) (y x : Value) → 0 < y.count → Accounts y x (run κ n b (by y.count) x) (parts_sum y (chain κ n b (by y.count) x))
unfolding run chain parts_sum
chain_accounts κ n zero y x p = accounts_none y x
chain_accounts κ n (suc b) y x p = go s.done refl (chain_accounts κ n b y s.value p)
  where
    s : Outcome
    s = step κ n (by y.count) x

    r : Outcome
    r = run κ n b (by y.count) s.value

    ls : List Link
    ls = chain κ n b (by y.count) s.value

    own : ℤ
    own = signed_whole y x s

    go : (t : Bool) → s.done ≡ t → Accounts y s.value r (parts_sum y ls) → Accounts y x (cond t s (followed s r)) (own +ℤ parts_sum y (cond t [] ls))
    go true e h = record { exact = step_exact κ n y x p; parts = +ℤ_idr own }
    go false e h = accounts_followed y x s r own (parts_sum y ls) (step_sign κ n y.count x e) (record { exact = step_exact κ n y x p; parts = refl }) h

pub chain_exact : (κ : Kind) (n b : ℕ) (y x : Value) → 0 < y.count
    → Exact y x (run κ n b (by y.count) x).value (parts_sum y (chain κ n b (by y.count) x))
chain_exact κ n b y x p = accounts_exact (chain_accounts κ n b y x p)

-- the parts of two chains
pub parts_append : (y : Value) (ks ls : List Link) → parts_sum y (ks ++ ls) ≡ parts_sum y ks +ℤ parts_sum y ls
unfolding parts_sum
parts_append y [] ls = sym (+ℤ_idl (parts_sum y ls))
parts_append y (k ∷ ks) ls =
    ap (λ (z : ℤ). signed_part y k +ℤ z) (parts_append y ks ls) ∙ sym (+ℤ_assoc (signed_part y k) (parts_sum y ks) (parts_sum y ls))
