-- A list of checks whose numbers all refuse leaves what was lent, unless none of them applies. Assumes nothing.
use mathlib.Core.Path.{◌≡◌, refl, sym, ap, ◌∙◌}
use mathlib.Core.Bool.{Bool, true, false, not, cond, ◌&&◌}
use mathlib.Core.List.{List, [], ◌∷◌}
use Prim.Native.Nat.{ℕ}
use borrow.Author.Tests.{not-true}
use Rattle.definitions.specs.Numbers.{Check, first, accepted}
use Rattle.definitions.specs.Exports.{after}
use Rattle.digits.proofs.Tests.{and_both}

abbrev refusing : List Check → Bool
refusing [] = true
refusing (c ∷ cs) = not (accepted c.number) && refusing cs

refuses : (cs : List Check) → refusing cs ≡ true → (first cs ≡ 0 → ⊥) → accepted (first cs) ≡ false
unfolding first
refuses [] r h = absurd (h refl)
refuses (c ∷ cs) r h =
    let b = and_both (not (accepted c.number)) (refusing cs) r in
    go c.test (not-true (accepted c.number) b.0) (refuses cs b.1) h
  where
    go : (t : Bool) → accepted c.number ≡ false → ((first cs ≡ 0 → ⊥) → accepted (first cs) ≡ false)
        → (cond t c.number (first cs) ≡ 0 → ⊥) → accepted (cond t c.number (first cs)) ≡ false
    go true e rest h = e
    go false e rest h = rest h

pub kept : {A : Type 0} (cs : List Check) (n : ℕ) (answer lent : A) → refusing cs ≡ true → first cs ≡ n → (n ≡ 0 → ⊥)
    → lent ≡ after n answer lent
kept cs n answer lent r e h = rw (sym (ap accepted e) ∙ refuses cs r (λ z. h (sym e ∙ z)))
