-- `round_places` meets its contract: no place leaves n, at 64 places and more all of n is left over, and between them one division tells.
use mathlib.Core.Path.{◌≡◌, sym, ap, ◌∙◌}
use mathlib.Core.Bool.{false}
use Prim.Native.Nat.{ℕ, ◌*◌, ◌/◌, ◌%◌, ◌^◌, ◌<◌}
use native.Mathlib.Nat.{one-mul, lt_of_lt_of_le, mod-lt, mod-eq_of_lt}
use native.Mathlib.Omega.{arith}
use borrow.Author.Tests.{le-ltb, ne_eqb}
use lib.Pow.{pow_pos, pow-lt, pow_mono}
use lib.Dec.{ltb}
use Rattle.rounding.specs.Round.{rounded_of}
use Rattle.rounding.proofs.TiesToEven.{round_none, round_half, round_whole}
use Rattle.rounding.proofs.round_places.Goals.{else-places-eq64, then-places-eq64}
use Rattle.rounding.proofs.round_places.Goals as goal

pub returns-then-places-eq0 : goal.returns-then-places-eq0
returns-then-places-eq0 c =
    let n = c.args.n in
    c.rounded.ensures ∙ rw c.if-places-eq0.true (ap (λ (q : ℕ). rounded_of q 0 false) (omega arith) ∙ sym (round_none n))

pub returns-then-places-ge64 : goal.returns-then-places-ge64
returns-then-places-ge64 c =
    let past_half : c.if-places-eq64.rounded ≡ ltb (2 ^ c.args.places / 2) c.args.n =
    let a = c.args in
    let p = 2 ^ a.places in
    elim c.if-places-eq64.branch [
      | then-places-eq64 w ↦ w.rounded-is ∙ ap (λ (h : ℕ). ltb h a.n) (rw w.if-places-eq64.true (omega arith))
      | else-places-eq64 w ↦ w.rounded-is ∙ ne_eqb a.places 64 w.if-places-eq64.false ∙ sym (le-ltb (p / 2) a.n (let m = pow_mono {i = 65} {j = a.places} (omega arith) in omega arith))
    ]
    in
    let a = c.args in
    let p = pow_mono {i = 64} {j = a.places} (omega arith) in
    c.rounded-then-places-ge64.ensures ∙ ap (rounded_of 0 a.n) past_half ∙ sym (round_whole a.n a.places (omega arith) (omega arith))

-- the number compared with the half is found by its value: its terms may be exchanged, or shifted forth and back
pub returns : goal.returns
returns c =
    let power : 1 * 2 ^ c.args.places % 2 ^ 64 ≡ 2 ^ c.args.places =
    rw one-mul (mod-eq_of_lt (pow-lt {j = 64} (omega arith)))
    in
    let left_over : c.args.n % 2 ^ c.args.places < 2 ^ 63 =
    lt_of_lt_of_le (mod-lt c.args.n (pow_pos _)) (pow_mono {j = 63} (omega arith))
    in
    let a = c.args in
    let p = 2 ^ a.places in
    c.rounded-2.ensures
    ∙ rw power
    (ap (λ (t : ℕ). rounded_of (a.n / p) (a.n % p) (ltb (p / 2) t)) (omega (arith, left_over))
    ∙ sym (round_half a.n a.places (omega arith)))
