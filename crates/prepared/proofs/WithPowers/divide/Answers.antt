-- `divide` meets its contract: near or far, and one divisor taken off.
use Rattle.std.proofs.Common.{◌≡◌, ℕ, ◌+◌, ◌-◌, ◌*◌, ◌/◌, ◌%◌, ◌^◌, ◌<◌, ◌≤◌, get_or, sym, ap, ◌∙◌, lt_of_lt_of_le, arith, pow_pos}
use Rattle.reciprocals.specs.declared.Quotient.{Quotient}
use Rattle.prepared.specs.Prepared.{Shows, shown_of}
use Rattle.prepared.proofs.Shown.{shows_itself, shows_shifted, settled, spread_shown}
use Rattle.prepared.proofs.WithPowers.divide.Goals.{else-j-eq0, else-m-rest, then-j-eq0, then-m-rest}
use Rattle.prepared.proofs.WithPowers.divide.Goals as goal

off_once : (r m : ℕ) → m ≤ r → r < m + m → (m * 1 ≤ r) × (r - m * 1 < m)
off_once r m h l = (omega arith, omega arith)

off_never : (r m : ℕ) → r < m → (m * 0 ≤ r) × (r - m * 0 < m)
off_never r m h = (omega arith, omega arith)

pub returns-clause-answer : goal.returns-clause-answer
returns-clause-answer c =
    let divisor : ℕ =
    c.self.inside.modulus.significand
    in
    let dividend : ℕ =
    c.args.a / 2 ^ 11 * 2 ^ c.args.places
    in
    let Left : Quotient → Type 0 =
    λ l. Shows dividend divisor l.quotient l.remainder × (l.remainder < divisor + divisor)
    in
    let same : (l q : Quotient) → l ≡ q → Left q → Left l =
    λ l q e h. rw e h
    in
    let shows : Left c.if-j-eq0.left =
    elim c.if-j-eq0.branch [
      | then-j-eq0 w ↦ same c.if-j-eq0.left w.near_digit-left.result w.left-is (shows_itself dividend divisor w.near_digit-left.result.quotient w.near_digit-left.result.remainder w.near_digit-left.ensures.0, w.near_digit-left.ensures.1)
      | else-j-eq0 w ↦ let j = c.slot-j.result in
          let e : 58 * j + (c.args.places - 58 * j) ≡ c.args.places = omega arith in
          let power : get_or w.extend-self-inside.new.table j 0 % divisor ≡ 2 ^ (58 * j) % divisor = (w.extend-self-inside.ensures.0.at j (omega arith)).1 in
          same c.if-j-eq0.left w.far_digit-left.result w.left-is (
            shows_shifted (c.args.a / 2 ^ 11) (58 * j) (c.args.places - 58 * j) c.args.places divisor w.far_digit-left.result.quotient w.far_digit-left.result.remainder e
                (w.far_digit-left.ensures.0 (2 ^ (58 * j)) (sym power)),
            w.far_digit-left.ensures.1,
          )
    ]
    in
    let over : ℕ =
    divisor * c.if-m-rest.over
    in
    let off : (over ≤ c.if-j-eq0.left.remainder) × (c.if-j-eq0.left.remainder - over < divisor) =
    elim c.if-m-rest.branch [
      | then-m-rest w ↦ rw w.over-is (off_once c.if-j-eq0.left.remainder divisor w.if-m-rest.true shows.1)
      | else-m-rest w ↦ rw w.over-is (off_never c.if-j-eq0.left.remainder divisor w.if-m-rest.false)
    ]
    in
    let some : 0 < divisor = lt_of_lt_of_le (pow_pos 52) c.self.inside.modulus.top in
    settled dividend divisor c.if-j-eq0.left.quotient c.if-j-eq0.left.remainder shows.0 c.if-m-rest.over c.wrapping_add_u64.result off.0 off.1 c.wrapping_add_u64.ensures.value
    ∙ spread_shown c.args.a (c.args.a / 2 ^ 11) divisor c.args.places some (ends c.args.a c.requires.0)
    ∙ ap (λ (b : ℕ). shown_of c.args.a b c.args.places) c.self.view_is
  where
    ends : (n : ℕ) → n % 2 ^ 11 ≡ 0 → n ≡ n / 2 ^ 11 * 2 ^ 11
    ends n e = omega arith
