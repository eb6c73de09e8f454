-- `next_power` meets its contract.
use Rattle.std.proofs.Common.{ℕ, ◌%◌, sym, ap, ◌∙◌}
use native.Mathlib.Nat.{mul-add-mod_self_right}
use Rattle.prepared.proofs.modulus.Prepared.next_power.Goals as goal

pub returns : goal.returns
returns c =
    let d = c.digit in
    let m = c.args.self.significand in
    (d.ensures.1, sym (mul-add-mod_self_right d.result.quotient m d.result.remainder) ∙ ap (λ (n : ℕ). n % m) d.ensures.0)
