-- What an exported call that writes leaves, from what the library told. Assumes nothing.
use mathlib.Core.Path.{◌≡◌, refl, sym, ap, ◌∙◌}
use mathlib.Core.List.{List}
use Prim.Native.Nat.{ℕ}
use lib.ListN.{length}
use Rattle.definitions.specs.Exports.{after}
use Rattle.definitions.specs.StemWriter.{Written, writing, write_fields}
use Rattle.laws.proofs.StemWriter.{write_number}
use Rattle.export_stems.proofs.Refusing.{kept}

-- told as a number n and a length w beside what is left of the room; `held` is what the length's place held
module _ (kind period origin : ℕ) (readings radii room room₁ : List ℕ) (n w held : ℕ)
    (told : record { number = n; written = w; room = room₁ } ≡ write_fields kind period origin readings radii room) where
  abbrev W : Written
  W = write_fields kind period origin readings radii room

  pub refused : (n ≡ 0 → ⊥) → (n ≡ W.number) × ((room₁ ≡ W.room) × (held ≡ after n W.written held))
  refused h =
      let e = ap (λ (t : Written). t.number) told in
      let checks = writing kind period origin (length readings) (length radii) (length room) in
      (e, (ap (λ (t : Written). t.room) told, kept checks n W.written held refl (sym (e ∙ write_number kind period origin readings radii room)) h))

  pub written : n ≡ 0 → (n ≡ W.number) × ((room₁ ≡ W.room) × (w ≡ after n W.written held))
  written e = (ap (λ (t : Written). t.number) told, (ap (λ (t : Written). t.room) told, rw e (ap (λ (t : Written). t.written) told)))
