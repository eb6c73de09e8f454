-- A header and the points behind it are the file, and behind them is what was there. Assumes nothing.
use mathlib.Core.Path.{◌≡◌, refl, sym, ap, ◌∙◌}
use mathlib.Core.Bool.{cond}
use mathlib.Core.List.{List, ◌++◌}
use Prim.Native.Nat.{ℕ, ◌+◌, ◌*◌}
use native.Mathlib.Nat.{zero-add}
use native.Mathlib.Omega.{arith}
use borrow.Author.Tests.{ne_eqb}
use lib.Dec.{eqb}
use lib.ListN.{length, drop}
use lib.Seq.{sets, sets-eq}
use Rattle.definitions.specs.Numbers.{first}
use Rattle.definitions.specs.Stem.{gauge_of, header_length, point_length}
use Rattle.definitions.specs.StemWriter.{points_of, header, point_bytes, stem_file, writing, Written, write_fields}
use Rattle.stem_writer.proofs.Stores.{sets_more}
use Rattle.laws.proofs.Stem.{held}
use Rattle.laws.proofs.StemWriter.{header_held, accepted, length_pairs, length_file}

module _ (kind period origin : ℕ) (readings radii room : List ℕ) where
  abbrev pub number : ℕ
  number = first (writing kind period origin (length readings) (length radii) (length room))

  abbrev count : ℕ
  count = length readings

  abbrev points : List ℕ
  points = point_bytes (points_of readings radii)

  abbrev end : ℕ
  end = header_length + point_length * count

  pub refused_call : (n : ℕ) → n ≡ number → (n ≡ 0 → ⊥) → ◌≡◌ {A = Written} (record { number = n; written = 0; room = room }) (write_fields kind period origin readings radii room)
  unfolding write_fields
  refused_call n is some = rw (← is, ne_eqb n 0 some)

  pub written_call : (n : ℕ) (room₁ room₂ : List ℕ) → n ≡ number → n ≡ 0
      → room₁ ≡ sets room 0 (header kind count period origin)
      → room₂ ≡ sets room₁ header_length points
      → ◌≡◌ {A = Written} (record { number = n; written = end; room = room₂ }) (write_fields kind period origin readings radii room)
  unfolding write_fields
  written_call n room₁ room₂ is none e₁ e₂ =
      let numbered : number ≡ 0 = sym is ∙ none in
      let a = accepted kind period origin count (length radii) (length room) numbered in
      let g = gauge_of kind period origin in
      let ps = points_of readings radii in
      let front = header kind count period origin in
      let pairs : length ps ≡ count = length_pairs readings radii a.equal in
      let parts : stem_file g ps ≡ front ++ points =
      ap (λ (l : List ℕ). l ++ points) (header_held kind period origin g (length ps) count (held kind period origin a.known a.gauge) pairs) in
      let long : length (stem_file g ps) ≡ end = length_file g ps ∙ ap (λ (k : ℕ). header_length + point_length * k) pairs in
      let joined : room₂ ≡ sets room 0 (front ++ points) = rw (e₂, e₁) (sets_more room front points 0 header_length refl) in
      let later : room₂ ≡ stem_file g ps ++ drop (length (stem_file g ps)) room =
      joined ∙ ap (sets room 0) (sym parts) ∙ rw (zero-add (length (stem_file g ps))) at (sets-eq (stem_file g ps) room 0 (omega (arith, a.fits, long))) in
      go number (stem_file g ps) numbered long later
    where
      go : (m : ℕ) (file : List ℕ) → m ≡ 0 → length file ≡ end → room₂ ≡ file ++ drop (length file) room
          → ◌≡◌ {A = Written} (record { number = n; written = end; room = room₂ })
          (record { number = m; written = cond (eqb m 0) (length file) 0; room = cond (eqb m 0) (file ++ drop (length file) room) room })
      go m file numbered long later = rw (numbered, none, later, long)
