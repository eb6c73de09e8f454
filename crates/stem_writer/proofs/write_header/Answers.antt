-- `write_header` meets its contract: field after field, each behind what stands there.
use mathlib.Core.Path.{◌≡◌, refl, ap, ◌∙◌}
use mathlib.Core.List.{List, [], ◌∷◌, ◌++◌}
use Prim.Native.Nat.{ℕ, ◌≤◌, ◌<◌, ◌%◌}
use native.Mathlib.Omega.{arith}
use lib.ListN.{length, set}
use lib.Seq.{sets}
use Rattle.definitions.specs.Bytes.{bytes_of}
use Rattle.definitions.specs.Stem.{header_length, mark, version}
use Rattle.definitions.specs.StemWriter.{header}
use Rattle.little_endian.specs.Stored.{stored}
use Rattle.stem_writer.proofs.Stores.{sets_more, stored_more}
use Rattle.stem_writer.proofs.write_header.Goals as goal

-- ---- what stands at the front
abbrev to_version : List ℕ
to_version = mark ++ bytes_of 2 version

abbrev to_kind : ℕ → List ℕ
to_kind kind = to_version ++ bytes_of 1 kind

abbrev to_count : ℕ → ℕ → List ℕ
to_count kind count = to_kind kind ++ bytes_of 4 count

abbrev to_period : ℕ → ℕ → ℕ → List ℕ
to_period kind count period = to_count kind count ++ bytes_of 8 period

pub returns : goal.returns
returns c =
    let after2 : c.store.new.bytes ≡ sets c.args.room.now 0 to_version =
    let room = c.args.room.now in
    let fits : header_length ≤ length room = c.requires.0 in
    c.store.ensures ∙ stored_more room mark 0 3 2 version refl (omega arith)
    in
    let after4 : let a = c.args in c.store-2.new.bytes ≡ sets a.room.now 0 (to_count a.fields.kind a.count) =
    let a = c.args in
    let room = a.room.now in
    let fits : header_length ≤ length room = c.requires.0 in
    let byte_small : a.fields.kind < 256 = c.requires.1 in
    let small : a.fields.kind % 256 ≡ a.fields.kind = omega arith in
    let byte : set (sets room 0 to_version) 5 a.fields.kind ≡ sets room 0 (to_kind a.fields.kind) = rw small (sets_more room to_version (a.fields.kind ∷ []) 0 5 refl) in
    c.store-2.ensures
    ∙ ap (λ (r : List ℕ). stored 4 6 a.count (set r 5 a.fields.kind)) after2
    ∙ ap (stored 4 6 a.count) byte
    ∙ stored_more room (to_kind a.fields.kind) 0 6 4 a.count refl (omega arith)
    in
    let after8 : let a = c.args in c.store-3.new.bytes ≡ sets a.room.now 0 (to_period a.fields.kind a.count a.fields.period) =
    let a = c.args in
    let room = a.room.now in
    let fits : header_length ≤ length room = c.requires.0 in
    c.store-3.ensures
    ∙ ap (stored 8 10 a.fields.period) after4
    ∙ stored_more room (to_count a.fields.kind a.count) 0 10 8 a.fields.period refl (omega arith)
    in
    let after82 : let a = c.args in c.store-4.new.bytes ≡ sets a.room.now 0 (header a.fields.kind a.count a.fields.period a.fields.origin) =
    let a = c.args in
    let room = a.room.now in
    let fits : header_length ≤ length room = c.requires.0 in
    c.store-4.ensures
    ∙ ap (stored 8 18 a.fields.origin) after8
    ∙ stored_more room (to_period a.fields.kind a.count a.fields.period) 0 18 8 a.fields.origin refl (omega arith)
    in
    after82
