-- `divide_turn` meets its contract: the dividend is moved over two words, and divided by the reciprocal.
use mathlib.Core.Path.{ap, ◌∙◌}
use native.Mathlib.Nat.{mod-eq_of_lt}
use Rattle.division.specs.Divided.{low_of}
use Rattle.division.proofs.Places.{first_word}
use Rattle.quick_x87.proofs.divide_turn.Goals as goal

pub returns : goal.returns
returns c =
    let a = c.args in
    c.from.ensures ∙ ap low_of ((rw c.new-inverse.ensures at c.divide_words.ensures) ∙ (rw (mod-eq_of_lt c.requires.1) at (first_word a.a a.b a.places)))
