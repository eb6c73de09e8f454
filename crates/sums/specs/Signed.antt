-- The value of a word with a sign. Nothing to believe: this only names the code's own value.
use Rattle.definitions.specs.Class.{Value}
use Rattle.sums.specs.declared.words.SignedWord.{SignedWord}

abbrev pub value_of : SignedWord → Value
value_of x = record { negative = x.negative; count = x.word }
