use Rattle.std.proofs.Common.{◌≡◌, take}
use Rattle.text_words.specs.Numbers.{digits_value}
use Rattle.text_words.proofs.numerals.number.Given as goal

abbrev pub invariant-loop-digit : goal.invariant-loop-digit
invariant-loop-digit l = l.value ≡ digits_value (take l.digit-index l.word)
