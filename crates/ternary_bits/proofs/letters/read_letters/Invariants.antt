use Rattle.ternary_bits.proofs.Reading.{HasRead}
use Rattle.ternary_bits.proofs.letters.read_letters.Given as goal

abbrev pub invariant-loop-at : goal.invariant-loop-at
invariant-loop-at l = HasRead l.blank l.text l.at l.care l.value
