use Rattle.ternary_bits.specs.Words.{letter_at}
use Rattle.ternary_bits.specs.Inverses.{length-places, care_back, asked_back}
use Rattle.ternary_bits.proofs.pattern.Pattern.of_words.Goals as goal

pub returns-clause-width : goal.returns-clause-width
returns-clause-width c = length-places (letter_at c.args.care c.args.value) c.args.bits

pub returns-clause-care : goal.returns-clause-care
returns-clause-care c = care_back c.args.bits c.args.care c.args.value c.requires.care

pub returns-clause-value : goal.returns-clause-value
returns-clause-value c = asked_back c.args.bits c.args.care c.args.value c.requires.care c.requires.value
