use Rattle.std.proofs.Common.{refl}
use Rattle.ternary_bits.specs.Letters.{pattern_text}
use Rattle.ternary_bits.proofs.Written.{pattern_word-written}
use Rattle.ternary_bits.proofs.pattern.Pattern.put.Goals as goal

pub returns-clause-back : goal.returns-clause-back
returns-clause-back c =
    let p = c.args.self.now in
    pattern_word-written p (pattern_text p) c.put_letters.ensures.range.0 c.put_letters.ensures.range.1 refl
