use Rattle.std.proofs.Common.{◌≡◌, Some, None}
use Rattle.net_grow.proofs.TextOfBits.{ended}
use Rattle.ternary_bits.specs.Letters.{rewrite_word}
use Rattle.net_grow.proofs.letters.last_byte.Goals as goal

pub unreachable-requires : goal.unreachable-requires
unreachable-requires c =
    let is = ended c.from.result c.args.word c.letters_around-letters.result c.from.ensures c.letters_around-letters.ensures in
    let none : rewrite_word c.letters_around-letters.result ≡ None = c.in_default.ensures.err in
    cc

pub returns : goal.returns
returns c =
    let is = ended c.from.result c.args.word c.letters_around-letters.result c.from.ensures c.letters_around-letters.ensures in
    let read : rewrite_word c.letters_around-letters.result ≡ Some c.in-Ok.rewrite = c.in-Ok.ensures.ok in
    cc
