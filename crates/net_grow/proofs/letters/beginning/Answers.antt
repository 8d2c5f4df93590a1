use Rattle.std.proofs.Common.{◌≡◌, Some, None}
use Rattle.net_grow.proofs.TextOfBits.{begun}
use Rattle.ternary_bits.specs.Letters.{pattern_word}
use Rattle.net_grow.proofs.letters.beginning.Goals as goal

pub unreachable-requires : goal.unreachable-requires
unreachable-requires c =
    let is = begun c.args.size c.args.word c.letters_around-letters.result c.requires c.letters_around-letters.ensures in
    let none : pattern_word c.letters_around-letters.result ≡ None = c.in_default.ensures.err in
    cc

pub returns : goal.returns
returns c =
    let is = begun c.args.size c.args.word c.letters_around-letters.result c.requires c.letters_around-letters.ensures in
    let read : pattern_word c.letters_around-letters.result ≡ Some c.in-Ok.pattern = c.in-Ok.ensures.ok in
    cc
