use Rattle.std.proofs.Common.{◌≡◌, ℕ, ◌+◌, List, length, replicate}
use Rattle.std.specs.List.{between}
use Rattle.ternary_bits.specs.Letters.{header_text}
use Rattle.ternary_bits.specs.Words.{header_of}
use Rattle.net_grow.proofs.TextOfBits.{around}
use Rattle.net_grow.proofs.letters.letters_around.Goals as goal

pub returns : goal.returns
returns c =
    let part : List ℕ = between c.args.at (c.args.at + c.args.size) (replicate 128 c.args.blank) in
    let written : c.put_bits.new.letters ≡ header_text (header_of (length part) c.args.word) = c.put_bits.ensures in
    around c.args.blank c.args.at c.args.word c.args.size c.put_bits.new.letters c.requires.0 written
