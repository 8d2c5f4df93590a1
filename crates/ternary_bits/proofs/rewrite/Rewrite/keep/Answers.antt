use Rattle.std.proofs.Common.{refl}
use Rattle.std.proofs.lemmas.Nat.{pow_pos}
use Rattle.ternary_bits.proofs.Rewriting.{keep_words, letters_ok}
use Rattle.ternary_bits.proofs.rewrite.Rewrite.keep.Goals as goal

pub invariant_of-result : goal.invariant_of-result
invariant_of-result c = letters_ok c.args.bits 0 0 c.requires.0 c.requires.1 (pow_pos c.args.bits) refl

pub returns : goal.returns
returns c = keep_words c.args.bits
