use Rattle.std.proofs.Common.{sym}
use Rattle.ternary_bits.proofs.Matching.{length-pattern_of}
use Rattle.ternary_bits.proofs.pattern.Pattern.bits.Goals as goal

pub returns-clause-width : goal.returns-clause-width
returns-clause-width c = sym (length-pattern_of c.self.inside.bits c.self.inside.care c.self.inside.value c.args.self.now c.self.view_is)
