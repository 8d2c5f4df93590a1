use Rattle.ternary_bits.proofs.Matching.{test_matches}
use Rattle.ternary_bits.proofs.pattern.Pattern.matches.Goals as goal

pub returns : goal.returns
returns c =
    test_matches c.self.inside.bits c.self.inside.care c.self.inside.value c.number.result c.args.self.now c.args.header.now c.self.invariant.2 c.self.view_is c.number.ensures.number c.requires
