use Rattle.ternary_bits.proofs.Matching.{test_meets}
use Rattle.ternary_bits.proofs.pattern.Pattern.meets.Goals as goal

pub returns : goal.returns
returns c =
    let p = c.self.inside in
    let q = c.other.inside in
    test_meets p.bits p.care p.value q.bits q.care q.value c.args.self.now c.args.other.now c.other.invariant.2 c.self.view_is c.other.view_is c.requires
