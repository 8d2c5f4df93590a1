use Rattle.ternary_bits.proofs.Sameness.{pattern_same}
use Rattle.ternary_bits.proofs.pattern.Pattern.same.Goals as goal

pub returns : goal.returns
returns c =
    let (a, b, low, within) = c.self.invariant in
    let (x, y, lows, withins) = c.other.invariant in
    pattern_same _ _ _ _ _ _ low within lows withins c.args.self.now c.args.other.now c.self.view_is c.other.view_is c.eq.result c.eq.ensures
