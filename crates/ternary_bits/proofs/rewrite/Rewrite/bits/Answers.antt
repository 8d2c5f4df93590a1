use Rattle.std.proofs.Common.{sym}
use Rattle.ternary_bits.proofs.Rewriting.{length-rewrite_of, rewrite_within}
use Rattle.ternary_bits.proofs.rewrite.Rewrite.bits.Goals as goal

pub returns-clause-width : goal.returns-clause-width
returns-clause-width c =
    let r = c.self.inside in
    sym (length-rewrite_of r.bits r.set r.value r.sources c.args.self.now c.self.view_is)

pub returns-clause-within : goal.returns-clause-within
returns-clause-within c =
    let r = c.self.inside in
    rewrite_within r.bits r.set r.value r.moved r.sources c.args.self.now c.self.invariant c.self.view_is
